use Rattle.std.proofs.Common.{[]}
use Rattle.board_text.specs.LineForms.{with_line_feed}
use Rattle.console.specs.Showing.{shown}
use Rattle.console.proofs.MoreTexts.{then_more}
use Rattle.console.proofs.showing.write_line.Goals as goal

pub returns : goal.returns
returns g c =
    then_more g.E.Sink.contents g.E.Sink.has_failed c.args.errors.now c.write_shown.new.errors c.write_more.new.writer
    (shown c.args.words.now) (with_line_feed []) c.write_shown.ensures c.write_more.ensures
