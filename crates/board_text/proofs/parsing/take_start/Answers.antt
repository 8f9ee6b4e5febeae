use Rattle.std.proofs.Common.{◌+◌, sym, ap, ◌∙◌, arith}
use Rattle.std.specs.Prelude.{codes}
use Rattle.board_text.specs.PlainBoard.{version_of}
use Rattle.board_text.proofs.Lines.{small_numbers}
use Rattle.board_text.proofs.PlaceLemmas.{places_line_unique}
use Rattle.board_text.proofs.parsing.take_start.Goals as goal

pub returns-else-version_of-version : goal.returns-else-version_of-version
returns-else-version_of-version c = λ ns more is e.
    let read = c.in_ok-places_line.ensures in
    let same = places_line_unique c.args.labels (codes "start") c.places_line.new.places ns c.places_line.new.self more
    (small_numbers (c.args.labels + 1) c.places_line.new.places (omega arith) read.0.1)
    (small_numbers (c.args.labels + 1) ns (omega arith) is.0.1) (sym read.1 ∙ e) in
    c.if-version_of-version.false (c.version_of.ensures ∙ ap (version_of c.args.labels) same.0 ∙ is.1)
