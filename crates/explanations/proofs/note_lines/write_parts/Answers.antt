use Rattle.std.proofs.Common.{◌++◌, [], refl}
use Rattle.console.specs.Showing.{shown}
use Rattle.console.proofs.Cited.{none_more, plain_both, then_more}
use Rattle.explanations.proofs.note_lines.write_parts.Goals as goal

pub loop-part-init : goal.loop-part-init
unfolding shown
loop-part-init g c = ([], refl, none_more g.E.Sink.contents g.E.Sink.has_failed c.args.errors.now)

pub loop-part-preserved : goal.loop-part-preserved
loop-part-preserved g c =
    let i = c.loop-part.invariant in
    let part = c.write_part.ensures in (
      i.0 ++ part.0,
      plain_both i.0 part.0 i.1 part.1,
      then_more g.E.Sink.contents g.E.Sink.has_failed c.args.errors.now c.loop-part.errors c.write_part.new.errors
          i.0 part.0 i.2 part.2,
    )
