use Rattle.std.proofs.Common.{inl, inr}
use Rattle.runs.specs.Run.{stream_of}
use Rattle.serving.specs.Jobs.{WritesValuesUpTo}
use Rattle.serving.proofs.Endings.{wrote_both}
use Rattle.serving.proofs.value_texts.ValueJob.write_up_to.Goals as goal

pub returns-clause-done : goal.returns-clause-done
returns-clause-done g c =
    let run = c.write_up_to-outcome.ensures in
    wrote_both
    (stream_of g.O.Sink.contents g.O.Sink.has_failed c.args.output.now c.write_up_to-outcome.new.output)
    c.write_up_to-outcome.result c.up_to.result.outcome c.up_to.ensures
    (WritesValuesUpTo c.args.self.now.text c.args.work.limit)
    (g.F.Folder.at c.args.files.now.folder.now c.args.self.now.board.now)
    (g.F.Folder.at c.args.files.now.folder.now c.args.symmetries.now) _ _ c.in-Ok.ensures.opened
    c.in-Ok-open.ensures.opened run.done run.whole

pub returns-clause-unread : goal.returns-clause-unread
returns-clause-unread g c broke = elim (c.write_up_to-outcome.ensures.unread (rw c.up_to.ensures at broke)) [
  | inl first ↦ inl (c.in-Ok.ensures.sound _ first)
  | inr second ↦ inr (c.in-Ok-open.ensures.sound _ second)
]
