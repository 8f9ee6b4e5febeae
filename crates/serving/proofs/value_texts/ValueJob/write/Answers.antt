use Rattle.std.proofs.Common.{[], inl, inr, refl}
use Rattle.console.proofs.Cited.{none_more}
use Rattle.runs.specs.Run.{stream_of}
use Rattle.serving.specs.Jobs.{WritesValuesFor}
use Rattle.serving.proofs.Endings.{wrote_alone}
use Rattle.serving.proofs.value_texts.ValueJob.write.Goals as goal

pub returns-clause-done : goal.returns-clause-done
returns-clause-done g c =
    let run = c.write-outcome.ensures in
    wrote_alone
    (stream_of g.O.Sink.contents g.O.Sink.has_failed c.args.console.now.output c.write-outcome.new.output)
    c.write-outcome.result c.of_board.result.outcome c.of_board.ensures
    (WritesValuesFor c.args.self.now.text c.args.work.workers c.args.work.limit)
    (g.F.Folder.at c.args.files.now.folder.now c.args.self.now.board.now) _ c.in-Ok.ensures.opened run.done run.whole

pub returns-clause-unread : goal.returns-clause-unread
returns-clause-unread g c broke =
    c.in-Ok.ensures.sound _ (c.write-outcome.ensures.reads.1 (rw c.of_board.ensures at broke))

pub returns-clause-told : goal.returns-clause-told
returns-clause-told g c =
    let told = c.write-outcome.ensures.told in
    rw c.of_board.ensures (told.0, inr (_, c.in-Ok.ensures.opened, told.1), told.2)

pub returns-in_default-clause-told : goal.returns-in_default-clause-told
returns-in_default-clause-told g c = (
  [],
  inl (c.in_default.ensures.shut, refl),
  none_more g.E.Sink.contents g.E.Sink.has_failed c.args.console.now.errors,
)
