use Rattle.std.proofs.Common.{[], inl, inr, refl, ◌∙◌}
use Rattle.console.proofs.Cited.{none_more}
use Rattle.runs.specs.ChainText.{CannotCountChains, SaysChains}
use Rattle.runs.specs.Run.{stream_of}
use Rattle.runs.specs.declared.fault.RunFault.TheVariants.{Read}
use Rattle.serving.specs.Outcomes.{outcome_of_run}
use Rattle.serving.specs.Jobs.{WritesFor}
use Rattle.serving.proofs.Endings.{broken_run, ends, told_as, whole, wrote_alone}
use Rattle.serving.proofs.jobs.chains.Goals as goal

pub returns-clause-unread : goal.returns-clause-unread
returns-clause-unread g c broke =
    c.in-Ok.ensures.sound _ ((told_as outcome_of_run broken_run c.run-counted.result c.of_board.result.outcome
    (c.of_board.ensures ∙ c.of_run.ensures) Read refl _ c.run-counted.ensures.streams.failures.read).1 broke)

pub returns-clause-done : goal.returns-clause-done
returns-clause-done g c =
    let run = c.run-counted.ensures in
    wrote_alone
    (stream_of g.O.Sink.contents g.O.Sink.has_failed c.args.console.now.output c.run-counted.new.writer)
    c.of_run.result c.of_board.result.outcome c.of_board.ensures
    (WritesFor (SaysChains c.args.chaining.most) (CannotCountChains c.args.chaining.most))
    (g.F.Folder.at c.args.files.now.folder.now c.args.board.now) _ c.in-Ok.ensures.opened
    (ends outcome_of_run c.run-counted.result _ _ c.of_run.result c.of_run.ensures run.ok run.fault)
    (whole outcome_of_run broken_run c.run-counted.result c.of_run.result c.of_run.ensures _ run.streams.unwritten)

pub returns-clause-told : goal.returns-clause-told
returns-clause-told g c =
    let told = c.run-counted.ensures.lengths in
    let same = c.of_board.ensures ∙ c.of_run.ensures in
    (told.0, inr (_, c.in-Ok.ensures.opened, (c.run-counted.result, same, told.1)), told.2)

pub returns-in_default-clause-told : goal.returns-in_default-clause-told
returns-in_default-clause-told g c = (
  [],
  inl (c.in_default.ensures.shut, refl),
  none_more g.E.Sink.contents g.E.Sink.has_failed c.args.console.now.errors,
)
