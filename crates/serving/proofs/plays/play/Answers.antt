use Rattle.std.proofs.Common.{[], inl, inr, refl, ◌∙◌}
use Rattle.console.proofs.Cited.{none_more}
use Rattle.serving.specs.Outcomes.{outcome_of_run}
use Rattle.runs.specs.PlayRun.{play_streams}
use Rattle.runs.specs.declared.fault.RunFault.TheVariants.{Read}
use Rattle.serving.proofs.Endings.{broken_run, opened_play, told_as}
use Rattle.serving.proofs.plays.play.Goals as goal

pub returns-clause-done : goal.returns-clause-done
returns-clause-done g c =
    opened_play c.args.playing.limit c.args.playing.side (g.F.Folder.at c.args.files.now.folder.now c.args.board.now) _
    c.in-Ok.ensures.opened
    (play_streams g.I.Source.remaining c.args.console.now.input c.run-ended.new.lines
    g.O.Sink.contents c.args.console.now.output c.run-ended.new.writer)
    c.run-ended.result c.of.result.outcome (c.of.ensures ∙ c.of_run.ensures) c.run-ended.ensures.ok
    c.run-ended.ensures.fault

pub returns-clause-unread : goal.returns-clause-unread
returns-clause-unread g c broke =
    elim ((told_as outcome_of_run broken_run c.run-ended.result c.of.result.outcome (c.of.ensures
    ∙ c.of_run.ensures) Read
    refl _ c.run-ended.ensures.streams.read).1 broke) [
      | inl board ↦ inl (c.in-Ok.ensures.sound _ board)
      | inr lines ↦ inr lines
    ]

pub returns-clause-told : goal.returns-clause-told
returns-clause-told g c =
    let told = c.run-ended.ensures.prompts in
    (told.0, inr (_, c.in-Ok.ensures.opened, (c.run-ended.result, c.of.ensures ∙ c.of_run.ensures, told.1)), told.2)

pub returns-in_default-clause-told : goal.returns-in_default-clause-told
returns-in_default-clause-told g c = (
  [],
  inl (c.in_default.ensures.shut, refl),
  none_more g.E.Sink.contents g.E.Sink.has_failed c.args.console.now.errors,
)
