use Rattle.std.proofs.Common.{[], inl, inr, refl, ◌∙◌}
use Rattle.console.proofs.Cited.{none_more}
use Rattle.serving.specs.Outcomes.{outcome_of_run}
use Rattle.runs.specs.PlayRun.{play_streams}
use Rattle.runs.specs.declared.fault.RunFault.TheVariants.{Read}
use Rattle.serving.proofs.Endings.{broken_run, opened_play_up_to, told_as, told_up_to}
use Rattle.serving.proofs.plays.play_up_to.Goals as goal

pub returns-clause-done : goal.returns-clause-done
returns-clause-done g c =
    let run = c.run_up_to_symmetries-ended in
    opened_play_up_to c.args.playing.limit c.args.playing.side
    (g.F.Folder.at c.args.files.now.folder.now c.args.board.now)
    (g.F.Folder.at c.args.files.now.folder.now c.args.symmetries.now) _ _ c.in-Ok.ensures.opened
    c.in-Ok-open.ensures.opened
    (play_streams g.I.Source.remaining c.args.console.now.input run.new.lines
    g.O.Sink.contents c.args.console.now.output run.new.writer)
    run.result c.of.result.outcome (c.of.ensures ∙ c.of_run.ensures) _ (λ same. rw same refl) run.ensures.ok
    run.ensures.fault

pub returns-clause-unread : goal.returns-clause-unread
returns-clause-unread g c broke =
    let run = c.run_up_to_symmetries-ended in
    elim ((told_as outcome_of_run broken_run run.result c.of.result.outcome (c.of.ensures ∙ c.of_run.ensures) Read
    refl _ run.ensures.streams.read).1 broke) [
      | inl board ↦ inl (inl (c.in-Ok.ensures.sound _ board))
      | inr (inl given) ↦ inl (inr (c.in-Ok-open.ensures.sound _ given))
      | inr (inr lines) ↦ inr lines
    ]

pub returns-clause-told : goal.returns-clause-told
returns-clause-told g c =
    let run = c.run_up_to_symmetries-ended in
    let told = run.ensures.prompts in
    let same = c.of.ensures ∙ c.of_run.ensures in
    let so = told_up_to c.args.playing _ _ _ _ (λ same. rw same refl) run.result told.0 told.1 in
    (told.0, inr (_, _, c.in-Ok.ensures.opened, c.in-Ok-open.ensures.opened, (run.result, same, so)), told.2)

pub returns-in_default-clause-told : goal.returns-in_default-clause-told
returns-in_default-clause-told g c = (
  [],
  inl (inl c.in_default.ensures.shut, refl),
  none_more g.E.Sink.contents g.E.Sink.has_failed c.args.console.now.errors,
)

pub returns-in_default-open-clause-told : goal.returns-in_default-open-clause-told
returns-in_default-open-clause-told g c = (
  [],
  inl (inr c.in_default-open.ensures.shut, refl),
  none_more g.E.Sink.contents g.E.Sink.has_failed c.args.console.now.errors,
)
