use Rattle.std.proofs.Common.{[], inl, inr, refl}
use Rattle.console.proofs.Cited.{none_more}
use Rattle.serving.specs.Outcomes.{outcome_of_check}
use Rattle.serving.specs.Telling.{rows_told}
use Rattle.runs.specs.Run.{Fails, Ran, stream_of}
use Rattle.runs.specs.Texts.{HasNoProof, OfAnySize}
use Rattle.runs.specs.Verdicts.{IsChecked}
use Rattle.runs.specs.declared.checking.TheConstants.{MAX_PROOF_BYTES}
use Rattle.runs.specs.declared.fault.RunFault.TheVariants.{Read}
use Rattle.serving.specs.Jobs.{ChecksFor}
use Rattle.serving.proofs.Endings.{broken_check, ends_on_both, told_as, whole, wrote_both}
use Rattle.serving.proofs.jobs.check.Goals as goal

pub returns-clause-done : goal.returns-clause-done
returns-clause-done g c =
    let run = c.run_check-checked in
    let output = stream_of g.O.Sink.contents g.O.Sink.has_failed c.args.console.now.output run.new.writer in
    wrote_both output c.of_check.result c.of_check.result refl ChecksFor
    (g.F.Folder.at c.args.files.now.folder.now c.args.board.now)
    (g.F.Folder.at c.args.files.now.folder.now c.args.proof.now) _ _ c.in-Ok.ensures.opened c.in-Ok-open.ensures.opened
    (ends_on_both outcome_of_check OfAnySize (λ p board. Ran (IsChecked board) MAX_PROOF_BYTES p output.bytes)
    (λ p board. Fails (IsChecked board) (HasNoProof board) MAX_PROOF_BYTES p output.bytes) _ _
    run.result c.of_check.result c.of_check.ensures run.ensures.ok _ (λ same. rw same refl) run.ensures.fault)
    (whole outcome_of_check broken_check run.result c.of_check.result c.of_check.ensures _
    run.ensures.streams.unwritten)

pub returns-clause-unread : goal.returns-clause-unread
returns-clause-unread g c broke =
    elim ((told_as outcome_of_check broken_check c.run_check-checked.result c.of_check.result c.of_check.ensures Read
    refl
    _ c.run_check-checked.ensures.streams.failures.read).1 broke) [
      | inl first ↦ inl (c.in-Ok.ensures.sound _ first)
      | inr second ↦ inr (c.in-Ok-open.ensures.sound _ second)
    ]

pub returns-clause-told : goal.returns-clause-told
returns-clause-told g c = (
  rows_told c.args.console.now.terminals.errors c.run_check-checked.result,
  inr (
    _,
    _,
    c.in-Ok.ensures.opened,
    c.in-Ok-open.ensures.opened,
    (c.run_check-checked.result, c.of_check.ensures, c.run_check-checked.ensures.ok, refl),
  ),
  c.tell_rows.ensures,
)

pub returns-in_default-clause-told : goal.returns-in_default-clause-told
returns-in_default-clause-told g c = (
  [],
  inl (inl c.in_default.ensures.shut, refl),
  none_more g.E.Sink.contents g.E.Sink.has_failed c.args.console.now.errors,
)

pub returns-in_default-open-clause-told : goal.returns-in_default-open-clause-told
returns-in_default-open-clause-told g c = (
  [],
  inl (inr c.in_default-open.ensures.shut, refl),
  none_more g.E.Sink.contents g.E.Sink.has_failed c.args.console.now.errors,
)
