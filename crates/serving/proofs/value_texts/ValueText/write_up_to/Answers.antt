use Rattle.std.proofs.Common.{refl}
use Rattle.runs.specs.Run.{Fails, Ran, stream_of}
use Rattle.runs.specs.SymmetricRun.{HasNoFewOrbits, SaysUpTo}
use Rattle.runs.specs.SymmetricSolveRun.{CannotSolveUpTo, IsSolutionUpTo}
use Rattle.runs.specs.Texts.{IsWithinUpTo}
use Rattle.runs.specs.declared.fault.RunFault.TheVariants.{Read}
use Rattle.runs.specs.declared.given_symmetries.TheConstants.{MAX_SYMMETRIES_BYTES}
use Rattle.serving.specs.Outcomes.{outcome_of_run}
use Rattle.serving.proofs.Endings.{broken_run, ends_on_both, told_as, whole}
use Rattle.serving.proofs.value_texts.ValueText.write_up_to.Goals as goal

pub returns-in-Document-clause-done : goal.returns-in-Document-clause-done
returns-in-Document-clause-done g c =
    let run = c.solve_up_to_symmetries in
    let side = c.in-Document.side in
    let told = c.of_run in
    let output = stream_of g.O.Sink.contents g.O.Sink.has_failed c.args.output.now run.new.writer in
    rw c.in-Document.is
    (ends_on_both outcome_of_run (IsWithinUpTo c.args.work.limit)
    (λ s board. Ran (IsSolutionUpTo side board) MAX_SYMMETRIES_BYTES s output.bytes)
    (λ s board. Fails (IsSolutionUpTo side board) (CannotSolveUpTo side board) MAX_SYMMETRIES_BYTES s output.bytes) _ _
    run.result told.result told.ensures run.ensures.ok _ (λ same. rw same refl) run.ensures.fault)

pub returns-in-Document-clause-whole : goal.returns-in-Document-clause-whole
returns-in-Document-clause-whole g c =
    let run = c.solve_up_to_symmetries in
    let told = c.of_run in
    whole outcome_of_run broken_run run.result told.result told.ensures _ run.ensures.streams.unwritten

pub returns-in-Document-clause-unread : goal.returns-in-Document-clause-unread
returns-in-Document-clause-unread g c =
    let run = c.solve_up_to_symmetries in
    let told = c.of_run in
    (told_as outcome_of_run broken_run run.result told.result told.ensures Read refl _
    run.ensures.streams.failures.read).1

pub returns-in-Summary-clause-done : goal.returns-in-Summary-clause-done
returns-in-Summary-clause-done g c =
    let run = c.summarize_up_to_symmetries in
    let summary = c.in-Summary.summary in
    let told = c.of_run-in-Summary in
    let output = stream_of g.O.Sink.contents g.O.Sink.has_failed c.args.output.now run.new.writer in
    rw c.in-Summary.is
    (ends_on_both outcome_of_run (IsWithinUpTo c.args.work.limit)
    (λ s board. Ran (SaysUpTo summary board) MAX_SYMMETRIES_BYTES s output.bytes)
    (λ s board. Fails (SaysUpTo summary board) (HasNoFewOrbits board) MAX_SYMMETRIES_BYTES s output.bytes) _ _
    run.result told.result told.ensures run.ensures.ok _ (λ same. rw same refl) run.ensures.fault)

pub returns-in-Summary-clause-whole : goal.returns-in-Summary-clause-whole
returns-in-Summary-clause-whole g c =
    let run = c.summarize_up_to_symmetries in
    let told = c.of_run-in-Summary in
    whole outcome_of_run broken_run run.result told.result told.ensures _ run.ensures.streams.unwritten

pub returns-in-Summary-clause-unread : goal.returns-in-Summary-clause-unread
returns-in-Summary-clause-unread g c =
    let run = c.summarize_up_to_symmetries in
    let told = c.of_run-in-Summary in
    (told_as outcome_of_run broken_run run.result told.result told.ensures Read refl _
    run.ensures.streams.failures.read).1
