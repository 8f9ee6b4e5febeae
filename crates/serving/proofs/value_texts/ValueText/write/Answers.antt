use Rattle.serving.specs.Outcomes.{outcome_of_run}
use Rattle.serving.proofs.Endings.{broken_run, ends, whole}
use Rattle.serving.proofs.value_texts.ValueText.write.Goals as goal

pub returns-in-Document-clause-done : goal.returns-in-Document-clause-done
returns-in-Document-clause-done g c =
    let run = c.solve in
    let told = c.of_run in
    rw c.in-Document.is
    (ends outcome_of_run run.result _ _ told.result told.ensures run.ensures.ok run.ensures.fault)

pub returns-in-Document-clause-whole : goal.returns-in-Document-clause-whole
returns-in-Document-clause-whole g c =
    let run = c.solve in
    let told = c.of_run in
    whole outcome_of_run broken_run run.result told.result told.ensures _ run.ensures.streams.unwritten

pub returns-in-Document-clause-told : goal.returns-in-Document-clause-told
returns-in-Document-clause-told g c =
    let run = c.solve in
    let notice = run.ensures.notice in
    rw c.in-Document.is
    (notice.0, (run.result, c.of_run.ensures, notice.1), notice.2)

pub returns-in-Summary-clause-done : goal.returns-in-Summary-clause-done
returns-in-Summary-clause-done g c =
    let run = c.summarize in
    let told = c.of_run-in-Summary in
    rw c.in-Summary.is
    (ends outcome_of_run run.result _ _ told.result told.ensures run.ensures.ok run.ensures.fault)

pub returns-in-Summary-clause-whole : goal.returns-in-Summary-clause-whole
returns-in-Summary-clause-whole g c =
    let run = c.summarize in
    let told = c.of_run-in-Summary in
    whole outcome_of_run broken_run run.result told.result told.ensures _ run.ensures.streams.unwritten

pub returns-in-Summary-clause-told : goal.returns-in-Summary-clause-told
returns-in-Summary-clause-told g c =
    let run = c.summarize in
    let notice = run.ensures.notice in
    rw c.in-Summary.is
    (notice.0, (run.result, c.of_run-in-Summary.ensures, notice.1), notice.2)
