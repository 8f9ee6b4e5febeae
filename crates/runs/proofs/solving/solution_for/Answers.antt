use Rattle.runs.proofs.solving.solution_for.Goals as goal

pub returns-clause-ok : goal.returns-clause-ok
returns-clause-ok g c =
    let made = c.in_ok-document_text_in_parts.ensures in (
      record { has_value = made.value; strategy = c.in_ok-expect_strategy.ensures.ok _ made.value },
      made.text,
    )
