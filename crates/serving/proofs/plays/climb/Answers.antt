use Rattle.std.proofs.Common.{ap, ◌∙◌}
use Rattle.serving.specs.Outcomes.{outcome_of_run}
use Rattle.serving.proofs.plays.climb.Goals as goal

pub returns-clause-told : goal.returns-clause-told
returns-clause-told g c =
    let told = rw c.are_both-shows.ensures at c.run_climb-ended.ensures.prompts in
    (told.0, (told.1, c.of.ensures ∙ c.of_run.ensures ∙ ap outcome_of_run told.2, told.3), told.4)
