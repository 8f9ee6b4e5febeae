use Rattle.retro_core.proofs.RoundSteps.{step-lawful, steps-lawful}
use Rattle.retro_core.proofs.laws_of_rounds.steps_keep_rounds_lawful.Goals as goal

pub returns-clause-one : goal.returns-clause-one
returns-clause-one c = step-lawful

pub returns-clause-any : goal.returns-clause-any
returns-clause-any c = steps-lawful
