use Rattle.retro_core.proofs.RoundSteps.{worked-off, opened-and-worked-off}
use Rattle.retro_core.proofs.laws_of_rounds.worked_off_rounds_have_won_all.Goals as goal

pub returns-clause-lawful : goal.returns-clause-lawful
returns-clause-lawful c = λ round sol law off. worked-off round sol.is_board law off

pub returns-clause-opened : goal.returns-clause-opened
returns-clause-opened c = opened-and-worked-off
