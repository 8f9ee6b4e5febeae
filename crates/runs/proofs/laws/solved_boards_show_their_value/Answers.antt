use Rattle.runs.proofs.Headlines.{shows_value, accepted}
use Rattle.runs.proofs.laws.solved_boards_show_their_value.Goals as goal

pub returns-clause-value : goal.returns-clause-value
returns-clause-value c = shows_value

pub returns-clause-accepted : goal.returns-clause-accepted
returns-clause-accepted c = accepted
