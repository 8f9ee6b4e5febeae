use Rattle.strategies.proofs.BestAnswers.{best_answer, same_answer, smaller_before}
use Rattle.strategies.proofs.laws.one_best_answer.Goals as goal

pub returns-clause-exists : goal.returns-clause-exists
returns-clause-exists c = λ board configuration pebble is. (
  λ some. best_answer board configuration pebble is some.0 some.1,
  λ best. (best.0, best.1.0.legal),
)

pub returns-clause-one : goal.returns-clause-one
returns-clause-one c = same_answer

pub returns-clause-before : goal.returns-clause-before
returns-clause-before c = smaller_before
