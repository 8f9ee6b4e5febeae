use Rattle.strategies.proofs.BestRequests.{best_request, finite_from_request, same_request, not_lowered_before}
use Rattle.strategies.proofs.laws.one_best_request.Goals as goal

pub returns-clause-exists : goal.returns-clause-exists
returns-clause-exists c = λ board configuration is. (
  λ finite. best_request board finite.0 configuration finite.1,
  λ found. finite_from_request board configuration found.0 is found.1,
)

pub returns-clause-one : goal.returns-clause-one
returns-clause-one c = same_request

pub returns-clause-before : goal.returns-clause-before
returns-clause-before c = not_lowered_before
