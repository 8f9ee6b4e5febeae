use Rattle.domains.proofs.OthersAlone.{dominator_not_best}
use Rattle.domains.proofs.laws_of_answers.dominators_are_not_asked.Goals as goal

pub returns : goal.returns
returns c = dominator_not_best
