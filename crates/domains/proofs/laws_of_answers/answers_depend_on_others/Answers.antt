use Rattle.domains.proofs.LowestLabels.{legal_elsewhere}
use Rattle.domains.proofs.OthersAlone.{best_elsewhere, one_result}
use Rattle.domains.proofs.laws_of_answers.answers_depend_on_others.Goals as goal

pub returns : goal.returns
returns c = record { legal = legal_elsewhere; results = one_result; best = best_elsewhere }
