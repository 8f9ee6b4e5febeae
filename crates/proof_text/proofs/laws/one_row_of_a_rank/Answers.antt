use Rattle.proof_text.proofs.RankedRows.{same_answers, same_request}
use Rattle.proof_text.proofs.laws.one_row_of_a_rank.Goals as goal

pub returns-clause-labeller : goal.returns-clause-labeller
returns-clause-labeller c = same_answers

pub returns-clause-adversary : goal.returns-clause-adversary
returns-clause-adversary c = same_request
