use Rattle.domains.proofs.ChainsAbove.{used_above}
use Rattle.domains.proofs.laws_of_chains.dominators_carry_one_fewer.Goals as goal

pub returns : goal.returns
returns c = used_above
