use Rattle.domains.proofs.ChainsAbove.{dominated_above}
use Rattle.domains.proofs.SmallCovers.{above_forty, above_ninety_six, above_sixteen}
use Rattle.domains.proofs.SmallCovers.{forty_chains, ninety_six_chains, sixteen_chains}
use Rattle.domains.proofs.laws_of_chains.chains_above_labels.Goals as goal

pub returns : goal.returns
returns c = record {
  one_more = dominated_above;
  above_sixteen = above_sixteen;
  above_forty = above_forty;
  above_ninety_six = above_ninety_six;
  sixteen = sixteen_chains;
  forty = forty_chains;
  ninety_six = ninety_six_chains;
}
