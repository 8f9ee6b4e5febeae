use Rattle.domains.proofs.ChainFamilies.{lasting_exactly, used_exactly}
use Rattle.domains.proofs.laws_of_chains.chains_decide_what_lasts.Goals as goal

pub returns : goal.returns
returns c = record {
  exactly = lasting_exactly;
  used = used_exactly;
}
