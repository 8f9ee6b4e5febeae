use Rattle.domains.proofs.DominatedLists.{dominated_last, lasting_dominated}
use Rattle.domains.proofs.laws_of_starts.dominated_boards_last.Goals as goal

pub returns : goal.returns
returns c = record {
  last = λ board count configuration more dominated held depth.
      dominated_last board count depth configuration more dominated held;
  dominated = lasting_dominated;
}
