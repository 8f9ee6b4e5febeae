use Rattle.index_lists.proofs.Places.{counted, stands-at, place-of, one-place}
use Rattle.index_lists.proofs.laws.nodes_by_index.Goals as goal

pub returns : goal.returns
returns c = record {
  counted = counted;
  stands = λ node xs place e. stands-at place node xs e;
  has_index = place-of;
  one_index = λ node xs place other once e f. one-place place other node xs once e f;
}
