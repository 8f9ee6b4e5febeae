use Rattle.index_lists.proofs.Times.{times-without_same, times-without_other, length-without, without-absent}
use Rattle.index_lists.proofs.KeptLists.{first-out}
use Rattle.index_lists.proofs.laws.lists_without_a_node.Goals as goal

pub returns : goal.returns
returns c = record {
  gone = times-without_same;
  others = times-without_other;
  shorter = length-without;
  absent = without-absent;
  first = first-out;
}
