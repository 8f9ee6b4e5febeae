use Rattle.nested_cycles.specs.Inside.Pairs.{AreNestedPairs}
use Rattle.nested_cycles.proofs.nested_boards.nested_pairs.Given as goal

abbrev pub invariant-loop-number : goal.invariant-loop-number
invariant-loop-number l = AreNestedPairs l.levels l.number l.pairs.items
