use Rattle.strategies.proofs.SiblingRanks.{IsRowBelow}
use Rattle.strategies.proofs.gap_walk.fill_row.Given as goal

abbrev pub invariant-loop-pebble : goal.invariant-loop-pebble
invariant-loop-pebble l = IsRowBelow l.held l.size l.pebble l.rests
