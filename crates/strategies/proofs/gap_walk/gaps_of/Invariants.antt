use Rattle.strategies.specs.Inside.Walks.{AreGapNumbers}
use Rattle.strategies.proofs.gap_walk.gaps_of.Given as goal

abbrev pub invariant-loop-pebble : goal.invariant-loop-pebble
invariant-loop-pebble l = AreGapNumbers l.held l.pebble l.numbers
