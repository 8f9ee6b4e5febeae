use Rattle.strategies.proofs.GapMembers.{AreGathered}
use Rattle.strategies.proofs.gap_moves.others_of.Given as goal

abbrev pub invariant-loop-index : goal.invariant-loop-index
invariant-loop-index l = AreGathered l.held l.pebble l.index l.gap
