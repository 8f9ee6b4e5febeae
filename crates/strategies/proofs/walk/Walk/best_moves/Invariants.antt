use Rattle.strategies.proofs.FoundLabels.{AreFound}
use Rattle.strategies.proofs.walk.Walk.best_moves.Given as goal

abbrev pub invariant-loop-pebble : goal.invariant-loop-pebble
invariant-loop-pebble l = AreFound l.self.board l.self.held l.pebble l.least l.asked l.labels
