use Rattle.std.proofs.Common.{◌+◌}
use Rattle.strategies.specs.Inside.Walks.{AreNumberRows}
use Rattle.strategies.proofs.gap_walk.fill_rests.Given as goal

abbrev pub invariant-loop-size : goal.invariant-loop-size
invariant-loop-size l = AreNumberRows l.held (l.size + 1) l.rests
