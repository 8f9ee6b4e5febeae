use Rattle.std.proofs.Common.{length}
use Rattle.solver.specs.Solving.{source}
use Rattle.retro_core.proofs.OwedWalks.{IsOwing}
use Rattle.retro_core.proofs.seat.owe_members.Given as goal

abbrev pub invariant-loop-rank : goal.invariant-loop-rank
invariant-loop-rank g l = IsOwing (source l.solver l.gap) l.fn.owed.items l.owed.items l.members

abbrev pub decreases-loop-rank : goal.decreases-loop-rank
decreases-loop-rank g l = length l.members
