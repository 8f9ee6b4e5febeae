use Rattle.std.proofs.Common.{◌≡◌, length}
use Rattle.std.specs.VecDeque.{deque_capacity}
use Rattle.solver.specs.Solving.{source}
use Rattle.retro_core.proofs.Cited.{IsOwing}
use Rattle.claim_round.proofs.room.owe_members.Given as goal

abbrev pub invariant-loop-rank : goal.invariant-loop-rank
invariant-loop-rank g l = record {
  owing : IsOwing (source l.solver l.gap) l.fn.owed.items l.owed.items l.members;
  room : deque_capacity l.owed ≡ deque_capacity l.fn.owed;
}

abbrev pub decreases-loop-rank : goal.decreases-loop-rank
decreases-loop-rank g l = length l.members
