use Rattle.std.proofs.Common.{◌≡◌, [], length}
use Rattle.claim_round.specs.Shared.{IsOfSameRound}
use Rattle.round_workers.proofs.worker.work.Given as goal

abbrev pub invariant-loop-seat : goal.invariant-loop-seat
invariant-loop-seat g l = IsOfSameRound l.fn.seat l.seat × (l.seat.view.has.width ≡ l.fn.seat.view.has.width)

abbrev pub decreases-loop-seat : goal.decreases-loop-seat
decreases-loop-seat g l = length l.seat.view.has.owed

abbrev pub invariant-loop-seat-2 : goal.invariant-loop-seat-2
invariant-loop-seat-2 g l =
    IsOfSameRound l.fn.seat l.seat × (l.seat.view.has.width ≡ l.fn.seat.view.has.width) × (l.seat.view.has.owed ≡ [])

abbrev pub decreases-loop-seat-2 : goal.decreases-loop-seat-2
decreases-loop-seat-2 g l = length l.seat.view.has.todo

abbrev pub invariant-loop-seat-3 : goal.invariant-loop-seat-3
invariant-loop-seat-3 g l = IsOfSameRound l.fn.seat l.seat × (l.seat.view.has.width ≡ l.fn.seat.view.has.width)
    × (l.seat.view.has.todo ≡ l.initial.seat.view.has.todo)

abbrev pub decreases-loop-seat-3 : goal.decreases-loop-seat-3
decreases-loop-seat-3 g l = length l.seat.view.has.owed
