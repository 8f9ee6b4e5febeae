-- The effect of workers on a seat.
use Rattle.std.specs.Prelude.{◌≡◌, []}
use Rattle.claim_round.specs.Shared.{SeatId, IsOfSameRound}

-- it is the same seat, with its whole width, nothing left to strike and nothing owed
abbrev pub IsWorked : SeatId → SeatId → Type 0
IsWorked p q = IsOfSameRound p q × (q.view.has.width ≡ p.view.has.width) × (q.view.has.todo ≡ [])
    × (q.view.has.owed ≡ [])
