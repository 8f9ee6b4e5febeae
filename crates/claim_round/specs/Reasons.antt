-- Why a round was not closed.
use Rattle.std.specs.Prelude.{◌⊎◌, ◌<◌, ◌≤◌, length}
use Rattle.claim_round.specs.Shared.{RoundId, SeatId}
use Rattle.claim_round.specs.declared.round.Why.{Why}
use Rattle.claim_round.specs.declared.round.Why.TheVariants.{SeatsOut, WorkLeft}

abbrev pub IsReason : Why → RoundId → SeatId → Type 0
IsReason SeatsOut r p = p.view.has.width < r.key.width
IsReason WorkLeft r p =
    (r.key.width ≤ p.view.has.width) × ((0 < length p.view.has.todo) ⊎ (0 < length p.view.has.owed))
