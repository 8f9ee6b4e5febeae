-- The number of configurations of a value.
use Rattle.std.specs.Prelude.{ℕ, ◌<◌, ◌≤◌, Option, None, Some}
use Rattle.board_text.specs.PlainBoard.{PlainBoard}
use Rattle.positions.specs.declared.value.Value.{Value}
use Rattle.positions.specs.Counts.{HasSize}
use Rattle.positions.specs.Ranks.{configurations, configuration_at}
use Rattle.positions.specs.Value.{HasValue}

-- `count` configurations have the value
abbrev pub HasCount : PlainBoard → Value → ℕ → Type 0
HasCount board value count =
    HasSize
    (λ rank. (rank < configurations board) × HasValue board (configuration_at board rank) value)
    count

-- the greatest number of which the fact holds, or none if it holds of none
abbrev pub IsGreatest : (ℕ → Type 0) → Option ℕ → Type 0
IsGreatest P (Some number) = P number × ((other : ℕ) → P other → other ≤ number)
IsGreatest P None = (other : ℕ) → P other → ⊥
