-- The number of configurations of a value.
use Rattle.std.specs.Prelude.{ℕ, ◌<◌, ◌≤◌, ◌↔◌, List, length, slice_index}
use Rattle.board_text.specs.PlainBoard.{PlainBoard}
use Rattle.positions.specs.declared.value.Value.{Value}
use Rattle.positions.specs.declared.value.Value.TheVariants.{Finite, Forever}
use Rattle.positions.specs.Counts.{HasSize}
use Rattle.positions.specs.Laws.{Occurs}
use Rattle.positions.specs.Ranks.{configurations, configuration_at}
use Rattle.positions.specs.Value.{HasValue}

-- `count` configurations have the value
abbrev pub HasValueCount : PlainBoard → Value → ℕ → Type 0
HasValueCount board value count =
    HasSize
    (λ rank. (rank < configurations board) × HasValue board (configuration_at board rank) value)
    count

-- the number of values from 0 to the greatest that occurs
abbrev pub IsCountOfValues : PlainBoard → ℕ → Type 0
IsCountOfValues board number =
    (value : ℕ) → value < number ↔ ((other : ℕ) × (value ≤ other) × Occurs board other)

-- the list has the number of configurations of each finite value, and ends with the greatest that
-- occurs; `forever` of them have Forever
pub record AreValueCounts (board : PlainBoard) (finite : List ℕ) (forever : ℕ) : Type 0 where
  pub each : (value : ℕ) → value < length finite
      → HasValueCount board (Finite value) (slice_index finite value)
  pub to_greatest : IsCountOfValues board (length finite)
  pub unending : HasValueCount board Forever forever
