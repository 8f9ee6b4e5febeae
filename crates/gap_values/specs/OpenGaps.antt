-- How many gaps are open when a round begins.
use Rattle.std.specs.Prelude.{◌≡◌, ◌↔◌, ◌-◌, ◌<◌, ℕ, suc, List, length, slice_index}
use Rattle.board_text.specs.PlainBoard.{PlainBoard, places}
use Rattle.classes.specs.Classes.{IsClass}
use Rattle.classes.specs.Numbers.{class_with, ways}
use Rattle.gap_values.specs.GapTables.{IsClosedBefore, IsGapTable}
use Rattle.positions.specs.Counts.{HasSize}
use Rattle.positions.specs.declared.value.Value.{Value}
use Rattle.positions.specs.declared.value.Value.TheVariants.{Finite}

-- `count` gaps of the board aren't closed before the round
abbrev pub IsOpenCount : PlainBoard → (List ℕ → Value) → ℕ → ℕ → Type 0
IsOpenCount board closed round count =
    HasSize (λ number. (number < ways (board.pebbles - 1) (places board))
    × (IsClosedBefore (closed (class_with (places board) (board.pebbles - 1) number)) round → ⊥))
    count

-- the numbers of gaps that are open when the rounds from 1 on begin; the last of these is the round
-- after the last in which a gap closes
pub record AreOpenCounts (board : PlainBoard) (counts : List ℕ) : Type 0 where
  pub closed : List ℕ → Value
  pub is_table : IsGapTable board closed
  pub each : (index : ℕ) → index < length counts
      → IsOpenCount board closed (suc index) (slice_index counts index)
  pub rounds : (round : ℕ) → round < length counts
      ↔ ((gap : List ℕ) × IsClass (places board) (board.pebbles - 1) gap
      × (closed gap ≡ Finite round))
