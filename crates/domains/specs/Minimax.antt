-- The value in one equation.
use Rattle.std.specs.Prelude.{ℕ, suc, ◌<◌, ◌↔◌, List}
use Rattle.board_text.specs.PlainBoard.{PlainBoard, IsConfiguration}
use Rattle.positions.specs.Game.{Legal, moved}
use Rattle.positions.specs.declared.value.Value.{Value}
use Rattle.positions.specs.declared.value.Value.TheVariants.{Finite}
use Rattle.strategies.specs.Best.{IsLess}

-- at each configuration the value is the least over the pebbles of the greatest over the legal
-- labels of one more than the value after the move, the greatest of none being 0
abbrev pub IsMinimax : PlainBoard → (List ℕ → Value) → Type 0
IsMinimax board value =
    (configuration : List ℕ) → IsConfiguration board configuration → (bound : ℕ)
    → IsLess (value configuration) (Finite (suc bound))
    ↔ ((pebble : ℕ) × (pebble < board.pebbles)
    × ((label : ℕ) → Legal board configuration pebble label
    → IsLess (value (moved configuration pebble label)) (Finite bound)))
