-- The nested board of a level.
use Rattle.std.specs.Prelude.{◌≡◌, ℕ, ◌↔◌, replicate}
use Rattle.board_text.specs.PlainBoard.{PlainBoard, IsBoard, AreLabels, Dominates}
use Rattle.nested_cycles.specs.Domination.{labels_of, NestedDominates}

-- The nested board of a level, with all pebbles on the label 0. Its domination fixes its pairs,
-- since these ascend.
pub record IsNestedBoard (levels pebble_count : ℕ) (board : PlainBoard) : Type 0 where
  pub is_board : IsBoard board
  pub labels : board.labels ≡ labels_of levels
  pub pebbles : board.pebbles ≡ pebble_count
  pub start : board.start ≡ replicate pebble_count 0
  pub beats : (x y : ℕ) → AreLabels board.labels (x, y) → Dominates board x y
      ↔ NestedDominates levels x y
