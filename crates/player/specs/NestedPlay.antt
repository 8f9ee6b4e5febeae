-- Nested boards of every level as plain data, those too that are never built.
use Rattle.std.specs.Prelude.{◌≡◌, ℕ, ◌≤◌, ◌↔◌, List}
use Rattle.board_text.specs.Ranges.{AreNumbers}
use Rattle.board_text.specs.PlainBoard.{PlainBoard, AreLabels, Dominates}
use Rattle.nested_cycles.specs.Domination.{labels_of, NestedDominates}
use Rattle.nested_cycles.specs.GoodWords.{NestedGood}

-- The labels of a level with nested domination, and at most as many pebbles as levels. It is plain
-- data, with any number of labels: beyond 256 no text has it, and it is never built.
pub record IsNestedPlay (levels : ℕ) (board : PlainBoard) : Type 0 where
  pub labels : board.labels ≡ labels_of levels
  pub pebbles : board.pebbles ≤ levels
  pub beats : (x y : ℕ) → AreLabels board.labels (x, y) → Dominates board x y
      ↔ NestedDominates levels x y

-- A label for each pebble, on good words.
pub record IsGoodConfiguration (levels : ℕ) (board : PlainBoard)
    (configuration : List ℕ) : Type 0 where
  pub are_labels : AreNumbers board.pebbles (labels_of levels) configuration
  pub good : NestedGood levels configuration
