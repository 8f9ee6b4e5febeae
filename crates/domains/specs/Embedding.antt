-- A domain within another one, with other names for its labels, and with one process fewer.
use Rattle.std.specs.Prelude.{◌≡◌, ◌↔◌, ℕ, ◌+◌, ◌<◌, ◌≤◌, ◌⊎◌, List, length, slice_index}
use Rattle.board_text.specs.PlainBoard.{PlainBoard, Dominates}

-- the second board has all labels and all pairs of the first, and as many pebbles
pub record IsWithin (board wider : PlainBoard) : Type 0 where
  pub labels : board.labels ≤ wider.labels
  pub pebbles : wider.pebbles ≡ board.pebbles
  pub beats : (x y : ℕ) → x < board.labels → y < board.labels
      → Dominates board x y → Dominates wider x y

-- each pebble holds a label of the first board, or no label of the second
pub record IsOnBoth (board wider : PlainBoard) (configuration : List ℕ) : Type 0 where
  pub long : length configuration ≡ board.pebbles
  pub each : (pebble : ℕ) → pebble < board.pebbles
      → (slice_index configuration pebble < board.labels)
      ⊎ (wider.labels ≤ slice_index configuration pebble)

-- one map takes the labels of the first board to those of the second, one to one, the other map
-- takes them back, and of two labels the one dominates the other on both boards or on neither
pub record IsRenaming (board renamed : PlainBoard) (to back : ℕ → ℕ) : Type 0 where
  pub labels : renamed.labels ≡ board.labels
  pub pebbles : renamed.pebbles ≡ board.pebbles
  pub there : (label : ℕ) → label < board.labels
      → (to label < board.labels) × (back (to label) ≡ label)
  pub again : (label : ℕ) → label < board.labels
      → (back label < board.labels) × (to (back label) ≡ label)
  pub beats : (x y : ℕ) → x < board.labels → y < board.labels
      → Dominates board x y ↔ Dominates renamed (to x) (to y)

-- each pebble holds the new name of its label, or none as before
pub record IsRenamed (board : PlainBoard) (to : ℕ → ℕ)
    (configuration renamed : List ℕ) : Type 0 where
  pub long : length configuration ≡ board.pebbles
  pub renamed_long : length renamed ≡ board.pebbles
  pub each : (pebble : ℕ) → pebble < board.pebbles
      → ((slice_index configuration pebble < board.labels)
      × (slice_index renamed pebble ≡ to (slice_index configuration pebble)))
      ⊎ ((board.labels ≤ slice_index configuration pebble)
      × (board.labels ≤ slice_index renamed pebble))

-- the second board has the labels and the pairs of the first, and one pebble fewer
pub record HasOnePebbleFewer (board fewer : PlainBoard) : Type 0 where
  pub labels : fewer.labels ≡ board.labels
  pub pairs : fewer.pairs ≡ board.pairs
  pub pebbles : board.pebbles ≡ fewer.pebbles + 1
