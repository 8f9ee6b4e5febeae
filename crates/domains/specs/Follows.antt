-- Domains that follow one another.
use Rattle.std.specs.Prelude.{◌≡◌, ℕ, ◌<◌, ◌≤◌, ◌⊎◌, List, length, slice_index}
use Rattle.board_text.specs.PlainBoard.{PlainBoard, Dominates}

-- Each pebble of the one board has a leader on the other, a pebble of its own; and labels of the
-- leaders' board have images, of which those dominate one another whose labels do.
pub record Follows (board leading : PlainBoard) (image leader : ℕ → ℕ) : Type 0 where
  pub labels : (label : ℕ) → label < leading.labels → image label < board.labels
  pub beats : (x y : ℕ) → x < leading.labels → y < leading.labels
      → Dominates leading x y → Dominates board (image x) (image y)
  pub leaders : (pebble : ℕ) → pebble < board.pebbles → leader pebble < leading.pebbles
  pub apart : (pebble other : ℕ) → pebble < board.pebbles → other < board.pebbles
      → leader pebble ≡ leader other → pebble ≡ other

-- each pebble holds the image of its leader's label, or no label
pub record IsLed (board leading : PlainBoard) (image leader : ℕ → ℕ)
    (configuration led : List ℕ) : Type 0 where
  pub long : length configuration ≡ leading.pebbles
  pub led_long : length led ≡ board.pebbles
  pub each : (pebble : ℕ) → pebble < board.pebbles
      → ((slice_index configuration (leader pebble) < leading.labels)
      × (slice_index led pebble ≡ image (slice_index configuration (leader pebble))))
      ⊎ (board.labels ≤ slice_index led pebble)
