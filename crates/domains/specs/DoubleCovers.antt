-- Double covers: two labels for each point of a circle of numbers, and for one point more.
use Rattle.std.specs.Prelude.{◌≡◌, ◌≢◌, ◌↔◌, ℕ, ◌+◌, ◌-◌, ◌*◌, ◌/◌, ◌%◌, ◌<◌, ◌⊎◌, List, Contains}
use Rattle.board_text.specs.PlainBoard.{PlainBoard, Dominates}

-- One of these points is ahead of another: on the circle of this many numbers by one of these
-- steps, and the one point more, which has their number as its own, is ahead of all of them.
abbrev pub IsPointAhead : ℕ → List ℕ → ℕ → ℕ → Type 0
IsPointAhead count steps x y =
    ((x ≡ count) × (y < count))
    ⊎ ((x < count) × (y < count) × Contains steps ((x + count - y) % count))

-- Each point has a label on either of two sides: twice the point, and one more. Of two labels on
-- one side that one dominates the other whose point is ahead, and on different sides the other way
-- round.
pub record IsDoubleCover (count : ℕ) (steps : List ℕ) (board : PlainBoard) : Type 0 where
  pub labels_are : board.labels ≡ 2 * (count + 1)
  pub beats : (x y : ℕ) → x < board.labels → y < board.labels → Dominates board x y
      ↔ (((x % 2 ≡ y % 2) × IsPointAhead count steps (x / 2) (y / 2))
      ⊎ ((x % 2 ≢ y % 2) × IsPointAhead count steps (y / 2) (x / 2)))
