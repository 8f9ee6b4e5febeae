-- A domain, and a board with a lowest label more.
use Rattle.std.specs.Prelude.{◌≡◌, ℕ, suc, ◌<◌, ◌↔◌}
use Rattle.board_text.specs.PlainBoard.{PlainBoard, Dominates}

-- the board has one label more than the domain, which all others dominate and which dominates none
pub record HasLowest (domain board : PlainBoard) : Type 0 where
  pub labels : board.labels ≡ suc domain.labels
  pub pebbles : board.pebbles ≡ domain.pebbles
  pub others : (x y : ℕ) → x < domain.labels → y < domain.labels
      → Dominates domain x y ↔ Dominates board x y
  pub beaten : (x : ℕ) → x < domain.labels → Dominates board x domain.labels
  pub beats_none : (y : ℕ) → Dominates board domain.labels y → ⊥
