-- Domains with heights, and chains among them.
use Rattle.std.specs.Prelude.{ℕ, ◌<◌}
use Rattle.board_text.specs.PlainBoard.{PlainBoard, Dominates}

-- labels have heights below the count, and a label is higher than those that it dominates
pub record HasHeights (board : PlainBoard) (height : ℕ → ℕ) (count : ℕ) : Type 0 where
  pub low : (label : ℕ) → label < board.labels → height label < count
  pub higher : (x y : ℕ) → x < board.labels → y < board.labels
      → Dominates board x y → height y < height x

-- a label dominates exactly the smaller ones
pub record IsChain (board : PlainBoard) : Type 0 where
  pub below : (x y : ℕ) → x < board.labels → y < x → Dominates board x y
  pub only : (x y : ℕ) → Dominates board x y → y < x
