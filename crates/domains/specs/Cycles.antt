-- Domains in which domination goes round.
use Rattle.std.specs.Prelude.{ℕ, ◌<◌, List, All, Contains}
use Rattle.board_text.specs.PlainBoard.{PlainBoard, Dominates}

-- labels of which each is dominated by one of them: so domination has a cycle
pub record HaveDominators (board : PlainBoard) (labels : List ℕ) : Type 0 where
  pub are_labels : All (λ label. label < board.labels) labels
  pub each : (label : ℕ) → Contains labels label
      → (other : ℕ) × Contains labels other × Dominates board other label
