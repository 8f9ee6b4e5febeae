-- Walks over the labels of a set.
use Rattle.std.specs.Prelude.{◌≡◌, ℕ, ◌+◌, ◌<◌, ◌↔◌, true, List, Some}
use Rattle.board_text.specs.Domination.{has_bit}
use Rattle.board_text.specs.declared.board.TheConstants.{MAX_LABELS}
use Rattle.positions.specs.Counts.{IsSmallest}

-- the remaining labels, as words of bits, and a lower bound of them
pub record Walk : Type 0 where
  pub left : List ℕ
  pub from : ℕ

-- the label was the smallest, and those after it are left
pub record TakesSmallest (before after : Walk) (label : ℕ) : Type 0 where
  pub smallest : IsSmallest (λ x. (x < MAX_LABELS) × (has_bit before.left x ≡ true)) (Some label)
  pub left : (x : ℕ) → x < MAX_LABELS
      → (has_bit after.left x ≡ true) ↔ ((has_bit before.left x ≡ true) × (label < x))
  pub from : after.from ≡ label + 1
