-- Lexicographic products of domains.
use Rattle.std.specs.Prelude.{◌≡◌, ◌↔◌, ℕ, suc, ◌+◌, ◌*◌, ◌/◌, ◌%◌, ◌<◌, ◌⊎◌, List, [], ◌∷◌, All}
use Rattle.board_text.specs.PlainBoard.{PlainBoard, Dominates}

-- Each label of the outer domain is replaced by a copy of the inner one. The copy of a label is its
-- number divided by the number of inner labels, and its part is the rest. A label dominates another
-- if its copy does, and within one copy if its part does.
pub record IsProduct (outer inner board : PlainBoard) : Type 0 where
  pub labels : board.labels ≡ outer.labels * inner.labels
  pub some : 0 < inner.labels
  pub beats : (x y : ℕ) → x < board.labels → y < board.labels → Dominates board x y
      ↔ (Dominates outer (x / inner.labels) (y / inner.labels)
      ⊎ ((x / inner.labels ≡ y / inner.labels)
      × Dominates inner (x % inner.labels) (y % inner.labels)))

-- the product of a list of domains, the first of them the outermost: with each factor its pebbles
-- are added, less one; the product of none has one pebble, and one label, which doesn't dominate
-- itself
abbrev pub IsProductOf : List PlainBoard → PlainBoard → Type 0
IsProductOf [] board = (board.labels ≡ 1) × (board.pebbles ≡ 1) × (Dominates board 0 0 → ⊥)
IsProductOf (factor ∷ factors) board =
    (inner : PlainBoard) × IsProductOf factors inner × IsProduct factor inner board
    × (suc board.pebbles ≡ factor.pebbles + inner.pebbles)

-- all labels of the configuration are in this copy or in copies that it dominates
abbrev pub IsBelowCopy : PlainBoard → PlainBoard → ℕ → List ℕ → Type 0
IsBelowCopy outer inner copy configuration =
    All (λ label. (label / inner.labels ≡ copy) ⊎ Dominates outer copy (label / inner.labels))
    configuration
