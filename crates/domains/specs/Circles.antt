-- Domains on a circle of numbers.
use Rattle.std.specs.Prelude.{◌≡◌, ◌↔◌, ℕ, ◌+◌, ◌-◌, ◌%◌, ◌<◌, ◌⊎◌, List, [], ◌∷◌, Contains}
use Rattle.board_text.specs.PlainBoard.{PlainBoard, Dominates}

-- `labels` labels, of which one dominates another if it is one of the steps ahead on a circle
pub record IsCircle (labels : ℕ) (steps : List ℕ) (board : PlainBoard) : Type 0 where
  pub labels_are : board.labels ≡ labels
  pub beats : (x y : ℕ) → x < labels → y < labels
      → Dominates board x y ↔ Contains steps ((x + labels - y) % labels)

-- the residues modulo seven with three processes, those modulo nineteen with four, or those modulo
-- 47 with five
abbrev pub AreResidues : PlainBoard → Type 0
AreResidues board =
    (IsCircle 7 (1 ∷ 2 ∷ 4 ∷ []) board × (board.pebbles ≡ 3))
    ⊎ ((IsCircle 19 (1 ∷ 4 ∷ 5 ∷ 6 ∷ 7 ∷ 9 ∷ 11 ∷ 16 ∷ 17 ∷ []) board × (board.pebbles ≡ 4))
    ⊎ (IsCircle 47
    (1 ∷ 2 ∷ 3 ∷ 4 ∷ 6 ∷ 7 ∷ 8 ∷ 9 ∷ 12 ∷ 14 ∷ 16 ∷ 17 ∷ 18 ∷ 21 ∷ 24 ∷ 25 ∷ 27 ∷ 28 ∷ 32 ∷ 34 ∷ 36
    ∷ 37 ∷ 42 ∷ []) board × (board.pebbles ≡ 5)))
