-- Families of lists of labels that answers keep.
use Rattle.std.specs.Prelude.{◌≡◌, ℕ, ◌<◌, List, ◌∷◌, length, All, Contains}
use Rattle.std.specs.List.{remove}
use Rattle.board_text.specs.PlainBoard.{PlainBoard, Dominates}

-- Lists of this many labels. For each of them there is a label that dominates them all, and that,
-- put before the others in the place of any one of them, gives a list of the family again.
pub record IsClosedFamily (board : PlainBoard) (count : ℕ) (Family : List ℕ → Type 0) : Type 0 where
  pub long : (labels : List ℕ) → Family labels → length labels ≡ count
  pub answered : (labels : List ℕ) → Family labels
      → (label : ℕ) × (label < board.labels) × All (λ other. Dominates board label other) labels
      × ((index : ℕ) → index < count → Family (label ∷ remove labels index))

-- whichever pebble is left out, the labels of the others are all in one list of the family
pub record IsCovered (board : PlainBoard) (Family : List ℕ → Type 0)
    (configuration : List ℕ) : Type 0 where
  pub long : length configuration ≡ board.pebbles
  pub each : (pebble : ℕ) → pebble < board.pebbles
      → (labels : List ℕ) × Family labels × All (Contains labels) (remove configuration pebble)
