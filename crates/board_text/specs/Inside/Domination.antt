-- Definitions for this crate's own functions, beside `Domination`.
use Rattle.std.specs.Prelude.{◌≡◌, ℕ, zero, suc, ◌+◌, ◌*◌, ◌/◌, ◌%◌, ◌<◌, ◌≤◌, ◌==◌, ◌⊎◌, List, []}
use Rattle.std.specs.Prelude.{◌∷◌, ◌++◌, Bool, true, false}
use Rattle.std.specs.Prelude.{if◌then◌else◌, length, slice_index}
use Rattle.std.specs.Int.{bit_at}
use Rattle.board_text.specs.Ranges.{InRange}
use Rattle.board_text.specs.PlainBoard.{AreLabels}
use Rattle.board_text.specs.declared.board.TheConstants.{MAX_LABELS}

-- whether the rows say that x dominates y: the bit x of the row of y is set
abbrev pub beats_in : List ℕ → ℕ → ℕ → Bool
beats_in rows x y = bit_at (slice_index rows (4 * y + x / 64)) (x % 64) == 1

-- the pair of a number among all pairs of labels in ascending order
abbrev pub pair_at : ℕ → ℕ → ℕ × ℕ
pair_at labels number = (number / labels, number % labels)

-- whether the rows have the pair of a number
abbrev pub mark_of : ℕ → List ℕ → ℕ → Bool
mark_of labels rows number = beats_in rows (number / labels) (number % labels)

-- the pairs of the marked numbers below n
unfoldable pub pairs_below : ℕ → (ℕ → Bool) → ℕ → List (ℕ × ℕ)
pairs_below labels marks zero = []
pairs_below labels marks (suc number) =
    pairs_below labels marks number ++ (if marks number then pair_at labels number ∷ [] else [])

-- the pairs that the rows have
abbrev pub pairs_of : ℕ → List ℕ → List (ℕ × ℕ)
pairs_of labels rows = pairs_below labels (mark_of labels rows) (labels * labels)

-- the number after that of the last pair
abbrev pub EndsAt : ℕ → List (ℕ × ℕ) → ℕ → Type 0
EndsAt labels pairs next = ((pairs ≡ []) × (next ≡ 0))
    ⊎ ((before : List (ℕ × ℕ)) × (last : ℕ × ℕ) × (pairs ≡ before ++ last ∷ [])
    × AreLabels labels last
    × (next ≡ last.0 * labels + last.1 + 1))

-- no pair from a number on is in the rows, and no bit that stands for no label is set
abbrev pub ClearFrom : ℕ → List ℕ → ℕ → Type 0
ClearFrom labels rows next =
    (x y : ℕ) → x < MAX_LABELS → y < labels → next ≤ x * labels + y → beats_in rows x y ≡ false

-- four words for each label, and the least number that the next pair may have
pub record AreBitRows (labels : ℕ) (rows : List ℕ) (next : ℕ) : Type 0 where
  pub in_range : InRange 1 MAX_LABELS labels
  pub sized : length rows ≡ 4 * labels
  pub clear : ClearFrom labels rows next
  pub ends : EndsAt labels (pairs_of labels rows) next

-- the new rows have one pair more
pub record SetsPair (labels : ℕ) (old new : List ℕ) (x y : ℕ) : Type 0 where
  pub size : length new ≡ length old
  pub here : beats_in new x y ≡ true
  pub others : (i j : ℕ) → i < MAX_LABELS → ¬ ((i ≡ x) × (j ≡ y))
      → beats_in new i j ≡ beats_in old i j
