-- The pairs that the bit rows of a board stand for: four words of 64 bits for each label, with a
-- bit for each label that dominates it.
use Rattle.std.specs.Prelude.{ℕ, ◌/◌, ◌%◌, ◌==◌, List, Bool, slice_index}
use Rattle.std.specs.Int.{bit_at}

-- whether the bit of a label is set in the words of a row
abbrev pub has_bit : List ℕ → ℕ → Bool
has_bit row label = bit_at (slice_index row (label / 64)) (label % 64) == 1

-- a set of pairs of labels, as plain data
pub record PairsOfLabels : Type 0 where
  pub labels : ℕ
  pub pairs : List (ℕ × ℕ)
