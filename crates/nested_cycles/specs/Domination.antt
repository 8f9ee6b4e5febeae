-- The domination among labels of a nested board.
use Rattle.std.specs.Prelude.{◌≡◌, ℕ, ◌+◌, ◌-◌, ◌%◌, ◌^◌, ◌<◌, List, length, take, slice_index}
use Rattle.nested_cycles.specs.Words.{word_of}

-- At the first index where two words of one length differ, the digit of the first comes next after
-- that of the second round the three-cycle.
pub record WordDominates (word other : List ℕ) : Type 0 where
  pub index : ℕ
  pub inside : index < length word
  pub same_before : take index word ≡ take index other
  pub next_there : slice_index word index ≡ (slice_index other index + 1) % 3

-- the number of labels of the nested board of a level
abbrev pub labels_of : ℕ → ℕ
labels_of levels = 3 ^ (levels - 1)

-- the word of a label of the nested board of a level
abbrev pub label_word : ℕ → ℕ → List ℕ
label_word levels label = word_of (levels - 1) label

-- the label x dominates the label y on the nested board of a level
abbrev pub NestedDominates : ℕ → ℕ → ℕ → Type 0
NestedDominates levels x y = WordDominates (label_word levels x) (label_word levels y)
