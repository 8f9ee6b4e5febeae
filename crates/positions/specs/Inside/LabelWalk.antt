-- Definitions for this crate's own functions, beside `LabelWalk`.
use Rattle.std.specs.Prelude.{◌≡◌, ℕ, ◌*◌, ◌<◌, true, List, length, slice_index, slice_set}
use Rattle.board_text.specs.Domination.{has_bit}

-- the walk has come to the word at the number, of which the bits `word` remain;
-- none after it has a bit if `later` is 0
pub record IsAtWord (words : List ℕ) (number word later : ℕ) : Type 0 where
  pub sized : length words ≡ 4
  pub inside : number < 4
  pub none : (label : ℕ) → label < 64 * number → has_bit (slice_set words number word) label ≡ true
      → ⊥
  pub empty : later ≡ 0 → (index : ℕ) → number < index → index < 4 → slice_index words index ≡ 0
