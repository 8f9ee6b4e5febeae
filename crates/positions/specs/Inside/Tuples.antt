-- Definitions for this crate's own functions, beside `Tuples`.
use Rattle.std.specs.Prelude.{◌≡◌, ℕ, ◌+◌, ◌-◌, ◌*◌, ◌^◌, ◌<◌, ◌↔◌, List, length, slice_index_or}
use Rattle.std.specs.Int.{bit_at}
use Rattle.std.specs.List.{All}
use Rattle.board_text.specs.PlainBoard.{PlainBoard, DominatesPlace, places}
use Rattle.positions.specs.Ranks.{digits_of}
use Rattle.positions.specs.Gaps.{gaps_each}

-- the label is one of the board, and dominates all these places
abbrev pub DominatesAll : PlainBoard → List ℕ → ℕ → Type 0
DominatesAll board held label = (label < board.labels) × All (DominatesPlace board label) held

-- the bits of the word are those of 64 labels, from 64 times
-- a number on, that dominate all these places
abbrev pub AreDominating : PlainBoard → ℕ → List ℕ → ℕ → Type 0
AreDominating board number held word =
    (bit : ℕ) → bit < 64 → (bit_at word bit ≡ 1) ↔ DominatesAll board held (64 * number + bit)

-- the first words are those of tuples of `count` places, in order
abbrev pub AreTupleWords : PlainBoard → ℕ → ℕ → List ℕ → Type 0
AreTupleWords board number count words = (tuple : ℕ) → tuple < length words
    → AreDominating board number (digits_of (places board) count tuple)
    (slice_index_or words tuple 0)

-- there is a word for each tuple of `count` places
pub record AreAllWords (board : PlainBoard) (number count : ℕ) (words : List ℕ) : Type 0 where
  pub each : AreTupleWords board number count words
  pub so_many : length words ≡ places board ^ count

-- the words, or 0 if there is none, are those of all tuples of the pebbles but one
abbrev pub IsColumn : PlainBoard → ℕ → List ℕ → Type 0
IsColumn board number words = (tuple : ℕ) → tuple < gaps_each board
    → AreDominating board number (digits_of (places board) (board.pebbles - 1) tuple)
    (slice_index_or words tuple 0)

-- the four columns of the labels that a board may have
abbrev pub AreColumns : PlainBoard → List (List ℕ) → Type 0
AreColumns board columns =
    (number : ℕ) (d : List ℕ) → number < 4 → IsColumn board number (slice_index_or columns number d)
