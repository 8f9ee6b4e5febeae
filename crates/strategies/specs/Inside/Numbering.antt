-- The numbers by which those who make documents name places.
use Rattle.std.specs.Prelude.{◌≡◌, ℕ, zero, suc, ◌+◌, ◌<◌, ◌↔◌, List, ◌∷◌, map}
use Rattle.std.specs.List.{remove}
use Rattle.board_text.specs.PlainBoard.{PlainBoard, IsConfiguration}
use Rattle.positions.specs.Ranks.{configurations, configuration_at, digits_of, rank_of}
use Rattle.proof_text.specs.Arranged.{document_number}

-- numbers of places
pub record Numbering : Type 1 where
  -- the number of places
  pub number : List ℕ → ℕ
  -- the places of a number
  pub places : ℕ → List ℕ
  -- the number is that of a configuration
  pub IsNumber : ℕ → Type 0

-- each configuration by its rank
abbrev pub by_rank : PlainBoard → Numbering
by_rank board = record {
  number = rank_of board;
  places = configuration_at board;
  IsNumber = λ rank. rank < configurations board;
}

-- the place that has the number in the order of documents
abbrev pub place_of : ℕ → ℕ → ℕ
place_of labels zero = labels
place_of labels (suc place) = place

-- the places that have the number
abbrev pub class_numbered : PlainBoard → ℕ → List ℕ
class_numbered board number =
    map (place_of board.labels) (digits_of (board.labels + 1) board.pebbles number)

-- the number is that of the places of a configuration
pub record IsClassNumber (board : PlainBoard) (number : ℕ) : Type 0 where
  pub is : IsConfiguration board (class_numbered board number)
  pub number_is : document_number board.labels (class_numbered board number) ≡ number

-- the number of the gap of a pebble: that of the label 0 and of the other pebbles' places after it
abbrev pub number_of_gap : PlainBoard → List ℕ → ℕ → ℕ
number_of_gap board held pebble = document_number board.labels (0 ∷ remove held pebble)

-- places by their numbers in the order of documents
abbrev pub by_order : PlainBoard → Numbering
by_order board = record {
  number = document_number board.labels;
  places = class_numbered board;
  IsNumber = IsClassNumber board;
}

-- each configuration has a number, which has its places again, and all numbers are below one
pub record IsNumbering (board : PlainBoard) (numbering : Numbering) : Type 0 where
  pub is : (number : ℕ) → numbering.IsNumber number
      → IsConfiguration board (numbering.places number)
  pub again : (number : ℕ) → numbering.IsNumber number
      → numbering.number (numbering.places number) ≡ number
  pub number_is : (places : List ℕ) → IsConfiguration board places
      → numbering.IsNumber (numbering.number places)
  pub places_are : (places : List ℕ) → IsConfiguration board places
      → numbering.places (numbering.number places) ≡ places
  pub end : ℕ
  pub below : (number : ℕ) → numbering.IsNumber number → number < end

-- exactly the numbers of configurations of which the fact holds are among these
abbrev pub AreAll : Numbering → (ℕ → Type 0) → (ℕ → Type 0) → Type 0
AreAll numbering P Among = (number : ℕ) → Among number ↔ (numbering.IsNumber number × P number)
