-- The numbers of the classes of a document's rows, in the order of documents.
use Rattle.std.specs.Prelude.{◌≡◌, ℕ, List, map, take}
use Rattle.board_text.specs.PlainBoard.{PlainBoard}
use Rattle.proof_text.specs.Arranged.{document_number}
use Rattle.proof_text.specs.declared.class_proof.ClassProof.{ClassProof}
use Rattle.proof_check.specs.declared.row_numbers.RowNumbers.{RowNumbers}

-- the places of a row for the pebbles of the board
abbrev pub places_of : {R : Type 0} → PlainBoard → (R → List ℕ) → R → List ℕ
places_of board at row = take board.pebbles (at row)

-- the number of each row's class
abbrev pub class_numbers : {R : Type 0} → PlainBoard → (R → List ℕ) → List R → List ℕ
class_numbers board at rows = map (λ row. document_number board.labels (places_of board at row))
    rows

-- the numbers of the rows of both sides
pub record AreNumbersOfRows (board : PlainBoard) (proof : ClassProof)
    (numbers : RowNumbers) : Type 0 where
  pub labeller : numbers.labeller.items
      ≡ class_numbers board (λ row. row.at) proof.labeller.items
  pub adversary : numbers.adversary.items
      ≡ class_numbers board (λ row. row.at) proof.adversary.items
