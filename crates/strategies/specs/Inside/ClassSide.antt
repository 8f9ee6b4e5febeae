-- The sides of a document over normal places: the rows of a side's section, and their places.
use Rattle.std.specs.Prelude.{◌≡◌, ℕ, List, [], All, Bool, true, false}
use Rattle.board_text.specs.PlainBoard.{PlainBoard}
use Rattle.positions.specs.declared.value.Value.{Value}
use Rattle.proof_text.specs.ClassProof.{IsClassPadded, class_answer_row, class_request_row}
use Rattle.proof_text.specs.declared.class_proof.ClassProof.{ClassProof}
use Rattle.proof_text.specs.declared.class_proof.LabellerClassRow.{LabellerClassRow}
use Rattle.proof_text.specs.declared.class_proof.AdversaryClassRow.{AdversaryClassRow}
use Rattle.strategies.specs.Inside.Numbering.{by_order}
use Rattle.strategies.specs.Inside.NumberedPositions.{NumberedPositions, over_normal}
use Rattle.strategies.specs.Inside.Side.{Side, labeller_side_over, adversary_side_over, AreSection}

-- the labeller's rows of a document over the positions of a over
abbrev pub labeller_side_on : NumberedPositions → Value → Side LabellerClassRow
labeller_side_on over = labeller_side_over (class_answer_row over.board)
    (λ row. IsClassPadded over.board row.at × IsClassPadded over.board row.take)
    over.positions over.numbering over.board

-- the adversary's
abbrev pub adversary_side_on : NumberedPositions → Value → Side AdversaryClassRow
adversary_side_on over start = adversary_side_over (class_request_row over.board)
    (λ row. IsClassPadded over.board row.at) over.positions over.numbering over.board

-- the labeller's rows of a document of a start with the value
abbrev pub class_labeller_side : PlainBoard → (List ℕ → List ℕ) → Value → Side LabellerClassRow
class_labeller_side board normal = labeller_side_on (over_normal board normal)

-- the adversary's rows of a document of a start with a finite value
abbrev pub class_adversary_side : PlainBoard → (List ℕ → List ℕ) → Value
    → Side AdversaryClassRow
class_adversary_side board normal = adversary_side_on (over_normal board normal)

-- the rows of the side if they are asked for, and none else
abbrev pub AreClassRowsIf : {R : Type 0} → Bool → PlainBoard → Side R → List R → Type 0
AreClassRowsIf true board side rows = AreSection (by_order board) side rows
AreClassRowsIf false board side rows = rows ≡ []

-- the numbers for pebbles that the board doesn't have are 0 in all rows
pub record AreClassPadded (board : PlainBoard) (proof : ClassProof) : Type 0 where
  pub places : All (λ row. IsClassPadded board row.at) proof.labeller.items
  pub answers : All (λ row. IsClassPadded board row.take) proof.labeller.items
  pub asked : All (λ row. IsClassPadded board row.at) proof.adversary.items
