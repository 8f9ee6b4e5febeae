-- The sides of a document: the rows of a side's section, and their places.
use Rattle.std.specs.Prelude.{◌≡◌, ℕ, List, [], ◌∷◌, map, Option, Some, None, All}
use Rattle.std.specs.List.{cons_option}
use Rattle.board_text.specs.PlainBoard.{PlainBoard, IsConfiguration}
use Rattle.positions.specs.declared.value.Value.{Value}
use Rattle.positions.specs.declared.value.Value.TheVariants.{Finite, Forever}
use Rattle.positions.specs.Table.{AnswerRow, RequestRow}
use Rattle.proof_text.specs.declared.proof.LabellerRow.{LabellerRow}
use Rattle.proof_text.specs.declared.proof.AdversaryRow.{AdversaryRow}
use Rattle.proof_text.specs.Positions.{Positions, configuration_positions}
use Rattle.proof_text.specs.Proof.{IsPadded, answer_row, request_row}
use Rattle.strategies.specs.Inside.Numbering.{Numbering, by_rank, AreAll}
use Rattle.strategies.specs.Inside.ReachedOver.{IsReachedByAnswersOver, IsReachedByRequestsOver}
use Rattle.strategies.specs.PositionDocument.{IsLabellerRowOver, IsAdversaryRowOver, AreExactlyOver}

-- the rows of one side, which name their places by numbers
pub record Side (R : Type 0) : Type 1 where
  -- a row that names its places
  pub Row : Type 0
  pub shown : R → Row
  -- the row is one that the document has
  pub IsRow : Row → Type 0
  -- the places of a row
  pub at : Row → List ℕ
  -- the places of the number are those that a row may stand at
  pub IsReached : ℕ → Type 0
  -- a row is filled up as the format has it
  pub IsFilled : R → Type 0

-- the labeller's rows of a document over positions of a start with the value, which are shown and
-- filled so
abbrev pub labeller_side_over : {R : Type 0} → (R → AnswerRow) → (R → Type 0) → Positions
    → Numbering → PlainBoard → Value → Side R
labeller_side_over shown IsFilled positions numbering board start = record {
  Row = AnswerRow;
  shown = shown;
  IsRow = IsLabellerRowOver positions board start;
  at = λ row. row.at;
  IsReached = IsReachedByAnswersOver positions numbering board;
  IsFilled = IsFilled;
}

-- the adversary's rows of a document over positions of a start with a finite value
abbrev pub adversary_side_over : {R : Type 0} → (R → RequestRow) → (R → Type 0) → Positions
    → Numbering → PlainBoard → Side R
adversary_side_over shown IsFilled positions numbering board = record {
  Row = RequestRow;
  shown = shown;
  IsRow = IsAdversaryRowOver positions board;
  at = λ row. row.at;
  IsReached = IsReachedByRequestsOver positions numbering board;
  IsFilled = IsFilled;
}

-- the labeller's rows of a document of a start with the value
abbrev pub labeller_side : PlainBoard → Value → Side LabellerRow
labeller_side board = labeller_side_over (answer_row board) (IsPadded board)
    configuration_positions (by_rank board) board

-- the adversary's rows of a document of a start with a finite value
abbrev pub adversary_side : PlainBoard → Value → Side AdversaryRow
adversary_side board start = adversary_side_over (request_row board) (λ row. Unit {0})
    configuration_positions (by_rank board) board

-- rows stand at places that were reached, one at each
pub record AreOfReached {R : Type 0} (numbering : Numbering) (board : PlainBoard) (side : Side R)
    : Type 0 where
  pub is : (row : side.Row) → side.IsRow row → IsConfiguration board (side.at row)
  pub reached : (row : side.Row) (number : ℕ) → side.IsRow row
      → side.at row ≡ numbering.places number → side.IsReached number
  pub one : (first second : side.Row) → side.IsRow first → side.IsRow second
      → side.at first ≡ side.at second → first ≡ second

-- exactly the numbers of places that a row may stand at are among these, and rows stand at no
-- others
pub record AreReached {R : Type 0} (numbering : Numbering) (board : PlainBoard) (side : Side R)
    (Among : ℕ → Type 0) : Type 0 where
  pub each : AreAll numbering side.IsReached Among
  pub rows : AreOfReached numbering board side

-- the row at the places of a number, or none if the side has none there
abbrev pub IsRowAt : {R : Type 0} → Numbering → Side R → ℕ → Option R → Type 0
IsRowAt numbering side number (Some row) =
    side.IsRow (side.shown row) × (side.at (side.shown row) ≡ numbering.places number)
    × side.IsFilled row
IsRowAt numbering side number None =
    (row : side.Row) → side.IsRow row → side.at row ≡ numbering.places number → ⊥

-- a row of the side may stand at the places of the number
abbrev pub MayStandAt : {R : Type 0} → Numbering → Side R → ℕ → Type 0
MayStandAt numbering side number = numbering.IsNumber number × side.IsReached number

-- the rows at the places of these numbers, in their order
abbrev pub AreRowsAt : {R : Type 0} → Numbering → Side R → List ℕ → List R → Type 0
AreRowsAt numbering side [] rows = rows ≡ []
AreRowsAt {R} numbering side (number ∷ numbers) rows = (row : Option R) × (others : List R)
    × IsRowAt numbering side number row × AreRowsAt numbering side numbers others
    × (rows ≡ cons_option row others)

-- exactly the rows of the side, in ascending order of the numbers of their places
pub record AreSection {R : Type 0} (numbering : Numbering) (side : Side R) (rows : List R)
    : Type 0 where
  pub exactly : AreExactlyOver numbering.number side.IsRow side.at (map side.shown rows)
  pub filled : All side.IsFilled rows

-- the adversary's rows of the document of a start with the value, which has none if that is forever
abbrev pub AreAdversaryRows : PlainBoard → Value → List AdversaryRow → Type 0
AreAdversaryRows board (Finite number) rows =
    AreSection (by_rank board) (adversary_side board (Finite number)) rows
AreAdversaryRows board Forever rows = rows ≡ []
