-- The lines of the rows of one side, in parts.
use Rattle.std.specs.Prelude.{◌≡◌, ℕ, Bool, true, false, List, [], ◌++◌, length}
use Rattle.std.specs.List.{flat_map, sum_by}
use Rattle.board_text.specs.LineForms.{number_line}
use Rattle.board_text.specs.PlainBoard.{PlainBoard}
use Rattle.proof_text.specs.declared.proof.LabellerRow.{LabellerRow}
use Rattle.proof_text.specs.declared.proof.AdversaryRow.{AdversaryRow}
use Rattle.proof_text.specs.Proof.{answer_row, request_row}
use Rattle.proof_text.specs.ProofText.{answer_line, request_line}
use Rattle.strategies.specs.declared.lines.Lines.{Lines}
use Rattle.strategies.specs.Inside.Marks.{AreListed, IsMarked}
use Rattle.strategies.specs.Inside.Numbering.{by_rank}
use Rattle.strategies.specs.Inside.Side.{Side, AreRowsAt, AreSection}

-- the line of a labeller's row
abbrev pub labeller_line : PlainBoard → LabellerRow → List ℕ
labeller_line board row = answer_line board (answer_row board row)

-- the line of an adversary's row
abbrev pub adversary_line : PlainBoard → AdversaryRow → List ℕ
adversary_line board row = request_line board (request_row board row)

-- the lines of the rows at these ranks, and how many rows there are
pub record AreLinesAt {R : Type 0} (board : PlainBoard) (side : Side R) (line : R → List ℕ)
    (ranks bytes : List ℕ) (count : ℕ) : Type 0 where
  pub rows : List R
  pub are_rows : AreRowsAt (by_rank board) side ranks rows
  pub bytes_are : bytes ≡ flat_map line rows
  pub count_is : count ≡ length rows

-- the lines of the rows at the marked ranks from the first to before the end
pub record AreLinesBetween {R : Type 0} (board : PlainBoard) (side : Side R) (line : R → List ℕ)
    (marks : List Bool) (first end : ℕ) (lines : Lines) : Type 0 where
  pub ranks : List ℕ
  pub listed : AreListed (IsMarked marks) first end ranks
  pub are_lines : AreLinesAt board side line ranks lines.bytes.items lines.rows

-- the lines of exactly the rows of the side, in ascending rank, in parts
pub record AreSectionLines {R : Type 0} (board : PlainBoard) (side : Side R) (line : R → List ℕ)
    (parts : List Lines) : Type 0 where
  pub rows : List R
  pub are_rows : AreSection (by_rank board) side rows
  pub bytes_are : flat_map (λ part. part.bytes.items) parts ≡ flat_map line rows
  pub count_is : sum_by (λ part. part.rows) parts ≡ length rows

-- the lines of a side's rows if they are asked for, and none else
abbrev pub AreLinesIf : {R : Type 0} → Bool → PlainBoard → Side R → (R → List ℕ) → List Lines
    → Type 0
AreLinesIf true board side line parts = AreSectionLines board side line parts
AreLinesIf false board side line parts = parts ≡ []

-- the text of a section with the word at its head and these lines of its rows
abbrev pub section_lines_text : List ℕ → List Lines → List ℕ
section_lines_text word parts = number_line word (sum_by (λ part. part.rows) parts)
    ++ flat_map (λ part. part.bytes.items) parts
