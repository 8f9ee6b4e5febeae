-- A strategy document whose rows are for classes, as plain data.
use Rattle.std.specs.Prelude.{◌≡◌, ℕ, ◌≤◌, List, map, take, slice_index, Contains}
use Rattle.board_text.specs.PlainBoard.{PlainBoard, IsConfiguration}
use Rattle.positions.specs.Table.{AnswerRow, RequestRow}
use Rattle.proof_text.specs.Proof.{PlainProof}
use Rattle.proof_text.specs.declared.proof.TheConstants.{MAX_TURNS}
use Rattle.proof_text.specs.declared.class_proof.LabellerClassRow.{LabellerClassRow}
use Rattle.proof_text.specs.declared.class_proof.AdversaryClassRow.{AdversaryClassRow}
use Rattle.proof_text.specs.declared.class_proof.ClassProof.{ClassProof}

-- an adversary's row; its request is the place of a pebble that is asked
pub record IsClassRequestRow (board : PlainBoard) (row : RequestRow) : Type 0 where
  pub at : IsConfiguration board row.at
  pub left : row.left ≤ MAX_TURNS
  pub request : Contains row.at row.request

-- ---- rows with room for the most pebbles

-- a labeller's row with places and answers for the pebbles of the board alone
abbrev pub class_answer_row : PlainBoard → LabellerClassRow → AnswerRow
class_answer_row board row = record {
  at = take board.pebbles row.at;
  turns = row.turns;
  answers = take board.pebbles row.take;
}

-- an adversary's row with places for the pebbles of the board alone
abbrev pub class_request_row : PlainBoard → AdversaryClassRow → RequestRow
class_request_row board row =
    record { at = take board.pebbles row.at; left = row.left; request = row.ask }

abbrev pub class_answer_rows : PlainBoard → List LabellerClassRow → List AnswerRow
class_answer_rows board rows = map (class_answer_row board) rows

abbrev pub class_request_rows : PlainBoard → List AdversaryClassRow → List RequestRow
class_request_rows board rows = map (class_request_row board) rows

-- a document with rows for the pebbles of the board alone
abbrev pub plain_class_proof : PlainBoard → ClassProof → PlainProof
plain_class_proof board proof = record {
  claim = proof.claim;
  labeller = class_answer_rows board proof.labeller.items;
  adversary = class_request_rows board proof.adversary.items;
}

-- the numbers for pebbles that the board doesn't have are 0
abbrev pub IsClassPadded : PlainBoard → List ℕ → Type 0
IsClassPadded board numbers = (pebble : ℕ) → board.pebbles ≤ pebble → slice_index numbers pebble ≡ 0
