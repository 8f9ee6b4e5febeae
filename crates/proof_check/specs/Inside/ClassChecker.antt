-- A checker of a document with arranged places, and its rows that are ready to be checked.
use Rattle.std.specs.Prelude.{◌≡◌, ℕ, ◌<◌, List, slice_index}
use Rattle.std.specs.List.{Contains}
use Rattle.board_text.specs.PlainBoard.{PlainBoard, IsConfiguration}
use Rattle.proof_text.specs.Arranged.{arranged}
use Rattle.proof_text.specs.ClassProof.{class_answer_row, class_request_row, plain_class_proof}
use Rattle.proof_text.specs.Documents.{IsClassDocument}
use Rattle.proof_text.specs.Positions.{Positions, normal_positions}
use Rattle.proof_text.specs.Proof.{PlainProof}
use Rattle.proof_text.specs.declared.class_proof.LabellerClassRow.{LabellerClassRow}
use Rattle.proof_text.specs.declared.class_proof.AdversaryClassRow.{AdversaryClassRow}
use Rattle.symmetries.specs.Elements.{least_by}
use Rattle.proof_text.specs.declared.symmetry_proof.Images.{Images}
use Rattle.proof_check.specs.ClassFaults.{order_refusals}
use Rattle.proof_check.specs.RowNumbers.{AreNumbersOfRows}
use Rattle.proof_check.specs.Refusals.{Refusals}
use Rattle.proof_check.specs.declared.class_checking.ClassChecker.{ClassChecker}
use Rattle.proof_check.specs.declared.class_fault.ClassFault.{ClassFault}

-- the faults of a document whose rows are for places up to the elements
abbrev pub refusals_by : PlainBoard → List Images → Refusals ClassFault
refusals_by board group = order_refusals board.labels (least_by board.labels group)

-- the document, how its rows stand for configurations, and its faults
abbrev pub document_of : ClassChecker → PlainProof
document_of checker = plain_class_proof checker.board.now checker.proof.now

abbrev pub positions_for : ClassChecker → Positions
positions_for checker =
    normal_positions (least_by checker.board.now.labels checker.alike.now.group)

abbrev pub refusals_for : ClassChecker → Refusals ClassFault
refusals_for checker = refusals_by checker.board.now checker.alike.now.group

-- a document for the board, with the numbers of its rows, and symmetries of as many labels
pub record IsClassReady (checker : ClassChecker) : Type 0 where
  pub document : IsClassDocument checker.board.now checker.proof.now
  pub numbers_are : AreNumbersOfRows checker.board.now checker.proof.now checker.numbers.now
  pub same_labels : checker.alike.now.labels ≡ checker.board.now.labels

-- a labeller's row of a document is ready to be checked
pub record IsClassAnswering (checker : ClassChecker) (row : LabellerClassRow) : Type 0 where
  pub ready : IsClassReady checker
  pub at : IsConfiguration checker.board.now (class_answer_row checker.board.now row).at
  pub in_order : arranged checker.board.now.labels (class_answer_row checker.board.now row).at
      ≡ (class_answer_row checker.board.now row).at
  pub gives : (pebble : ℕ) → pebble < checker.board.now.pebbles
      → slice_index row.take pebble < checker.board.now.labels

-- an adversary's row of a document is ready to be checked
pub record IsClassRequesting (checker : ClassChecker) (row : AdversaryClassRow) : Type 0 where
  pub ready : IsClassReady checker
  pub at : IsConfiguration checker.board.now (class_request_row checker.board.now row).at
  pub in_order : arranged checker.board.now.labels (class_request_row checker.board.now row).at
      ≡ (class_request_row checker.board.now row).at
  pub asked : Contains (class_request_row checker.board.now row).at row.ask
