-- A checker's board and rows.
use Rattle.std.specs.Prelude.{◌≡◌, ℕ, ◌<◌, List, slice_index}
use Rattle.std.specs.List.{All}
use Rattle.board_text.specs.PlainBoard.{PlainBoard, IsBoard, IsConfiguration}
use Rattle.positions.specs.Ranks.{rank_of, configurations}
use Rattle.positions.specs.declared.claim.Claim.{Claim}
use Rattle.proof_text.specs.declared.proof.LabellerRow.{LabellerRow}
use Rattle.proof_text.specs.declared.proof.AdversaryRow.{AdversaryRow}
use Rattle.proof_text.specs.Proof.{PlainProof, answer_rows, request_rows}
use Rattle.proof_check.specs.Inside.GapBounds.{AreBounds}
use Rattle.proof_check.specs.Inside.RowIndex.{AreRanked}

-- a board, and a document for it
pub record Checked : Type 0 where
  pub board : PlainBoard
  pub proof : PlainProof

-- the board, and the document with this claim and these rows
abbrev pub checked_document : PlainBoard → Claim → List LabellerRow → List AdversaryRow → Checked
checked_document board claim labeller adversary =
    let proof : PlainProof = record {
      claim = claim;
      labeller = answer_rows board labeller;
      adversary = request_rows board adversary;
    } in
    record { board = board; proof = proof }

-- each answer for a pebble of the board is a label
abbrev pub GivesLabels : PlainBoard → LabellerRow → Type 0
GivesLabels board row =
    (pebble : ℕ) → pebble < board.pebbles → slice_index row.take pebble < board.labels

-- a labeller's row is ready to be checked
pub record IsAnswering (board : PlainBoard) (row : LabellerRow) : Type 0 where
  pub is_board : IsBoard board
  pub is_rank : row.at < configurations board
  pub gives : GivesLabels board row

-- an adversary's row is ready to be checked
pub record IsRequesting (board : PlainBoard) (row : AdversaryRow) : Type 0 where
  pub is_board : IsBoard board
  pub is_rank : row.at < configurations board
  pub is_pebble : row.ask < board.pebbles

-- rows in ascending order, each ready to be checked
pub record AreReady {R : Type 0} (board : PlainBoard) (IsReady : R → Type 0) (rank : R → ℕ)
    (rows : List R) : Type 0 where
  pub ranked : AreRanked rank (configurations board) rows
  pub each : All IsReady rows

-- labeller's rows that are ready to be checked
abbrev pub AreAnswering : PlainBoard → List LabellerRow → Type 0
AreAnswering board rows = AreReady board (IsAnswering board) (λ row. row.at) rows

-- adversary's rows that are ready to be checked
abbrev pub AreRequesting : PlainBoard → List AdversaryRow → Type 0
AreRequesting board rows = AreReady board (IsRequesting board) (λ row. row.at) rows

-- the space is the board's, the rows of both sides are ready to be checked, and gaps have bounds
pub record IsChecker (board space : PlainBoard) (labeller : List LabellerRow)
    (adversary : List AdversaryRow) (bounds : List ℕ) : Type 0 where
  pub same_board : space ≡ board
  pub answering : AreAnswering board labeller
  pub requesting : AreRequesting board adversary
  pub bounded : AreBounds board (request_rows board adversary) bounds

-- P holds of the configuration of the rank
abbrev pub HoldsAtRank : PlainBoard → ℕ → (List ℕ → Type 0) → Type 0
HoldsAtRank board rank P = (configuration : List ℕ) → IsConfiguration board configuration
    → rank ≡ rank_of board configuration → P configuration
