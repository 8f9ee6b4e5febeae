-- The meaning of the text that is printed for the text of a board.
use Rattle.std.specs.Prelude.{◌≡◌, ℕ, List}
use Rattle.board_text.specs.PlainBoard.{PlainBoard, IsBoard}
use Rattle.board_text.specs.BoardText.{board_text}
use Rattle.positions.specs.declared.value.Value.{Value}
use Rattle.proof_text.specs.Proof.{PlainProof}
use Rattle.proof_text.specs.Documents.{IsProof}
use Rattle.proof_text.specs.ProofText.{proof_text}
use Rattle.proof_text.specs.Positions.{configuration_positions}
use Rattle.proof_text.specs.Rules.{BreaksNoRule}
use Rattle.strategies.specs.Meaning.{Means}

-- the text is this board's, and the bytes written are the text of this document, which means the
-- value
pub record ShowsValue (text : List ℕ) (value : Value) (written : List ℕ) : Type 0 where
  pub board : PlainBoard
  pub document : PlainProof
  pub is_board : IsBoard board
  pub text_is : text ≡ board_text board
  pub written_is : written ≡ proof_text board document
  pub means : Means board document value

-- the same, and the document is as the format has it and breaks no rule, so that a check accepts
-- its text
pub record IsAccepted (text : List ℕ) (value : Value) (written : List ℕ) : Type 0 where
  pub shows : ShowsValue text value written
  pub is_proof : IsProof shows.board shows.document
  pub rules : BreaksNoRule configuration_positions shows.board shows.document
