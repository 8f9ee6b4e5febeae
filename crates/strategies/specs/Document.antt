-- The strategy document of a board: the value of the start, and the rows that show it, one for each
-- configuration that is reached.
use Rattle.board_text.specs.PlainBoard.{PlainBoard}
use Rattle.positions.specs.Claim.{Shows}
use Rattle.positions.specs.Ranks.{rank_of}
use Rattle.proof_text.specs.Documents.{IsDocument}
use Rattle.proof_text.specs.Positions.{configuration_positions}
use Rattle.proof_text.specs.Proof.{PlainProof, answer_rows, plain_proof, request_rows}
use Rattle.proof_text.specs.Rules.{BreaksNoRule}
use Rattle.proof_text.specs.declared.proof.Proof.{Proof}
use Rattle.strategies.specs.PositionDocument.{IsDocumentOver}

-- the document of the board, whose rows ascend by the ranks of their configurations
abbrev pub IsDocumentOf : PlainBoard → PlainProof → Type 0
IsDocumentOf board proof = IsDocumentOver configuration_positions (rank_of board) board proof

-- the document of the board as it is made: it is one as the format has it, breaks no rule of
-- checking, and its tables show its claim
pub record IsMadeDocument (board : PlainBoard) (proof : Proof) : Type 0 where
  pub document : IsDocumentOf board (plain_proof board proof)
  pub form : IsDocument board proof
  pub rules : BreaksNoRule configuration_positions board (plain_proof board proof)
  pub shows : Shows board (answer_rows board proof.labeller.items)
      (request_rows board proof.adversary.items) proof.claim
