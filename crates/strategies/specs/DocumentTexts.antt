-- The text of the document of a board.
use Rattle.std.specs.Prelude.{◌≡◌, ℕ, List, Option}
use Rattle.board_text.specs.PlainBoard.{PlainBoard}
use Rattle.positions.specs.declared.side.Side.{Side}
use Rattle.proof_text.specs.Proof.{PlainProof}
use Rattle.proof_text.specs.ProofText.{proof_text}
use Rattle.strategies.specs.Document.{IsDocumentOf}
use Rattle.strategies.specs.Sides.{document_for}

-- the text is that of the board's document, for the side alone or for both
abbrev pub IsDocumentText : Option Side → PlainBoard → List ℕ → Type 0
IsDocumentText side board text = (document : PlainProof) × IsDocumentOf board document
    × (text ≡ proof_text board (document_for side document))
