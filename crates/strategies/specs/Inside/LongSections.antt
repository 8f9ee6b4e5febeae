-- Documents over normal places, for both sides or for one, and those whose sections are too long.
use Rattle.std.specs.Prelude.{◌≡◌, ℕ, ◌<◌, List, Option, length}
use Rattle.board_text.specs.PlainBoard.{PlainBoard}
use Rattle.positions.specs.declared.side.Side.{Side}
use Rattle.proof_text.specs.Arranged.{document_number}
use Rattle.proof_text.specs.Positions.{normal_positions}
use Rattle.proof_text.specs.Proof.{PlainProof}
use Rattle.proof_text.specs.ProofText.{class_sections_text}
use Rattle.strategies.specs.PositionDocument.{IsDocumentOver}
use Rattle.strategies.specs.Sides.{document_for}
use Rattle.strategies.specs.declared.unmade.Unmade.{Unmade}
use Rattle.strategies.specs.declared.unmade.Unmade.TheVariants.{Memory, TooLong}

-- the board's document over these normal places, for the side alone or for both
abbrev pub IsDocumentOverFor : Option Side → PlainBoard → (List ℕ → List ℕ) → PlainProof → Type 0
IsDocumentOverFor side board normal proof = (document : PlainProof)
    × IsDocumentOver (normal_positions normal) (document_number board.labels) board document
    × (proof ≡ document_for side document)

-- its sections have more bytes
abbrev pub HasLongSections : Option Side → PlainBoard → (List ℕ → List ℕ) → ℕ → Type 0
HasLongSections side board normal bytes = (document : PlainProof)
    × IsDocumentOver (normal_positions normal) (document_number board.labels) board document
    × (bytes < length (class_sections_text board (document_for side document)))

-- why rows whose text may have so many bytes aren't made: they have more, or out of memory
abbrev pub HasNoRows : Option Side → PlainBoard → (List ℕ → List ℕ) → ℕ → Unmade → Type 0
HasNoRows side board normal bytes TooLong = HasLongSections side board normal bytes
HasNoRows side board normal bytes Memory = Unit {0}
