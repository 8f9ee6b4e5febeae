-- Solutions of texts, and the faults of texts without one.
use Rattle.std.specs.Prelude.{◌≡◌, ℕ, ◌<◌, ◌≤◌, List}
use Rattle.board_text.specs.PlainBoard.{PlainBoard}
use Rattle.classes.specs.Numbers.{class_count}
use Rattle.positions.specs.declared.value.Value.{Value}
use Rattle.positions.specs.Value.{HasValue}
use Rattle.proof_text.specs.Proof.{PlainProof}
use Rattle.proof_text.specs.ProofText.{proof_text}
use Rattle.round_workers.specs.declared.solving.TheConstants.{MIN_SHARED}
use Rattle.strategies.specs.Document.{IsDocumentOf}
use Rattle.runs.specs.Texts.{IsBoardWithin, IsSmallBoard, IsWrongWithin}
use Rattle.command_line.specs.declared.asked.BoardLimit.{BoardLimit}
use Rattle.command_line.specs.declared.asked.BoardLimit.TheVariants.{Small}
use Rattle.runs.specs.declared.fault.RunFault.{RunFault}
use Rattle.runs.specs.declared.fault.RunFault.TheVariants.{Memory, Worker}

-- the value of the board's start, and the text of the board's document
pub record IsSolved (board : PlainBoard) (value : Value) (text : List ℕ) : Type 0 where
  pub has_value : HasValue board board.start value
  pub document : PlainProof
  pub is_document : IsDocumentOf board document
  pub text_is : text ≡ proof_text board document

-- the text is a small board's, with this value of its start,
-- and the bytes written are the text of its document
abbrev pub IsSolution : List ℕ → Value → List ℕ → Type 0
IsSolution text value written =
    (board : PlainBoard) × IsSmallBoard text board × IsSolved board value written

-- the faults of a text that isn't solved: out of memory; or it is a small board's, and a thread
-- wasn't started, which several workers alone can have, and with enough classes alone; or it isn't
-- a board's within the limit
abbrev pub CannotSolve : BoardLimit → ℕ → List ℕ → RunFault → Type 0
CannotSolve limit workers text Memory = Unit {0}
CannotSolve limit workers text Worker =
    (limit ≡ Small) × (1 < workers) × ((board : PlainBoard) × IsBoardWithin limit text board
    × (MIN_SHARED ≤ class_count board))
CannotSolve limit workers text fault = IsWrongWithin limit text fault
