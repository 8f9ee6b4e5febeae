-- Solutions of texts by classes, and the faults of texts without one.
use Rattle.std.specs.Prelude.{◌≡◌, ℕ, ◌≤◌, List, None, length}
use Rattle.board_text.specs.PlainBoard.{PlainBoard}
use Rattle.strategies.specs.ClassDocument.{HasLongText, IsClassDocumentOf}
use Rattle.proof_text.specs.ProofText.{class_text}
use Rattle.positions.specs.declared.value.Value.{Value}
use Rattle.positions.specs.Value.{HasValue}
use Rattle.proof_text.specs.Proof.{PlainProof}
use Rattle.runs.specs.Texts.{IsBoardWithin, IsWrongWithin}
use Rattle.command_line.specs.declared.asked.BoardLimit.TheVariants.{Large}
use Rattle.runs.specs.declared.checking.TheConstants.{MAX_PROOF_BYTES}
use Rattle.runs.specs.declared.fault.RunFault.{RunFault}
use Rattle.runs.specs.declared.fault.RunFault.TheVariants.{DocumentTooLarge, Memory}

-- the value of the board's start, and the text of the board's document by classes, which a check
-- reads
pub record IsSolvedByClasses (board : PlainBoard) (value : Value) (text : List ℕ) : Type 0 where
  pub has_value : HasValue board board.start value
  pub document : PlainProof
  pub is_document : IsClassDocumentOf board document
  pub text_is : text ≡ class_text board document
  pub short : length text ≤ MAX_PROOF_BYTES

-- the text is a board's of few enough gaps, with this value of its start, and the bytes written
-- are the text of its document by classes
abbrev pub IsClassSolution : List ℕ → Value → List ℕ → Type 0
IsClassSolution text value written =
    (board : PlainBoard) × IsBoardWithin Large text board × IsSolvedByClasses board value written

-- the board's document by classes has a longer text than a check reads
abbrev pub HasLongDocument : PlainBoard → Type 0
HasLongDocument board = HasLongText None board MAX_PROOF_BYTES

-- the fault of a text without such a solution: that of its document, or of the text
abbrev pub IsUnsolvedByClasses : List ℕ → RunFault → Type 0
IsUnsolvedByClasses text DocumentTooLarge =
    (board : PlainBoard) × IsBoardWithin Large text board × HasLongDocument board
IsUnsolvedByClasses text fault = IsWrongWithin Large text fault

-- the same, or out of memory
abbrev pub CannotSolveByClasses : List ℕ → RunFault → Type 0
CannotSolveByClasses text Memory = Unit {0}
CannotSolveByClasses text fault = IsUnsolvedByClasses text fault
