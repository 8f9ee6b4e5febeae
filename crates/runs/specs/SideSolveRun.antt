-- Solutions of texts for one side alone, and the faults of texts without one.
use Rattle.std.specs.Prelude.{◌≡◌, ℕ, ◌≤◌, List, Some, length}
use Rattle.board_text.specs.PlainBoard.{PlainBoard}
use Rattle.command_line.specs.declared.asked.BoardLimit.{BoardLimit}
use Rattle.command_line.specs.declared.asked.BoardLimit.TheVariants.{Small, Large}
use Rattle.positions.specs.Value.{HasValue}
use Rattle.positions.specs.declared.side.Side.{Side}
use Rattle.positions.specs.declared.side.Side.TheVariants.{Adversary}
use Rattle.positions.specs.declared.value.Value.{Value}
use Rattle.positions.specs.declared.value.Value.TheVariants.{Forever}
use Rattle.proof_text.specs.Proof.{PlainProof}
use Rattle.proof_text.specs.ProofText.{class_text}
use Rattle.strategies.specs.ClassDocument.{HasLongText, IsClassDocumentFor}
use Rattle.strategies.specs.DocumentTexts.{IsDocumentText}
use Rattle.strategies.specs.Sides.{HasStrategy}
use Rattle.runs.specs.SolveRun.{CannotSolve}
use Rattle.runs.specs.Texts.{IsBoardWithin, IsWrongWithin}
use Rattle.runs.specs.declared.checking.TheConstants.{MAX_PROOF_BYTES}
use Rattle.runs.specs.declared.fault.RunFault.{RunFault}
use Rattle.runs.specs.declared.fault.RunFault.TheVariants.{DocumentTooLarge, LastsForever, Memory}
use Rattle.runs.specs.declared.fault.RunFault.TheVariants.{Worker}

-- the text is that of the board's document for the side alone: by configurations, or for a board
-- that may be large by classes and as short as a check reads
abbrev pub IsTextFor : BoardLimit → Side → PlainBoard → List ℕ → Type 0
IsTextFor Small side board text = IsDocumentText (Some side) board text
IsTextFor Large side board text = ((document : PlainProof)
    × IsClassDocumentFor (Some side) board document × (text ≡ class_text board document))
    × (length text ≤ MAX_PROOF_BYTES)

-- the text is a board's within the limit, with this value of its start, for which the side has a
-- strategy, and the bytes written are the text of the board's document for the side alone
pub record IsSideSolution (limit : BoardLimit) (side : Side) (text : List ℕ) (value : Value)
    (written : List ℕ) : Type 0 where
  pub board : PlainBoard
  pub within : IsBoardWithin limit text board
  pub has_value : HasValue board board.start value
  pub strategy : HasStrategy (Some side) value
  pub written_is : IsTextFor limit side board written

-- the side has a strategy on the board's start, and the document by classes for it alone is longer
-- than a check reads
pub record IsLongFor (side : Side) (board : PlainBoard) : Type 0 where
  pub value : Value
  pub has_value : HasValue board board.start value
  pub strategy : HasStrategy (Some side) value
  pub long : HasLongText (Some side) board MAX_PROOF_BYTES

-- the fault of a text without such a solution: the adversary is asked for where requests are
-- answered for ever, the document is too long, or the text is no board's within the limit
abbrev pub IsUnsolvedFor : BoardLimit → Side → List ℕ → RunFault → Type 0
IsUnsolvedFor limit side text LastsForever = (side ≡ Adversary) × ((board : PlainBoard)
    × IsBoardWithin limit text board × HasValue board board.start Forever)
IsUnsolvedFor limit side text DocumentTooLarge =
    (limit ≡ Large) × ((board : PlainBoard) × IsBoardWithin limit text board × IsLongFor side board)
IsUnsolvedFor limit side text fault = IsWrongWithin limit text fault

-- the same, or out of memory, or a thread wasn't started for a small board
abbrev pub CannotSolveFor : BoardLimit → Side → ℕ → List ℕ → RunFault → Type 0
CannotSolveFor limit side workers text Memory = Unit {0}
CannotSolveFor limit side workers text Worker = CannotSolve limit workers text Worker
CannotSolveFor limit side workers text fault = IsUnsolvedFor limit side text fault
