-- Clauses of this crate's own functions, beside `SolveRun`.
use Rattle.std.specs.Prelude.{◌≡◌, ℕ, ◌<◌, ◌≤◌, Bool, List, Option, Result, Some, length}
use Rattle.board_text.specs.PlainBoard.{PlainBoard}
use Rattle.classes.specs.Numbers.{class_count}
use Rattle.positions.specs.Value.{HasValue}
use Rattle.positions.specs.declared.side.Side.{Side}
use Rattle.positions.specs.declared.side.Side.TheVariants.{Adversary}
use Rattle.positions.specs.declared.value.Value.{Value}
use Rattle.positions.specs.declared.value.Value.TheVariants.{Forever}
use Rattle.proof_text.specs.Proof.{PlainProof}
use Rattle.proof_text.specs.ProofText.{class_text}
use Rattle.round_workers.specs.declared.solving.TheConstants.{MIN_SHARED}
use Rattle.runs.specs.Notices.{IsToldOnBoard, nothing_after}
use Rattle.runs.specs.Texts.{HasNoneWithin, IsBoardWithin}
use Rattle.runs.specs.declared.fault.RunFault.{RunFault}
use Rattle.strategies.specs.ClassDocument.{HasLongText, IsClassDocumentFor}
use Rattle.strategies.specs.DocumentTexts.{IsDocumentText}
use Rattle.strategies.specs.Sides.{HasStrategy}
use Rattle.strategies.specs.SymmetricDocument.{HasLongSymmetryText}
use Rattle.runs.specs.declared.checking.TheConstants.{MAX_PROOF_BYTES}
use Rattle.command_line.specs.declared.asked.BoardLimit.{BoardLimit}
use Rattle.command_line.specs.declared.asked.BoardLimit.TheVariants.{Small}
use Rattle.runs.specs.declared.fault.RunFault.TheVariants.{DocumentTooLarge, LastsForever, Memory}
use Rattle.runs.specs.declared.fault.RunFault.TheVariants.{Worker}

-- out of memory, or a thread wasn't started, which several workers on a small board with enough
-- classes alone can have
abbrev pub IsRefused : BoardLimit → ℕ → PlainBoard → RunFault → Type 0
IsRefused limit workers board Memory = Unit {0}
IsRefused limit workers board Worker =
    (limit ≡ Small) × (1 < workers) × (MIN_SHARED ≤ class_count board)
IsRefused limit workers board fault = ⊥

-- out of memory, or the adversary is asked for alone where requests are answered for ever
abbrev pub IsUnmade : Option Side → PlainBoard → RunFault → Type 0
IsUnmade side board Memory = Unit {0}
IsUnmade side board LastsForever = (side ≡ Some Adversary) × HasValue board board.start Forever
IsUnmade side board fault = ⊥

-- the value of the board's start, which the side that is asked for has a strategy on
pub record IsValueFor (side : Option Side) (board : PlainBoard) (value : Value) : Type 0 where
  pub has_value : HasValue board board.start value
  pub strategy : HasStrategy side value

-- the same, or the side has a strategy, and its document by classes of the board is too long
abbrev pub IsUnshown : Option Side → PlainBoard → RunFault → Type 0
IsUnshown side board DocumentTooLarge =
    ((value : Value) → HasValue board board.start value → HasStrategy side value)
    × HasLongText side board MAX_PROOF_BYTES
IsUnshown side board fault = IsUnmade side board fault

-- out of memory, the adversary is asked for alone where requests are answered for ever, or the
-- document up to the symmetries that the maps make is too long
abbrev pub IsUnshownUpTo : Option Side → PlainBoard → List (List ℕ) → RunFault → Type 0
IsUnshownUpTo side board maps DocumentTooLarge =
    ((value : Value) → HasValue board board.start value → HasStrategy side value)
    × HasLongSymmetryText side board maps MAX_PROOF_BYTES
IsUnshownUpTo side board maps fault = IsUnmade side board fault

-- that value, and the text of the board's document for the side alone, or for both
abbrev pub IsSolvedFor : Option Side → PlainBoard → Value → List ℕ → Type 0
IsSolvedFor side board value text = IsValueFor side board value × IsDocumentText side board text

-- the same of its document by classes, which a check reads
abbrev pub IsSolvedByClassesFor : Option Side → PlainBoard → Value → List ℕ → Type 0
IsSolvedByClassesFor side board value text = IsValueFor side board value
    × ((document : PlainProof) × IsClassDocumentFor side board document
    × (text ≡ class_text board document)) × (length text ≤ MAX_PROOF_BYTES)

-- what is told of a board within the limit whose text this is, as in a run that reads it and tells
-- nothing after the rounds
abbrev pub IsToldOnText : {Answer : Type 0} → BoardLimit → List ℕ → Bool → Result Answer RunFault
    → List ℕ → Type 0
IsToldOnText limit text shows result told =
    IsToldOnBoard (IsBoardWithin limit text) (HasNoneWithin limit text) shows nothing_after
    result told
