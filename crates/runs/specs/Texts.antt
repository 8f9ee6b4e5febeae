-- Texts of boards and of documents in memory, and their faults.
use Rattle.std.specs.Prelude.{◌≡◌, ◌≢◌, ℕ, ◌-◌, ◌≤◌, ◌⊎◌, List, take, codes}
use Rattle.board_text.specs.PlainBoard.{PlainBoard, IsBoard, places}
use Rattle.board_text.specs.BoardText.{board_text}
use Rattle.board_text.specs.BoardFaults as board_faults
use Rattle.board_text.specs.declared.fault.BoardKind.TheVariants as board_kinds
use Rattle.proof_text.specs.ProofFaults.{HasClassTextFault, HasSymmetryTextFault}
use Rattle.classes.specs.Numbers.{ways}
use Rattle.gap_values.specs.declared.rounds.TheConstants.{MAX_GAPS}
use Rattle.positions.specs.Ranks.{configurations}
use Rattle.positions.specs.declared.space.TheConstants.{MAX_CONFIGURATIONS}
use Rattle.command_line.specs.declared.asked.BoardLimit.{BoardLimit}
use Rattle.command_line.specs.declared.asked.BoardLimit.TheVariants.{Small, Large}
use Rattle.proof_text.specs.ProofFaults as proof_faults
use Rattle.proof_text.specs.declared.fault.ProofFault.{ProofFault}
use Rattle.proof_text.specs.declared.fault.ProofKind.TheVariants as proof_kinds
use Rattle.runs.specs.declared.fault.RunFault.{RunFault}
use Rattle.runs.specs.declared.fault.RunFault.TheVariants.{Board, TooLarge, Proof, Memory}
use Rattle.runs.specs.declared.verdicts.DocumentVersion.{DocumentVersion}
use Rattle.runs.specs.declared.verdicts.DocumentVersion.TheVariants.{ByClasses, ByConfigurations}
use Rattle.runs.specs.declared.verdicts.DocumentVersion.TheVariants.{UpToSymmetries}

-- ---- boards

-- the text is this board's, which is small enough
pub record IsBoardAmong (IsSmall : PlainBoard → Type 0) (text : List ℕ)
    (board : PlainBoard) : Type 0 where
  pub is_board : IsBoard board
  pub few : IsSmall board
  pub spelled : text ≡ board_text board

-- the fault of a text that is no such board's
abbrev pub IsWrongAmong : (PlainBoard → Type 0) → List ℕ → RunFault → Type 0
IsWrongAmong IsSmall text (Board fault) =
    board_faults.HasBoardFault text fault.line fault.kind × (fault.kind ≢ board_kinds.Memory)
IsWrongAmong IsSmall text TooLarge =
    (board : PlainBoard) × IsBoard board × (text ≡ board_text board) × (IsSmall board → ⊥)
IsWrongAmong IsSmall text fault = ⊥

-- the fault of a text that is no such board's, or out of memory
abbrev pub HasNoneAmong : (PlainBoard → Type 0) → List ℕ → RunFault → Type 0
HasNoneAmong IsSmall text Memory = Unit {0}
HasNoneAmong IsSmall text fault = IsWrongAmong IsSmall text fault

-- a board of any size
abbrev pub OfAnySize : PlainBoard → Type 0
OfAnySize board = Unit {0}

-- the board has few enough configurations, or few enough gaps: classes of all pebbles but one
abbrev pub IsWithinLimit : BoardLimit → PlainBoard → Type 0
IsWithinLimit Small board = configurations board ≤ MAX_CONFIGURATIONS
IsWithinLimit Large board = ways (board.pebbles - 1) (places board) ≤ MAX_GAPS

-- the same of a board whose values are found up to symmetries of its domain, where gaps aren't
-- counted
abbrev pub IsWithinUpTo : BoardLimit → PlainBoard → Type 0
IsWithinUpTo Small board = IsWithinLimit Small board
IsWithinUpTo Large board = OfAnySize board

-- the text is this board's, which is within the limit
abbrev pub IsBoardWithin : BoardLimit → List ℕ → PlainBoard → Type 0
IsBoardWithin limit = IsBoardAmong (IsWithinLimit limit)

-- the same, with few enough configurations
abbrev pub IsSmallBoard : List ℕ → PlainBoard → Type 0
IsSmallBoard = IsBoardWithin Small

-- the fault of a text that is no such board's
abbrev pub IsWrongWithin : BoardLimit → List ℕ → RunFault → Type 0
IsWrongWithin limit = IsWrongAmong (IsWithinLimit limit)

-- of a text that is no small board's
abbrev pub IsWrongBoard : List ℕ → RunFault → Type 0
IsWrongBoard = IsWrongWithin Small

-- the fault of a text that is no board's within the limit, or out of memory
abbrev pub HasNoneWithin : BoardLimit → List ℕ → RunFault → Type 0
HasNoneWithin limit = HasNoneAmong (IsWithinLimit limit)

-- of a text that is no small board's
abbrev pub HasNoBoard : List ℕ → RunFault → Type 0
HasNoBoard = HasNoneWithin Small

-- ---- documents

-- the version that the first line of a text says; without such a line it is that by configurations
abbrev pub BeginsAs : DocumentVersion → List ℕ → Type 0
BeginsAs ByClasses text = take 8 text ≡ codes "proof 2\n"
BeginsAs UpToSymmetries text = take 8 text ≡ codes "proof 3\n"
BeginsAs ByConfigurations text = ¬ (take 8 text ≡ codes "proof 2\n" ⊎ take 8 text ≡ codes
    "proof 3\n")

-- the fault of a text that is no document's of the version for the board; one by configurations
-- only a board of few enough has
abbrev pub HasFaultAs : DocumentVersion → PlainBoard → List ℕ → ProofFault → Type 0
HasFaultAs ByClasses board text fault = HasClassTextFault board text fault.line fault.kind
HasFaultAs UpToSymmetries board text fault = HasSymmetryTextFault board text fault.line fault.kind
HasFaultAs ByConfigurations board text fault = IsWithinLimit Small board
    × proof_faults.HasProofFault board text fault.line fault.kind

-- the fault of a text that is no document's for the board, of the version that it begins as
abbrev pub IsWrongProof : PlainBoard → List ℕ → RunFault → Type 0
IsWrongProof board text (Proof fault) = (version : DocumentVersion) × BeginsAs version text
    × HasFaultAs version board text fault × (fault.kind ≢ proof_kinds.Memory)
IsWrongProof board text TooLarge =
    BeginsAs ByConfigurations text × (IsWithinLimit Small board → ⊥)
IsWrongProof board text fault = ⊥

-- the fault of a text that is no document's, or out of memory
abbrev pub HasNoProof : PlainBoard → List ℕ → RunFault → Type 0
HasNoProof board text Memory = Unit {0}
HasNoProof board text fault = IsWrongProof board text fault

-- out of memory
abbrev pub IsMemory : RunFault → Type 0
IsMemory fault = fault ≡ Memory
