-- The answer to the text of a document, and to a joined text: its verdict and its line.
use Rattle.std.specs.Prelude.{◌≡◌, ◌≢◌, ℕ, ◌+◌, List, ◌++◌, length, take}
use Rattle.board_text.specs.PlainBoard.{PlainBoard, IsBoard, IsConfiguration}
use Rattle.board_text.specs.BoardText.{board_text}
use Rattle.board_text.specs.BoardFaults as board_faults
use Rattle.board_text.specs.declared.fault.BoardKind.TheVariants as board_kinds
use Rattle.proof_check.specs.ClassFaults.{IsFirstClassFault}
use Rattle.proof_text.specs.Documents.{IsClassProof, IsProof, IsSymmetryProof}
use Rattle.proof_text.specs.ProofText.{class_text, proof_text, symmetry_text}
use Rattle.proof_text.specs.SymmetryProof.{PlainSymmetryProof}
use Rattle.symmetries.specs.Symmetries.{AreAlike, IsGroupOf}
use Rattle.classes.specs.Classes.{class_of}
use Rattle.positions.specs.declared.claim.Claim.{Claim}
use Rattle.positions.specs.Claim.{Holds, Shows, HoldsAt}
use Rattle.proof_text.specs.Proof.{PlainProof}
use Rattle.proof_text.specs.Positions.{class_positions, configuration_positions}
use Rattle.proof_text.specs.Rules.{BreaksNoRule}
use Rattle.proof_check.specs.CheckFaults.{IsCheckFault}
use Rattle.proof_check.specs.SymmetryFaults.{BreaksNoRuleUpTo, IsFirstSymmetryFault}
use Rattle.proof_check.specs.declared.fault.CheckFault.TheVariants as check_faults
use Rattle.proof_check.specs.declared.symmetry_fault.SymmetryFault.TheVariants as symmetry_faults
use Rattle.runs.specs.Joined.{IsBoardLength}
use Rattle.runs.specs.Output.{line_of}
use Rattle.runs.specs.Texts.{IsWithinLimit, IsWrongProof}
use Rattle.command_line.specs.declared.asked.BoardLimit.TheVariants.{Small}
use Rattle.runs.specs.declared.verdicts.DocumentVersion.{DocumentVersion}
use Rattle.runs.specs.declared.verdicts.DocumentVersion.TheVariants.{ByClasses, ByConfigurations}
use Rattle.runs.specs.declared.verdicts.DocumentVersion.TheVariants.{UpToSymmetries}
use Rattle.runs.specs.declared.verdicts.Verdict.{Verdict}
use Rattle.runs.specs.declared.verdicts.Verdict.TheVariants.{Accepted, Refused, RefusedByClasses}
use Rattle.runs.specs.declared.verdicts.Verdict.TheVariants.{RefusedUpToSymmetries}
use Rattle.runs.specs.declared.fault.RunFault.{RunFault}
use Rattle.runs.specs.declared.fault.RunFault.TheVariants.{Board, Memory}

-- the number of rows of a document, of both sides
abbrev pub row_count : PlainProof → ℕ
row_count proof = length proof.labeller + length proof.adversary

-- the board's document is accepted, with the number of its rows, only where it breaks no rule and
-- shows its claim, and refused with its first fault
abbrev pub IsVerdict : PlainBoard → PlainProof → Verdict → Type 0
IsVerdict board proof (Accepted shown rows) =
    (shown.claim ≡ proof.claim) × BreaksNoRule configuration_positions board proof
    × Shows board proof.labeller proof.adversary proof.claim × (rows ≡ row_count proof)
IsVerdict board proof (Refused fault) =
    IsCheckFault board proof fault × (fault ≢ check_faults.Memory)
IsVerdict board proof verdict = ⊥

-- the board's document by classes is accepted, with the number of its rows, only where it breaks no
-- rule, and its claim holds of each start of the class; it is refused with its first fault
abbrev pub IsClassVerdict : PlainBoard → PlainProof → Verdict → Type 0
IsClassVerdict board proof (Accepted shown rows) =
    (shown.claim ≡ proof.claim) × BreaksNoRule (class_positions board.labels) board proof
    × Holds board proof.claim
    × ((configuration : List ℕ) → IsConfiguration board configuration
    → class_of configuration ≡ class_of board.start → HoldsAt board configuration proof.claim)
    × (rows ≡ row_count proof)
IsClassVerdict board proof (RefusedByClasses fault) = IsFirstClassFault board proof fault
IsClassVerdict board proof verdict = ⊥

-- the document was accepted, with this claim
abbrev pub IsAcceptance : Claim → Verdict → Type 0
IsAcceptance claim verdict = (rows : ℕ) × (verdict ≡ Accepted (record { claim = claim }) rows)

-- the claim holds of each configuration that is alike to the start by what the maps make
abbrev pub HoldsOfAlike : PlainBoard → List (List ℕ) → Claim → Type 0
HoldsOfAlike board maps claim =
    (group : List (List ℕ)) → IsGroupOf board.labels maps group
    → (configuration : List ℕ) → IsConfiguration board configuration
    → AreAlike board.labels group board.start configuration → HoldsAt board configuration claim

-- the board's document up to symmetries is accepted, with the number of its rows, only where it
-- breaks no rule, and its claim holds of the start and of all that is alike to it; it is refused
-- with its first fault
abbrev pub IsSymmetryVerdict : PlainBoard → PlainSymmetryProof → Verdict → Type 0
IsSymmetryVerdict board proof (Accepted shown rows) =
    (shown.claim ≡ proof.rows.claim) × BreaksNoRuleUpTo board proof × Holds board proof.rows.claim
    × HoldsOfAlike board proof.maps proof.rows.claim × (rows ≡ row_count proof.rows)
IsSymmetryVerdict board proof (RefusedUpToSymmetries fault) =
    IsFirstSymmetryFault board proof fault × (fault ≢ symmetry_faults.Memory)
IsSymmetryVerdict board proof verdict = ⊥

-- ---- documents of any version: only one up to symmetries has maps

-- a document of the version for the board, which has few configurations if each has a row
abbrev pub IsProofOf : DocumentVersion → PlainBoard → PlainSymmetryProof → Type 0
IsProofOf ByConfigurations board proof = IsWithinLimit Small board × IsProof board proof.rows
IsProofOf ByClasses board proof = IsClassProof board proof.rows
IsProofOf UpToSymmetries board proof = IsSymmetryProof board proof

abbrev pub text_of_proof : DocumentVersion → PlainBoard → PlainSymmetryProof → List ℕ
text_of_proof ByConfigurations board proof = proof_text board proof.rows
text_of_proof ByClasses board proof = class_text board proof.rows
text_of_proof UpToSymmetries board proof = symmetry_text board proof

abbrev pub IsVerdictOf : DocumentVersion → PlainBoard → PlainSymmetryProof → Verdict → Type 0
IsVerdictOf ByConfigurations board proof verdict = IsVerdict board proof.rows verdict
IsVerdictOf ByClasses board proof verdict = IsClassVerdict board proof.rows verdict
IsVerdictOf UpToSymmetries board proof verdict = IsSymmetryVerdict board proof verdict

-- the text is a document's for the board, and this is the verdict on it, with its line
pub record IsChecked (board : PlainBoard) (text : List ℕ) (verdict : Verdict)
    (line : List ℕ) : Type 0 where
  pub version : DocumentVersion
  pub proof : PlainSymmetryProof
  pub is_proof : IsProofOf version board proof
  pub text_is : text ≡ text_of_proof version board proof
  pub verdict_is : IsVerdictOf version board proof verdict
  pub line_is : line ≡ line_of board verdict

-- ---- a board's text with a document's after it

-- the text begins with the text of a board, and this is the rest
pub record BeginsWithBoard (text : List ℕ) (board : PlainBoard) (rest : List ℕ) : Type 0 where
  pub is_board : IsBoard board
  pub text_is : text ≡ board_text board ++ rest

-- the text is a board's and then a document's for it, and this is the verdict, with its line
abbrev pub IsAnswered : List ℕ → Verdict → List ℕ → Type 0
IsAnswered text verdict line = (board : PlainBoard) × (rest : List ℕ)
    × BeginsWithBoard text board rest × IsChecked board rest verdict line

-- the fault of a text without a verdict: of its board, or of what is after it
abbrev pub IsWrongText : List ℕ → RunFault → Type 0
IsWrongText text (Board fault) =
    (size : ℕ) × IsBoardLength text size
    × board_faults.HasBoardFault (take size text) fault.line fault.kind
    × (fault.kind ≢ board_kinds.Memory)
IsWrongText text fault = (board : PlainBoard) × (rest : List ℕ) × BeginsWithBoard text board rest
    × IsWrongProof board rest fault

-- the same, or out of memory
abbrev pub CannotAnswer : List ℕ → RunFault → Type 0
CannotAnswer text Memory = Unit {0}
CannotAnswer text fault = IsWrongText text fault
