-- A fault of a run is out of memory, a worker that didn't start, or one that the bytes tell.
use Rattle.std.proofs.Common.{◌≡◌, ℕ, ◌⊎◌, inl, inr, List, Option, refl}
use Rattle.board_text.specs.PlainBoard.{PlainBoard}
use Rattle.command_line.specs.declared.asked.BoardLimit.{BoardLimit}
use Rattle.positions.specs.declared.side.Side.{Side}
use Rattle.runs.specs.ClassSolveRun.{CannotSolveByClasses, IsUnsolvedByClasses}
use Rattle.runs.specs.SideSolveRun.{CannotSolveFor, IsUnsolvedFor}
use Rattle.runs.specs.SolveRun.{CannotSolve}
use Rattle.runs.specs.SymmetricRun.{HasNoFewOrbits, LacksFewOrbits}
use Rattle.runs.specs.SymmetricSolveRun.{CannotSolveUpTo, IsUnsolvedUpTo}
use Rattle.runs.specs.Texts.{HasNoneAmong, HasNoProof, IsWrongAmong, IsWrongProof, IsWrongWithin}
use Rattle.runs.specs.Verdicts.{CannotAnswer, IsWrongText}
use Rattle.runs.specs.declared.fault.RunFault.{RunFault}
use Rattle.runs.specs.declared.fault.RunFault.TheVariants.{Memory, Worker}

-- such a fault
abbrev pub IsRefusedOr : (RunFault → Type 0) → RunFault → Type 0
IsRefusedOr IsWrong fault = (fault ≡ Memory) ⊎ (fault ≡ Worker) ⊎ IsWrong fault

pub wrong_solving : (limit : BoardLimit) (workers : ℕ) (text : List ℕ) (fault : RunFault)
    → CannotSolve limit workers text fault → IsRefusedOr (IsWrongWithin limit text) fault
wrong_solving limit workers text Memory h = inl refl
wrong_solving limit workers text Worker h = inr (inl refl)
wrong_solving limit workers text fault h = inr (inr h)

pub wrong_class_solving : (text : List ℕ) (fault : RunFault) → CannotSolveByClasses text fault
    → IsRefusedOr (IsUnsolvedByClasses text) fault
wrong_class_solving text Memory h = inl refl
wrong_class_solving text fault h = inr (inr h)

pub wrong_side_solving : (limit : BoardLimit) (side : Side) (workers : ℕ) (text : List ℕ) (fault : RunFault)
    → CannotSolveFor limit side workers text fault → IsRefusedOr (IsUnsolvedFor limit side text) fault
wrong_side_solving limit side workers text Memory h = inl refl
wrong_side_solving limit side workers text Worker h = inr (inl refl)
wrong_side_solving limit side workers text fault h = inr (inr h)

pub wrong_up_to : (side : Option Side) (board : PlainBoard) (text : List ℕ) (fault : RunFault)
    → CannotSolveUpTo side board text fault → IsRefusedOr (IsUnsolvedUpTo side board text) fault
wrong_up_to side board text Memory h = inl refl
wrong_up_to side board text fault h = inr (inr h)

pub wrong_orbits : (board : PlainBoard) (text : List ℕ) (fault : RunFault) → HasNoFewOrbits board text fault
    → IsRefusedOr (LacksFewOrbits board text) fault
wrong_orbits board text Memory h = inl refl
wrong_orbits board text fault h = inr (inr h)

pub wrong_board : (IsSmall : PlainBoard → Type 0) (text : List ℕ) (fault : RunFault) → HasNoneAmong IsSmall text fault
    → IsRefusedOr (IsWrongAmong IsSmall text) fault
wrong_board IsSmall text Memory h = inl refl
wrong_board IsSmall text fault h = inr (inr h)

pub wrong_proof : (board : PlainBoard) (text : List ℕ) (fault : RunFault) → HasNoProof board text fault
    → IsRefusedOr (IsWrongProof board text) fault
wrong_proof board text Memory h = inl refl
wrong_proof board text fault h = inr (inr h)

pub wrong_joined : (text : List ℕ) (fault : RunFault) → CannotAnswer text fault → IsRefusedOr (IsWrongText text) fault
wrong_joined text Memory h = inl refl
wrong_joined text fault h = inr (inr h)
