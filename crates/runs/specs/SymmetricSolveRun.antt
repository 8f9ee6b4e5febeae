-- Solutions of boards up to symmetries of their domains, for both sides or for one.
use Rattle.std.specs.Prelude.{◌≡◌, ℕ, ◌≤◌, List, Option, Some, length}
use Rattle.board_text.specs.PlainBoard.{PlainBoard}
use Rattle.positions.specs.Value.{HasValue}
use Rattle.positions.specs.declared.side.Side.{Side}
use Rattle.positions.specs.declared.side.Side.TheVariants.{Adversary}
use Rattle.positions.specs.declared.value.Value.{Value}
use Rattle.positions.specs.declared.value.Value.TheVariants.{Forever}
use Rattle.proof_text.specs.ProofText.{symmetry_text}
use Rattle.proof_text.specs.SymmetryProof.{PlainSymmetryProof}
use Rattle.strategies.specs.Sides.{HasStrategy}
use Rattle.strategies.specs.SymmetricDocument.{HasLongSymmetryText, IsSymmetryDocumentFor}
use Rattle.runs.specs.SymmetricRun.{LacksFewOrbits, SpellsFewOrbits}
use Rattle.runs.specs.declared.checking.TheConstants.{MAX_PROOF_BYTES}
use Rattle.runs.specs.declared.fault.RunFault.{RunFault}
use Rattle.runs.specs.declared.fault.RunFault.TheVariants.{DocumentTooLarge, LastsForever, Memory}

-- the value of the board's start, on which the side has a strategy, and the text of the board's
-- document up to the symmetries that the maps make, for the side alone or for both, which a check
-- reads
pub record IsSolvedUpTo (side : Option Side) (board : PlainBoard) (maps : List (List ℕ))
    (value : Value) (written : List ℕ) : Type 0 where
  pub has_value : HasValue board board.start value
  pub strategy : HasStrategy side value
  pub document : PlainSymmetryProof
  pub is_document : IsSymmetryDocumentFor side board maps document
  pub written_is : written ≡ symmetry_text board document
  pub short : length written ≤ MAX_PROOF_BYTES

-- the solution up to the symmetries whose text this is
abbrev pub IsSolutionUpTo : Option Side → PlainBoard → List ℕ → Value → List ℕ → Type 0
IsSolutionUpTo side board text value written = (maps : List (List ℕ))
    × SpellsFewOrbits board text maps × IsSolvedUpTo side board maps value written

-- the side has a strategy on the board's start, and the document for it is longer than a check
-- reads
pub record IsLongUpTo (side : Option Side) (board : PlainBoard) (maps : List (List ℕ))
    : Type 0 where
  pub value : Value
  pub has_value : HasValue board board.start value
  pub strategy : HasStrategy side value
  pub long : HasLongSymmetryText side board maps MAX_PROOF_BYTES

-- the fault of a text of symmetries without such a solution of the board: the adversary is asked
-- for where requests are answered for ever, the document is too long, there are too many orbits, or
-- the text has no symmetries
abbrev pub IsUnsolvedUpTo : Option Side → PlainBoard → List ℕ → RunFault → Type 0
IsUnsolvedUpTo side board text LastsForever = (maps : List (List ℕ))
    × SpellsFewOrbits board text maps × (side ≡ Some Adversary) × HasValue board board.start Forever
IsUnsolvedUpTo side board text DocumentTooLarge = (maps : List (List ℕ))
    × SpellsFewOrbits board text maps × IsLongUpTo side board maps
IsUnsolvedUpTo side board text fault = LacksFewOrbits board text fault

-- the same, or out of memory
abbrev pub CannotSolveUpTo : Option Side → PlainBoard → List ℕ → RunFault → Type 0
CannotSolveUpTo side board text Memory = Unit {0}
CannotSolveUpTo side board text fault = IsUnsolvedUpTo side board text fault
