-- Solving a board within a limit, for both sides or for one.
use Rattle.std.specs.Prelude.{ℕ, List, Option, Some, None}
use Rattle.command_line.specs.declared.asked.BoardLimit.{BoardLimit}
use Rattle.command_line.specs.declared.asked.BoardLimit.TheVariants.{Small, Large}
use Rattle.positions.specs.declared.side.Side.{Side}
use Rattle.positions.specs.declared.value.Value.{Value}
use Rattle.runs.specs.ClassSolveRun.{CannotSolveByClasses, IsClassSolution}
use Rattle.runs.specs.SideSolveRun.{CannotSolveFor, IsSideSolution}
use Rattle.runs.specs.SolveRun.{CannotSolve, IsSolution}
use Rattle.runs.specs.declared.fault.RunFault.{RunFault}

-- what is written for the text of a board that is solved: for one that may be large its document by
-- classes, for any other its document; or that for a side alone
abbrev pub SolutionWithin : BoardLimit → Option Side → List ℕ → Value → List ℕ → Type 0
SolutionWithin Large None = IsClassSolution
SolutionWithin Small None = IsSolution
SolutionWithin limit (Some side) = IsSideSolution limit side

-- the faults of a text that isn't solved so
abbrev pub CannotSolveWithin : BoardLimit → Option Side → ℕ → List ℕ → RunFault → Type 0
CannotSolveWithin Large None workers = CannotSolveByClasses
CannotSolveWithin Small None workers = CannotSolve Small workers
CannotSolveWithin limit (Some side) workers = CannotSolveFor limit side workers
