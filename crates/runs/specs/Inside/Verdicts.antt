-- Clauses of this crate's own functions, beside `Verdicts`.
use Rattle.std.specs.Prelude.{◌≤◌}
use Rattle.board_text.specs.PlainBoard.{PlainBoard}
use Rattle.proof_check.specs.ClassFaults.{NamesClass}
use Rattle.proof_check.specs.SymmetryFaults.{NamesRow}
use Rattle.positions.specs.Ranks.{configurations}
use Rattle.positions.specs.declared.space.TheConstants.{MAX_CONFIGURATIONS}
use Rattle.proof_check.specs.CheckFaults.{NamesRanks}
use Rattle.runs.specs.declared.verdicts.Verdict.{Verdict}
use Rattle.runs.specs.declared.verdicts.Verdict.TheVariants.{Accepted, Refused, RefusedByClasses}
use Rattle.runs.specs.declared.verdicts.Verdict.TheVariants.{RefusedUpToSymmetries}

-- the rows that the verdict names are of the board's ranks, which are few, or of its classes
abbrev pub NamesRows : PlainBoard → Verdict → Type 0
NamesRows board (Accepted shown rows) = Unit {0}
NamesRows board (Refused fault) =
    (configurations board ≤ MAX_CONFIGURATIONS) × NamesRanks board fault
NamesRows board (RefusedByClasses fault) = NamesClass board fault
NamesRows board (RefusedUpToSymmetries fault) = NamesRow board fault
