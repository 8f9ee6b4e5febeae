-- Outcomes of jobs, and the exit status of each.
use Rattle.std.specs.Prelude.{◌≡◌, ℕ, Result, Ok, Err, MatchResult}
use Rattle.runs.specs.declared.fault.RunFault.{RunFault}
use Rattle.runs.specs.declared.fault.RunFault.TheVariants.{Board, TooLarge, Proof, Memory, Worker}
use Rattle.runs.specs.declared.fault.RunFault.TheVariants.{DocumentTooLarge, LastsForever}
use Rattle.runs.specs.declared.fault.RunFault.TheVariants.{Symmetries, TooManyChains, Read}
use Rattle.runs.specs.declared.fault.RunFault.TheVariants.{TooManyOrbits, Write, Limit}
use Rattle.serving.specs.declared.outcome.Outcome.{Outcome}
use Rattle.serving.specs.declared.outcome.Outcome.TheVariants.{Done, Refused, Broken}
use Rattle.runs.specs.declared.verdicts.Verdict.{Verdict}
use Rattle.runs.specs.declared.verdicts.Verdict.TheVariants.{Accepted as AcceptedAs}
use Rattle.runs.specs.declared.verdicts.Verdict.TheVariants.{Refused as RefusedFor}
use Rattle.runs.specs.declared.verdicts.Verdict.TheVariants.{RefusedByClasses}
use Rattle.runs.specs.declared.verdicts.Verdict.TheVariants.{RefusedUpToSymmetries}

-- the outcome of a check
abbrev pub outcome_of_check : Result Verdict RunFault → Outcome
outcome_of_check (Ok (AcceptedAs shown rows)) = Done
outcome_of_check (Ok (RefusedFor fault)) = Refused
outcome_of_check (Ok (RefusedByClasses fault)) = Refused
outcome_of_check (Ok (RefusedUpToSymmetries fault)) = Refused
outcome_of_check (Err fault) = Broken fault

-- the outcome of any other run
abbrev pub outcome_of_run : {Answer : Type 0} → Result Answer RunFault → Outcome
outcome_of_run (Ok answer) = Done
outcome_of_run (Err fault) = Broken fault

-- a run that ends so ends with an answer, of which this holds, or with a fault, of which that does
abbrev pub EndsAs : {Answer : Type 0} → (Result Answer RunFault → Outcome) → (Answer → Type 0)
    → (RunFault → Type 0) → Outcome → Type 0
EndsAs {Answer} told Answers Fails outcome =
    (result : Result Answer RunFault) × MatchResult result Answers Fails × (outcome ≡ told result)

-- the status of a fault
abbrev pub status_of_fault : RunFault → ℕ
status_of_fault (Board fault) = 1
status_of_fault TooLarge = 1
status_of_fault DocumentTooLarge = 1
status_of_fault LastsForever = 1
status_of_fault TooManyChains = 1
status_of_fault TooManyOrbits = 1
status_of_fault (Proof fault) = 1
status_of_fault (Symmetries fault) = 1
status_of_fault Memory = 4
status_of_fault Worker = 4
status_of_fault Read = 5
status_of_fault Write = 5
status_of_fault Limit = 5

-- the exit status
abbrev pub status_of : Outcome → ℕ
status_of Done = 0
status_of Refused = 3
status_of (Broken fault) = status_of_fault fault
