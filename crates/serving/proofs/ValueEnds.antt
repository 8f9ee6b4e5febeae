-- Runs on the text of a board that write a text of its values, or its chains, have one outcome and one text.
use Rattle.std.proofs.Common.{◌≡◌, ◌≢◌, ℕ, ◌⊎◌, List, None, Some, refl}
use Rattle.command_line.specs.declared.asked.BoardLimit.{BoardLimit}
use Rattle.command_line.specs.declared.asked.BoardLimit.TheVariants.{Small, Large}
use Rattle.positions.specs.declared.value.Value.{Value}
use Rattle.runs.proofs.Cited.{chains_or_fault, class_solution_or_fault, given_or_lacking, not_wrong, one_chain_fault}
use Rattle.runs.proofs.Cited.{one_chains, one_class_solution, one_lacking, one_side_solution, one_solution}
use Rattle.runs.proofs.Cited.{one_summary, one_summary_of_text, one_symmetric_solution, one_unsolved, one_unsolved_for}
use Rattle.runs.proofs.Cited.{one_unsolved_up_to, one_wrong, side_solution_or_fault, symmetric_solution_or_fault}
use Rattle.runs.proofs.Cited.{wrong_counting}
use Rattle.runs.specs.ChainText.{CannotCountChains, HasNoChains, SaysChains}
use Rattle.runs.specs.ClassSolveRun.{CannotSolveByClasses, IsClassSolution, IsUnsolvedByClasses}
use Rattle.runs.specs.Run.{Stream}
use Rattle.runs.specs.SideSolveRun.{CannotSolveFor, IsSideSolution, IsUnsolvedFor}
use Rattle.runs.specs.SolveRun.{CannotSolve, IsSolution}
use Rattle.runs.specs.Summaries.{Summarizes}
use Rattle.runs.specs.SymmetricRun.{HasNoFewOrbits, LacksFewOrbits, SaysUpTo}
use Rattle.runs.specs.SymmetricSolveRun.{CannotSolveUpTo, IsSolutionUpTo, IsUnsolvedUpTo}
use Rattle.runs.specs.Texts.{IsWithinUpTo, IsWrongBoard, IsWrongWithin}
use Rattle.runs.specs.declared.fault.RunFault.TheVariants.{Read}
use Rattle.runs.specs.declared.given_symmetries.TheConstants.{MAX_SYMMETRIES_BYTES}
use Rattle.runs.specs.declared.reading.TheConstants.{MAX_BOARD_BYTES}
use Rattle.serving.specs.Folders.{CanFail, File, Unknown}
use Rattle.serving.specs.Jobs.{CountsChains, WritesAlone, WritesBoth, WritesValuesFor, WritesValuesUpTo}
use Rattle.serving.specs.Outcomes.{outcome_of_run}
use Rattle.serving.specs.declared.outcome.Outcome.{Outcome}
use Rattle.serving.specs.declared.outcome.Outcome.TheVariants.{Broken}
use Rattle.serving.specs.declared.value_texts.ValueText.{ValueText}
use Rattle.serving.specs.declared.value_texts.ValueText.TheVariants as texts
use Rattle.serving.proofs.KnownFiles.{FileEnds, IsFair, PairEnds, alone_ends, run_breaks}
use Rattle.serving.proofs.KnownRuns.{Ends, EndsBy, Had, IsOne, one_end}
use Rattle.serving.proofs.KnownFaults.{wrong_class_solving, wrong_orbits, wrong_side_solving, wrong_solving}
use Rattle.serving.proofs.KnownFaults.{wrong_up_to}
use Rattle.serving.proofs.ReadBoards.{BothEnd, both_ends, one_both_end}

-- the outcome and the bytes that the text of a board asks for
abbrev pub ValuesEnd : ValueText → BoardLimit → List ℕ → Outcome → List ℕ → Type 0
ValuesEnd (texts.Document None) Small = Ends outcome_of_run IsSolution IsWrongBoard MAX_BOARD_BYTES
ValuesEnd (texts.Document None) Large = Ends outcome_of_run IsClassSolution IsUnsolvedByClasses MAX_BOARD_BYTES
ValuesEnd (texts.Document (Some side)) limit =
    Ends outcome_of_run (IsSideSolution limit side) (IsUnsolvedFor limit side) MAX_BOARD_BYTES
ValuesEnd (texts.Summary summary) limit =
    Ends outcome_of_run (Summarizes summary limit) (IsWrongWithin limit) MAX_BOARD_BYTES

pub one_values_end : (text : ValueText) (limit : BoardLimit) (bytes : List ℕ) → IsOne (ValuesEnd text limit bytes)
one_values_end (texts.Document None) Small bytes =
    one_end outcome_of_run IsSolution IsWrongBoard MAX_BOARD_BYTES bytes
    (λ answer other line more is also. (refl, (one_solution bytes answer other line more is also).1))
    (one_wrong Small bytes) (λ answer line fault says wrong. not_wrong Small bytes says.0 says.1 fault wrong)
one_values_end (texts.Document None) Large bytes =
    one_end outcome_of_run IsClassSolution IsUnsolvedByClasses MAX_BOARD_BYTES bytes
    (λ answer other line more is also. (refl, (one_class_solution bytes answer other line more is also).1))
    (one_unsolved bytes) (class_solution_or_fault bytes)
one_values_end (texts.Document (Some side)) limit bytes =
    one_end outcome_of_run (IsSideSolution limit side) (IsUnsolvedFor limit side) MAX_BOARD_BYTES bytes
    (λ answer other line more is also. (refl, (one_side_solution limit side bytes answer other line more is also).1))
    (one_unsolved_for limit side bytes) (side_solution_or_fault limit side bytes)
one_values_end (texts.Summary summary) limit bytes =
    one_end outcome_of_run (Summarizes summary limit) (IsWrongWithin limit) MAX_BOARD_BYTES bytes
    (λ answer other line more is also. (refl, one_summary_of_text summary bytes limit limit line more is also))
    (one_wrong limit bytes) (λ answer line fault says wrong. not_wrong limit bytes says.0 says.1 fault wrong)

-- the same of the texts of a board and of symmetries
abbrev pub ValuesEndUpTo : ValueText → BoardLimit → List ℕ → List ℕ → Outcome → List ℕ → Type 0
ValuesEndUpTo (texts.Document side) limit =
    BothEnd (IsWithinUpTo limit) (outcome_of_run {Answer = Value}) (IsSolutionUpTo side) (IsUnsolvedUpTo side)
    MAX_SYMMETRIES_BYTES
ValuesEndUpTo (texts.Summary summary) limit =
    BothEnd (IsWithinUpTo limit) (outcome_of_run {Answer = Unit {0}}) (SaysUpTo summary) LacksFewOrbits
    MAX_SYMMETRIES_BYTES

pub one_values_end_up_to : (text : ValueText) (limit : BoardLimit) (bytes given : List ℕ)
    → IsOne (ValuesEndUpTo text limit bytes given)
one_values_end_up_to (texts.Document side) limit =
    one_both_end (IsWithinUpTo limit) (outcome_of_run {Answer = Value}) (IsSolutionUpTo side) (IsUnsolvedUpTo side)
    MAX_SYMMETRIES_BYTES
    (λ board bytes is. one_end outcome_of_run (IsSolutionUpTo side board) (IsUnsolvedUpTo side board)
    MAX_SYMMETRIES_BYTES bytes
    (λ answer other line more is_so also.
    (refl, (one_symmetric_solution board is bytes side answer other line more is_so also).1))
    (one_unsolved_up_to board is bytes side) (symmetric_solution_or_fault board is bytes side))
one_values_end_up_to (texts.Summary summary) limit =
    one_both_end (IsWithinUpTo limit) (outcome_of_run {Answer = Unit {0}}) (SaysUpTo summary) LacksFewOrbits
    MAX_SYMMETRIES_BYTES
    (λ board bytes is. one_end outcome_of_run (SaysUpTo summary board) (LacksFewOrbits board) MAX_SYMMETRIES_BYTES
    bytes (λ answer other line more says also. (refl, one_summary summary board line more says.1 also.1))
    (one_lacking board is bytes)
    (λ answer line fault says lacks. given_or_lacking board is bytes fault says.0 lacks))

-- the same of the chains of a board
abbrev pub ChainsEnd : ℕ → List ℕ → Outcome → List ℕ → Type 0
ChainsEnd most = Ends outcome_of_run (SaysChains most) (HasNoChains most) MAX_BOARD_BYTES

pub one_chains_end : (most : ℕ) (bytes : List ℕ) → IsOne (ChainsEnd most bytes)
one_chains_end most bytes =
    one_end outcome_of_run (SaysChains most) (HasNoChains most) MAX_BOARD_BYTES bytes
    (λ answer other line more says also. (refl, one_chains most bytes answer other line more says also))
    (one_chain_fault most bytes) (chains_or_fault most bytes)

module _ (output : Stream) (taken : List ℕ) (had : Had output taken) (outcome : Outcome) (fair : IsFair outcome) where
  pub values_end : (text : ValueText) (workers : ℕ) (limit : BoardLimit) (file : File) → file ≢ Unknown
      → (outcome ≡ Broken Read → CanFail file) → WritesAlone (WritesValuesFor text workers limit) file output outcome
      → EndsBy output taken (FileEnds (ValuesEnd text limit) file) outcome
  values_end (texts.Document None) workers Small =
      alone_ends IsSolution (CannotSolve Small workers) IsWrongBoard (wrong_solving Small workers) output taken had
      outcome fair
  values_end (texts.Document None) workers Large =
      alone_ends IsClassSolution CannotSolveByClasses IsUnsolvedByClasses wrong_class_solving output taken had outcome
      fair
  values_end (texts.Document (Some side)) workers limit =
      alone_ends (IsSideSolution limit side) (CannotSolveFor limit side workers) (IsUnsolvedFor limit side)
      (wrong_side_solving limit side workers) output taken had outcome fair
  values_end (texts.Summary summary) workers limit =
      alone_ends (Summarizes summary limit) (CannotSolve limit workers) (IsWrongWithin limit)
      (wrong_solving limit workers) output taken had outcome fair

  pub values_end_up_to : (text : ValueText) (limit : BoardLimit) (first second : File) → first ≢ Unknown
      → second ≢ Unknown → (outcome ≡ Broken Read → CanFail first ⊎ CanFail second)
      → WritesBoth (WritesValuesUpTo text limit) first second output outcome
      → EndsBy output taken (PairEnds (ValuesEndUpTo text limit) first second) outcome
  values_end_up_to (texts.Document side) limit =
      both_ends (IsWithinUpTo limit) (outcome_of_run {Answer = Value}) (IsSolutionUpTo side) (IsUnsolvedUpTo side)
      MAX_SYMMETRIES_BYTES (run_breaks Value) (CannotSolveUpTo side) (wrong_up_to side) output taken had outcome fair
  values_end_up_to (texts.Summary summary) limit =
      both_ends (IsWithinUpTo limit) (outcome_of_run {Answer = Unit {0}}) (SaysUpTo summary) LacksFewOrbits
      MAX_SYMMETRIES_BYTES (run_breaks (Unit {0})) HasNoFewOrbits wrong_orbits output taken had outcome fair

  pub chains_end : (most : ℕ) (file : File) → file ≢ Unknown → (outcome ≡ Broken Read → CanFail file)
      → CountsChains most file output outcome → EndsBy output taken (FileEnds (ChainsEnd most) file) outcome
  chains_end most =
      alone_ends (SaysChains most) (CannotCountChains most) (HasNoChains most) (wrong_counting most) output taken had
      outcome fair
