-- Runs on files that are known have one outcome and one text.
use Rattle.std.proofs.Common.{◌≡◌, ◌≢◌, ◌∙◌, ℕ, inl, inr, List, [], ◌++◌, Some, ap, refl, sym}
use Rattle.std.specs.Prelude.{Err}
use Rattle.runs.specs.Run.{Stream}
use Rattle.runs.specs.declared.fault.RunFault.{RunFault}
use Rattle.runs.specs.declared.fault.RunFault.TheVariants.{Memory, Worker, Read, Write}
use Rattle.runs.specs.declared.reading.TheConstants.{MAX_BOARD_BYTES}
use Rattle.serving.specs.Folders.{CanFail, Closed, File, Holds, Unknown}
use Rattle.serving.specs.Jobs.{WritesAlone, WritesFor}
use Rattle.serving.specs.Outcomes.{outcome_of_run}
use Rattle.serving.specs.declared.outcome.Outcome.{Outcome}
use Rattle.serving.specs.declared.outcome.Outcome.TheVariants.{Broken}
use Rattle.serving.proofs.KnownRuns.{Ends, EndsBy, Had, IsOne, IsPlain, ends, stayed}
use Rattle.serving.proofs.KnownFaults.{IsRefusedOr}

pub run_breaks : (A : Type 0) (fault : RunFault) → outcome_of_run {Answer = A} (Err fault) ≡ Broken fault
run_breaks A fault = refl

-- an outcome that is no refusal of memory or of a worker, and no failed write
pub record IsFair (outcome : Outcome) : Type 0 where
  pub memory : outcome ≢ Broken Memory
  pub worker : outcome ≢ Broken Worker
  pub write : outcome ≢ Broken Write

pub plain_of : (outcome : Outcome) → IsFair outcome → outcome ≢ Broken Read → IsPlain outcome
plain_of outcome fair read = record { memory = fair.memory; worker = fair.worker; read = read; write = fair.write }

-- the outcome and the text for a file that is known
abbrev pub FileEnds : (List ℕ → Outcome → List ℕ → Type 0) → File → Outcome → List ℕ → Type 0
FileEnds E Unknown outcome text = ⊥
FileEnds E Closed outcome text = (outcome ≡ Broken Read) × (text ≡ [])
FileEnds E (Holds bytes) outcome text = E bytes outcome text

-- the same, for two files
abbrev pub PairEnds : (List ℕ → List ℕ → Outcome → List ℕ → Type 0) → File → File → Outcome → List ℕ → Type 0
PairEnds E Closed second outcome text = (outcome ≡ Broken Read) × (text ≡ [])
PairEnds E Unknown second outcome text = ⊥
PairEnds E (Holds bytes) second outcome text = FileEnds (E bytes) second outcome text

pub one_file : (E : List ℕ → Outcome → List ℕ → Type 0) → ((bytes : List ℕ) → IsOne (E bytes)) → (file : File) → IsOne
    (FileEnds E file)
one_file E one Unknown outcome other text line is also = absurd is
one_file E one Closed outcome other text line is also = (is.0 ∙ sym also.0, is.1 ∙ sym also.1)
one_file E one (Holds bytes) outcome other text line is also = one bytes outcome other text line is also

pub one_pair : (E : List ℕ → List ℕ → Outcome → List ℕ → Type 0) → ((bytes more : List ℕ) → IsOne (E bytes more)) →
    (first second : File)
    → IsOne (PairEnds E first second)
one_pair E one Closed second outcome other text line is also = (is.0 ∙ sym also.0, is.1 ∙ sym also.1)
one_pair E one Unknown second outcome other text line is also = absurd is
one_pair E one (Holds bytes) second outcome other text line is also =
    one_file (E bytes) (one bytes) second outcome other text line is also

-- two runs that end by it have one outcome, and leave the same bytes
pub alike : (E : Outcome → List ℕ → Type 0) → IsOne E → (outcome other : Outcome) (output more : Stream)
    (taken : List ℕ) → EndsBy output taken E outcome → EndsBy more taken E other
    → (outcome ≡ other) × (output.bytes.new ≡ more.bytes.new)
alike E one outcome other output more taken is also =
    let same = one outcome other is.0 also.0 is.2 also.2 in
    (same.0, is.1 ∙ ap (λ t. Some (taken ++ t)) same.1 ∙ sym also.1)

module _ {Answer : Type 0} (Says : List ℕ → Answer → List ℕ → Type 0) (Cannot IsWrong : List ℕ → RunFault → Type 0)
    (wrong : (text : List ℕ) (fault : RunFault) → Cannot text fault → IsRefusedOr (IsWrong text) fault)
    (output : Stream) (taken : List ℕ) (had : Had output taken) (outcome : Outcome) (fair : IsFair outcome) where
  pub alone_ends : (file : File) → file ≢ Unknown → (outcome ≡ Broken Read → CanFail file)
      → WritesAlone (WritesFor Says Cannot) file output outcome
      → EndsBy output taken (FileEnds (Ends outcome_of_run Says IsWrong MAX_BOARD_BYTES) file) outcome
  alone_ends Unknown known unread opens = absurd (known refl)
  alone_ends Closed known unread (inl (can, kept, same), whole) = ([], stayed output taken had kept, (same, refl))
  alone_ends Closed known unread (inr (read, opens, then), whole) = absurd opens
  alone_ends (Holds bytes) known unread (inl (can, kept, same), whole) = absurd can
  alone_ends (Holds bytes) known unread (inr (read, opens, then), whole) =
      ends outcome_of_run Says (run_breaks Answer) Cannot IsWrong wrong MAX_BOARD_BYTES read bytes opens output
      taken had outcome (plain_of outcome fair unread) whole then
