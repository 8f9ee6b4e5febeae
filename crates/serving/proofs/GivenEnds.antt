-- The status and the bytes that a serving of known bytes leaves, off a terminal.
use Rattle.std.proofs.Common.{◌≡◌, ◌≢◌, ◌∙◌, ℕ, inl, inr, Bool, true, false, true≢false, List, [], ◌++◌, Some}
use Rattle.std.proofs.Common.{ap, append-nil, subst, sym}
use Rattle.clap.specs.Walk.{Text}
use Rattle.command_line.specs.declared.asked.Job.{Job}
use Rattle.command_line.specs.declared.asked.JobFault.{JobFault}
use Rattle.command_line.specs.declared.asked.JobFault.TheVariants.{Memory as NoMemory}
use Rattle.console.specs.declared.streams.Terminals.{Terminals}
use Rattle.runs.specs.Run.{Stream}
use Rattle.runs.specs.declared.fault.RunFault.TheVariants.{Read, Write}
use Rattle.serving.specs.FaultLines.{line_of_fault}
use Rattle.serving.specs.Folders.{File}
use Rattle.serving.specs.Consoles.{Serving}
use Rattle.serving.specs.Jobs.{IsDone, play_over}
use Rattle.serving.specs.Outcomes.{status_of}
use Rattle.serving.specs.Serving.{AnswersWords, EndsWith, IsEnding, IsExplained, IsHelped, IsRefusedWith, IsWritten}
use Rattle.serving.specs.Serving.{WordsAskFor}
use Rattle.serving.specs.Servings.{AreKnown, BytesBefore}
use Rattle.serving.specs.Telling.{IsToldInJob}
use Rattle.serving.specs.declared.outcome.Outcome.{Outcome}
use Rattle.serving.specs.declared.outcome.Outcome.TheVariants.{Broken, Done, Refused}
use Rattle.serving.proofs.JobEnds.{JobEnds, job_ends}
use Rattle.serving.proofs.KnownFiles.{IsFair}
use Rattle.serving.proofs.KnownRuns.{Had, stayed, took}
use Rattle.serving.proofs.OneJob.{settled}
use Rattle.serving.proofs.Untold.{nothing_in_job}

-- the text that is written of an outcome, unless faults are explained
abbrev pub ending : Outcome → List ℕ
ending Done = []
ending Refused = []
ending (Broken fault) = line_of_fault fault

explained_is : (explains : Bool) (text said : List ℕ) → explains ≡ false → IsExplained explains text said → said ≡ text
explained_is true text said off is = absurd (true≢false off)
explained_is false text said off (note, none, is) = is ∙ ap (λ n. text ++ n) none ∙ append-nil text

ending_is : (explains : Bool) (outcome : Outcome) (said : List ℕ) → explains ≡ false → IsEnding explains outcome said
    → said ≡ ending outcome
ending_is explains Done said off is = is
ending_is explains Refused said off is = explained_is explains [] said off is
ending_is explains (Broken fault) said off is = explained_is explains (line_of_fault fault) said off is

wrote : (stream : Stream) (bytes text : List ℕ) → Had stream bytes → IsWritten stream text → stream.bytes.new ≡ Some
    (bytes ++ text)
wrote stream bytes text had (inl (sound, appends)) = took stream bytes text had appends
wrote stream bytes text had (inr (failed, cut)) = absurd (had.sound failed)

module _ (before : BytesBefore) where
  -- the streams had these bytes and haven't failed, and neither memory nor a worker was refused
  pub record Gives (s : Serving) : Type 0 where
    pub had_input : Had s.input before.input
    pub had_output : Had s.output before.output
    pub had_errors : Had s.errors before.errors
    pub given : s.status ≢ 4

  module _ (explains : Bool) where
    -- the status is this one, and these texts were written; that on standard error, unless faults are explained
    pub record Leaves (s : Serving) (status : ℕ) (out err : List ℕ) : Type 0 where
      pub status_is : s.status ≡ status
      pub output_is : s.output.bytes.new ≡ Some (before.output ++ out)
      pub errors_are : explains ≡ false → s.errors.bytes.new ≡ Some (before.errors ++ err)

    -- two servings leave the same bytes
    abbrev pub AreSame : Serving → Serving → Type 0
    AreSame s t = (s.output.bytes.new ≡ t.output.bytes.new)
        × (explains ≡ false → s.errors.bytes.new ≡ t.errors.bytes.new)

    pub leave_same : (s t : Serving) (status : ℕ) (out line err : List ℕ) → out ≡ line → Leaves s status out err
        → Leaves t status line err → (s.status ≡ t.status) × AreSame s t
    leave_same s t status out line err same is also = (
      is.status_is ∙ sym also.status_is,
      (
        is.output_is ∙ ap (λ o. Some (before.output ++ o)) same ∙ sym also.output_is,
        λ plain. is.errors_are plain ∙ sym (also.errors_are plain),
      ),
    )

module _ (at : List ℕ → File) (known : AreKnown at) (terminals : Terminals) (off : terminals.errors ≡ false)
    (before : BytesBefore) (s : Serving) (gives : Gives before s) (explains : Bool) where
  abbrev Left : ℕ → List ℕ → List ℕ → Type 0
  Left = Leaves before explains s

  said_is : (outcome : Outcome) → EndsWith explains s [] outcome
      → explains ≡ false → s.errors.bytes.new ≡ Some (before.errors ++ ending outcome)
  said_is outcome ((said, is, (written, quiet)), same) plain =
      wrote s.errors before.errors said gives.had_errors written ∙ ap (λ t. Some (before.errors ++ t))
      (ending_is explains outcome said plain is)

  fair_by : (outcome : Outcome) → (outcome ≡ Broken Write → s.output.HasFailed) → s.status ≡ status_of outcome
      → IsFair outcome
  fair_by outcome write same = record {
    memory = λ e. gives.given (same ∙ ap status_of e);
    worker = λ e. gives.given (same ∙ ap status_of e);
    write = λ e. gives.had_output.sound (write e);
  }

  -- the words ask for a job, which had this outcome
  pub record IsJobDone (words : List Text) (job : Job) (outcome : Outcome) : Type 0 where
    pub asks : WordsAskFor words job
    pub text : List ℕ
    pub ends : JobEnds at before.input (settled job) outcome text
    pub leaves : Left (status_of outcome) text (ending outcome)

  pub job_done : (words : List Text) (job : Job) (told : List ℕ) (outcome : Outcome) → WordsAskFor words job
      → IsDone at s.input s.output job outcome → IsToldInJob at terminals (play_over s.input s.output) outcome job told
      → EndsWith explains s told outcome
      → IsJobDone words job outcome
  job_done words job told outcome asks done tells ends =
      let end = job_ends at before.input known s.input s.output before.output gives.had_input gives.had_output outcome
      (fair_by outcome (λ e. done.writes.1 e) ends.1) job done in
      record {
        asks = asks;
        text = end.0;
        ends = end.2;
        leaves = record {
          status_is = ends.1;
          output_is = end.1;
          errors_are = said_is outcome (subst
              (λ g. EndsWith explains s g outcome)
              (nothing_in_job at terminals off (play_over s.input s.output) outcome job told tells) ends);
        };
      }

  -- help or the version was written
  pub helped_is : (text : List ℕ) → IsHelped explains s text
      → Left 0 text []
  helped_is text (written, kept, inl (sound, ends)) = record {
    status_is = ends.1;
    output_is = wrote s.output before.output text gives.had_output written;
    errors_are = said_is Done ends;
  }
  helped_is text (written, kept, inr (failed, ends)) = absurd (gives.had_output.sound failed)

  pub refused_is : (text : List ℕ) → IsRefusedWith explains s text
      → Left 2 [] text
  refused_is text ((said, is, written), kept, kept_too, same) = record {
    status_is = same;
    output_is = stayed s.output before.output gives.had_output kept_too;
    errors_are = λ plain. wrote s.errors before.errors said gives.had_errors written
        ∙ ap (λ t. Some (before.errors ++ t)) (explained_is explains text said plain is);
  }

  -- the job lacked its input
  pub lacked_is : s.output.IsKept
      → EndsWith explains s [] (Broken Read)
      → Left (status_of (Broken Read)) [] (ending (Broken Read))
  lacked_is kept ends = record {
    status_is = ends.1;
    output_is = stayed s.output before.output gives.had_output kept;
    errors_are = said_is (Broken Read) ends;
  }

  -- memory for the words wasn't refused
  pub no_memory : (fault : JobFault) → AnswersWords explains s fault
      → fault ≢ NoMemory
  no_memory fault answers same =
      let none = subst (λ f. AnswersWords explains s f) same answers in
      gives.given none.2.1
