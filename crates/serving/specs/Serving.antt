-- The program, from its words, files and streams to its exit status.
use Rattle.std.specs.Prelude.{◌≡◌, ℕ, ◌<◌, ◌≤◌, ◌⊎◌, Bool, true, false, ◌&&◌, ◌||◌, List, [], ◌++◌}
use Rattle.std.specs.Prelude.{length, codes, string_bytes}
use Rattle.clap.specs.Walk.{Text, texts}
use Rattle.clap.specs.Words.{fault_of, subcommand_of, takes}
use Rattle.board_text.specs.LineForms.{with_line_feed}
use Rattle.command_line.specs.Commands.{program}
use Rattle.command_line.specs.Explaining.{asks_to_explain, words_of_job}
use Rattle.command_line.specs.Reading.{IsReadAs, ShowsWords}
use Rattle.command_line.specs.declared.asked.Job.{Job}
use Rattle.command_line.specs.declared.asked.Job.TheVariants.{Joined, Play, Climb}
use Rattle.command_line.specs.declared.asked.JobFault.{JobFault}
use Rattle.command_line.specs.declared.asked.JobFault.TheVariants.{Help, Usage, Memory as NoMemory}
use Rattle.console.specs.Showing.{HasNoControl, IsTaken}
use Rattle.serving.specs.FaultLines.{line_of_fault}
use Rattle.serving.specs.Folders.{File}
use Rattle.serving.specs.Consoles.{Serving}
use Rattle.serving.specs.Jobs.{IsDone, play_over}
use Rattle.runs.specs.Run.{Stream}
use Rattle.serving.specs.Outcomes.{status_of}
use Rattle.serving.specs.Telling.{IsToldInJob}
use Rattle.runs.specs.declared.fault.RunFault.TheVariants.{Memory, Read, Write}
use Rattle.serving.specs.declared.outcome.Outcome.{Outcome}
use Rattle.serving.specs.declared.outcome.Outcome.TheVariants.{Broken, Done, Refused}
use Rattle.console.specs.declared.streams.Terminals.{Terminals}
use Rattle.serving.specs.declared.serving.Words.{Words}
use Rattle.serving.specs.declared.serving.Words.TheVariants.{Given, NotText, OutOfMemory}

-- the words, the program's name first, ask for the job: there is no other word, or `clap` reads it
abbrev pub WordsAskFor : List Text → Job → Type 0
WordsAskFor words job =
    ((length words ≤ 1) × (job ≡ Joined))
    ⊎ ((1 < length words) × (fault_of program words ≡ [])
    × IsReadAs (subcommand_of program words) job)

-- the text was written, and nothing else; or a prefix of it, and then the stream failed
abbrev pub IsWritten : Stream → List ℕ → Type 0
IsWritten stream text = IsTaken stream.bytes stream.HasFailed text

-- each fault is explained: at a terminal, or since the words ask for it
abbrev pub is_explained : Terminals → List Text → Bool
is_explained terminals words = terminals.errors || asks_to_explain words

-- if faults are explained, one line without control characters; else nothing
abbrev pub IsExplanation : Bool → List ℕ → Type 0
IsExplanation true text =
    (words : List ℕ) × HasNoControl words × (text ≡ with_line_feed words)
IsExplanation false text = text ≡ []

-- the text, and if faults are explained one line after it that explains it
abbrev pub IsExplained : Bool → List ℕ → List ℕ → Type 0
IsExplained explains text said =
    (note : List ℕ) × IsExplanation explains note × (said ≡ text ++ note)

-- the line of a fault, explained; of a refused document the explanation alone
abbrev pub IsEnding : Bool → Outcome → List ℕ → Type 0
IsEnding explains Done said = said ≡ []
IsEnding explains Refused said = IsExplained explains [] said
IsEnding explains (Broken fault) said = IsExplained explains (line_of_fault fault) said

-- the job reads standard input, with lines that a person may type
abbrev pub is_typed : Job → Bool
is_typed Joined = true
is_typed (Play side limit symmetries board) = true
is_typed (Climb levels) = true
is_typed job = false

-- the job reads standard input, which is closed
abbrev pub lacks_input : Terminals → Job → Bool
lacks_input terminals job = terminals.input_closed && is_typed job

-- the text was written; if it is empty, the stream is as it was
abbrev pub IsSaid : Stream → List ℕ → Type 0
IsSaid stream text = IsWritten stream text × (text ≡ [] → stream.IsKept)

module _ (explains : Bool) (s : Serving) where
  -- after these lines standard error has the outcome's text, and the exit status is the outcome's
  abbrev pub EndsWith : List ℕ → Outcome → Type 0
  EndsWith told outcome =
      ((said : List ℕ) × IsEnding explains outcome said
      × IsSaid s.errors (told ++ said)) × (s.status ≡ status_of outcome)

  -- a text was written on standard output
  abbrev pub IsHelped : List ℕ → Type 0
  IsHelped text = IsWritten s.output text × s.input.IsKept
      × (((s.output.HasFailed → ⊥) × EndsWith [] Done)
      ⊎ (s.output.HasFailed × EndsWith [] (Broken Write)))

  -- a text was written on standard error, for wrong use
  abbrev pub IsRefusedWith : List ℕ → Type 0
  IsRefusedWith text =
      ((said : List ℕ) × IsExplained explains text said × IsWritten s.errors said)
      × s.input.IsKept × s.output.IsKept × (s.status ≡ 2)

  -- memory to read the words in was refused
  abbrev pub HasNoMemory : Type 0
  HasNoMemory = s.input.IsKept × s.output.IsKept × EndsWith [] (Broken Memory)

  -- words that ask for no job are answered, by help or the version or as wrong use
  abbrev pub AnswersWords : JobFault → Type 0
  AnswersWords (Help text) = IsHelped (string_bytes text)
  AnswersWords (Usage text) = IsRefusedWith (string_bytes text)
  AnswersWords NoMemory = HasNoMemory

module _ (at : List ℕ → File) (terminals : Terminals) (explains : Bool) (s : Serving) where
  -- the job is done or broken off, and a person was told what belongs to it; or it lacks its input,
  -- and that alone is told
  abbrev pub ServesJob : Job → Type 0
  ServesJob job =
      ((lacks_input terminals job ≡ false) × (outcome : Outcome) × (told : List ℕ)
      × IsDone at s.input s.output job outcome
      × IsToldInJob at terminals (play_over s.input s.output) outcome job told
      × EndsWith explains s told outcome)
      ⊎ ((lacks_input terminals job ≡ true) × s.input.IsKept × s.output.IsKept
      × EndsWith explains s [] (Broken Read))

  -- the words ask for a job, which is served; or for none, and that is answered
  abbrev pub ServesWords : List Text → Type 0
  ServesWords words =
      ((job : Job) × WordsAskFor words job × ServesJob job)
      ⊎ ((fault : JobFault) × (1 < length words) × ShowsWords words fault
      × (takes program words ≡ true → fault ≡ NoMemory) × AnswersWords explains s fault)

module _ (at : List ℕ → File) (terminals : Terminals) (s : Serving) where
  -- the same, if the words are there and are text
  abbrev pub ServesAnyWords : Words → Type 0
  ServesAnyWords (Given words) =
      ServesWords at terminals (is_explained terminals (texts words.now)) s
      (words_of_job (texts words.now))
  ServesAnyWords NotText = IsRefusedWith terminals.errors s
      (with_line_feed (codes "error: a word on the command line is not text"))
  ServesAnyWords OutOfMemory = HasNoMemory terminals.errors s
