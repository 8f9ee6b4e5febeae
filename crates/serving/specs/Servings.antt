-- Two servings of the same words.
use Rattle.std.specs.Prelude.{◌≡◌, ◌≢◌, ℕ, ◌≤◌, ◌⊎◌, false, List, [], Some, length}
use Rattle.clap.specs.Walk.{texts}
use Rattle.clap.specs.Words.{fault_of}
use Rattle.command_line.specs.Commands.{program}
use Rattle.command_line.specs.Explaining.{asks_to_explain, words_of_job}
use Rattle.command_line.specs.Reading.{AsksForVersion}
use Rattle.serving.specs.Consoles.{Serving}
use Rattle.serving.specs.Folders.{File, Unknown}
use Rattle.runs.specs.Run.{Stream}
use Rattle.serving.specs.Serving.{ServesAnyWords}
use Rattle.console.specs.declared.streams.Terminals.{Terminals}
use Rattle.serving.specs.declared.serving.Words.{Words}
use Rattle.serving.specs.declared.serving.Words.TheVariants.{Given}

-- of each file it is known that it can't be opened, or which bytes it has
abbrev pub AreKnown : (List ℕ → File) → Type 0
AreKnown at = (path : List ℕ) → at path ≢ Unknown

-- the stream had these bytes before, and hasn't failed
pub record IsKnown (stream : Stream) (bytes : List ℕ) : Type 0 where
  pub old : stream.bytes.old ≡ Some bytes
  pub sound : stream.HasFailed → ⊥

-- no text is written for the words that `clap` makes: they ask for a job or the version, or are no
-- text
abbrev pub HaveOwnText : Words → Type 0
HaveOwnText (Given words) = (length (words_of_job (texts words.now)) ≤ 1)
    ⊎ (fault_of program (words_of_job (texts words.now)) ≡ [])
    ⊎ AsksForVersion (words_of_job (texts words.now))
HaveOwnText words = Unit {0}

-- the words don't ask for explanations
abbrev pub AskForNoExplanation : Words → Type 0
AskForNoExplanation (Given words) = asks_to_explain (texts words.now) ≡ false
AskForNoExplanation words = Unit {0}

-- the bytes that standard input has to give, and that standard output and error have taken
pub record BytesBefore : Type 0 where
  pub input : List ℕ
  pub output : List ℕ
  pub errors : List ℕ

-- the words were served over files and streams that are known, off a terminal, and neither memory
-- nor a worker was refused
pub record IsServed (at : List ℕ → File) (terminals : Terminals) (before : BytesBefore)
    (words : Words) (s : Serving) : Type 0 where
  pub files : AreKnown at
  pub off : terminals.errors ≡ false
  pub had_input : IsKnown s.input before.input
  pub had_output : IsKnown s.output before.output
  pub had_errors : IsKnown s.errors before.errors
  pub serves : ServesAnyWords at terminals s words
  pub given : s.status ≢ 4
