-- Jobs: from the files and standard input to standard output.
use Rattle.std.specs.Prelude.{◌≡◌, ◌≢◌, ℕ, ◌⊎◌, ◌↔◌, List, Option, None, Some}
use Rattle.std.specs.Borrow.{Bor}
use Rattle.clap.specs.Walk.{Text}
use Rattle.command_line.specs.declared.asked.Job.{Job}
use Rattle.command_line.specs.declared.asked.Job.TheVariants.{Joined, Check, Nested, Solve, Report}
use Rattle.command_line.specs.declared.asked.Job.TheVariants.{Starts, Chains, Play, Climb}
use Rattle.player.specs.Transcript.{PersonClimbs}
use Rattle.positions.specs.declared.side.Side.{Side}
use Rattle.runs.specs.CheckRun.{RanCheck, CheckFails}
use Rattle.serving.specs.Folders.{File, OpensWith, CanFail}
use Rattle.runs.specs.NestedText.{IsNestedText}
use Rattle.serving.specs.Outcomes.{EndsAs, outcome_of_check, outcome_of_run}
use Rattle.runs.specs.BoardRun.{Readers, readers_by}
use Rattle.runs.specs.PlayRun.{IsBrokenOff, IsOver, PlayFails, PlayFailsUpTo, PlayStreams, RanPlay}
use Rattle.runs.specs.PlayRun.{RanPlayUpTo}
use Rattle.runs.specs.ChainText.{CannotCountChains, SaysChains}
use Rattle.runs.specs.Run.{Bytes, Fails, Ran, Stream, Wrote, WrotePrefix}
use Rattle.runs.specs.Summaries.{Summarizes}
use Rattle.runs.specs.LimitedSolveRun.{CannotSolveWithin, SolutionWithin}
use Rattle.runs.specs.SolveRun.{CannotSolve}
use Rattle.runs.specs.SymmetricRun.{FailsUpTo, HasNoFewOrbits, RanUpTo, SaysUpTo}
use Rattle.runs.specs.SymmetricSolveRun.{CannotSolveUpTo, IsSolutionUpTo}
use Rattle.runs.specs.Verdicts.{CannotAnswer, IsAnswered}
use Rattle.board_text.specs.PlainBoard.{PlainBoard}
use Rattle.command_line.specs.declared.asked.BoardLimit.{BoardLimit}
use Rattle.runs.specs.declared.checking.TheConstants.{MAX_JOINED_BYTES, MAX_PROOF_BYTES}
use Rattle.runs.specs.declared.reading.TheConstants.{MAX_BOARD_BYTES}
use Rattle.runs.specs.declared.fault.RunFault.{RunFault}
use Rattle.runs.specs.declared.fault.RunFault.TheVariants.{Memory, Read, Write}
use Rattle.runs.specs.declared.summaries.Summary.TheVariants as summaries
use Rattle.serving.specs.declared.outcome.Outcome.{Outcome}
use Rattle.serving.specs.declared.outcome.Outcome.TheVariants.{Broken}
use Rattle.serving.specs.declared.value_texts.ValueText.{ValueText}
use Rattle.serving.specs.declared.value_texts.ValueText.TheVariants as texts

-- the file was opened and this was done with it; or it can't be opened, and the rest is untouched
abbrev pub Opening : File → Type 0 → (Bytes → Outcome → Type 0) → Outcome → Type 0
Opening file IsUntouched Then outcome =
    (CanFail file × IsUntouched × (outcome ≡ Broken Read))
    ⊎ ((read : Bytes) × OpensWith file read.old × Then read outcome)

-- both files were opened and this was done with them; or one can't be opened
abbrev pub OpeningBoth : File → File → (Readers → Outcome → Type 0) → Outcome → Type 0
OpeningBoth first second Then outcome =
    ((CanFail first ⊎ CanFail second) × (outcome ≡ Broken Read))
    ⊎ ((one two : Bytes) × OpensWith first one.old × OpensWith second two.old
    × Then (readers_by one two) outcome)

-- the file at a path can fail, or that at another if there is one
abbrev pub CanFailAt : (List ℕ → File) → Bor Text → Option (Bor Text) → Type 0
CanFailAt at path None = CanFail (at path.now)
CanFailAt at path (Some other) = CanFail (at path.now) ⊎ CanFail (at other.now)

-- nothing was written before a fault, but for one of writing
abbrev pub WritesWhole : Stream → Outcome → Type 0
WritesWhole output outcome =
    (fault : RunFault) → outcome ≡ Broken fault → fault ≢ Write → output.IsKept

-- the reader has failed exactly if that is the fault
abbrev pub TellsReads : Stream → Outcome → Type 0
TellsReads input outcome = input.HasFailed ↔ (outcome ≡ Broken Read)

-- the writer has failed exactly if that is the fault
abbrev pub TellsWrites : Stream → Outcome → Type 0
TellsWrites output outcome = output.HasFailed ↔ (outcome ≡ Broken Write)

-- a board and a document after it were checked
abbrev pub ChecksJoined : Stream → Stream → Outcome → Type 0
ChecksJoined input output outcome =
    EndsAs outcome_of_check (Ran IsAnswered MAX_JOINED_BYTES input.bytes output.bytes)
    (Fails IsAnswered CannotAnswer MAX_JOINED_BYTES input.bytes output.bytes) outcome
    × WritesWhole output outcome

-- for the text of a board this was written, with an answer; or the run broke off
abbrev pub WritesFor : {Answer : Type 0} → (List ℕ → Answer → List ℕ → Type 0)
    → (List ℕ → RunFault → Type 0) → Bytes → Stream → Outcome → Type 0
WritesFor Says SaysNothing read output outcome =
    EndsAs outcome_of_run (Ran Says MAX_BOARD_BYTES read output.bytes)
    (Fails Says SaysNothing MAX_BOARD_BYTES read output.bytes) outcome

-- the same for the texts of a board and of symmetries
abbrev pub WritesUpTo : {Answer : Type 0} → (PlainBoard → List ℕ → Answer → List ℕ → Type 0)
    → (PlainBoard → List ℕ → RunFault → Type 0) → BoardLimit → Readers → Stream → Outcome → Type 0
WritesUpTo Says SaysNothing limit read output outcome =
    EndsAs outcome_of_run (RanUpTo Says limit read output.bytes)
    (FailsUpTo Says SaysNothing limit read output.bytes) outcome

-- for the text of a board this text of its values was written, by this number of workers
abbrev pub WritesValuesFor : ValueText → ℕ → BoardLimit → Bytes → Stream → Outcome → Type 0
WritesValuesFor (texts.Document side) workers limit =
    WritesFor (SolutionWithin limit side) (CannotSolveWithin limit side workers)
WritesValuesFor (texts.Summary summary) workers limit =
    WritesFor (Summarizes summary limit) (CannotSolve limit workers)

-- the same for the texts of a board and of symmetries, up to which its values are found
abbrev pub WritesValuesUpTo : ValueText → BoardLimit → Readers → Stream → Outcome → Type 0
WritesValuesUpTo (texts.Document side) = WritesUpTo (IsSolutionUpTo side) (CannotSolveUpTo side)
WritesValuesUpTo (texts.Summary summary) = WritesUpTo (SaysUpTo summary) HasNoFewOrbits

-- the file of a board was opened, and this was written for it; or it can't be opened
abbrev pub WritesAlone : (Bytes → Stream → Outcome → Type 0) → File → Stream → Outcome → Type 0
WritesAlone Writes board output outcome =
    Opening board output.IsKept (λ read. Writes read output) outcome × WritesWhole output outcome

-- both files were opened, and this was written for them; or one can't be opened
abbrev pub WritesBoth : (Readers → Stream → Outcome → Type 0) → File → File → Stream → Outcome
    → Type 0
WritesBoth Writes first second output outcome =
    OpeningBoth first second (λ read. Writes read output) outcome × WritesWhole output outcome

-- this text of the values of the board at a path was written, up to the symmetries at another if
-- there is one
abbrev pub WritesValues : (List ℕ → File) → ValueText → ℕ → BoardLimit → Option (Bor Text)
    → Bor Text → Stream → Outcome → Type 0
WritesValues at text workers limit None board =
    WritesAlone (WritesValuesFor text workers limit) (at board.now)
WritesValues at text workers limit (Some symmetries) board =
    WritesBoth (WritesValuesUpTo text limit) (at board.now) (at symmetries.now)

-- the document was checked for the board
abbrev pub ChecksFor : Readers → Stream → Outcome → Type 0
ChecksFor read output outcome =
    EndsAs outcome_of_check (RanCheck MAX_BOARD_BYTES MAX_PROOF_BYTES read output.bytes)
    (CheckFails MAX_BOARD_BYTES MAX_PROOF_BYTES read output.bytes) outcome

-- the chains of the board were counted, of up to this many labels
abbrev pub CountsChains : ℕ → File → Stream → Outcome → Type 0
CountsChains most = WritesAlone (WritesFor (SaysChains most) (CannotCountChains most))

-- a play with lines from the input, whose text is written to the output
abbrev pub play_over : Stream → Stream → PlayStreams
play_over input output = record {
  lines = input.bytes;
  written = output.bytes;
  AreKept = input.IsKept × output.IsKept;
}

-- a play on the board, with a person who is this side
abbrev pub Plays : Side → BoardLimit → File → PlayStreams → Outcome → Type 0
Plays side limit board play outcome = Opening board play.AreKept
    (λ read. EndsAs outcome_of_run (RanPlay limit side read play) (PlayFails limit side read play))
    outcome

-- the same with values up to symmetries in another file
abbrev pub PlaysUpTo : Side → BoardLimit → File → File → PlayStreams → Outcome → Type 0
PlaysUpTo side limit board symmetries play outcome =
    ((CanFail board ⊎ CanFail symmetries) × play.AreKept × (outcome ≡ Broken Read))
    ⊎ ((b s : Bytes) × OpensWith board b.old × OpensWith symmetries s.old
    × EndsAs outcome_of_run (RanPlayUpTo limit side (readers_by b s) play)
    (PlayFailsUpTo limit side (readers_by b s) play) outcome)

-- a play on the nested board of the level
abbrev pub Climbs : ℕ → Stream → Stream → Outcome → Type 0
Climbs levels input output outcome =
    EndsAs outcome_of_run (IsOver (PersonClimbs levels) input.bytes output.bytes)
    (IsBrokenOff (PersonClimbs levels) input.bytes output.bytes) outcome

-- the text of the nested board was written
abbrev pub WritesNested : ℕ → ℕ → Stream → Outcome → Type 0
WritesNested levels pebbles output outcome =
    EndsAs {Answer = Unit {0}} outcome_of_run
    (λ answer. Wrote (IsNestedText levels pebbles) output.bytes)
    (λ fault. (fault ≡ Memory)
    ⊎ ((fault ≡ Write) × WrotePrefix (IsNestedText levels pebbles) output.bytes)) outcome
    × WritesWhole output outcome

module _ (at : List ℕ → File) (input output : Stream) where
  -- the job is done, or broken off; only a joined check and the plays read standard input
  abbrev pub DoesJob : Job → Outcome → Type 0
  DoesJob Joined outcome = ChecksJoined input output outcome
  DoesJob (Check board proof) outcome =
      WritesBoth ChecksFor (at board.now) (at proof.now) output outcome × input.IsKept
  DoesJob (Nested levels pebbles) outcome =
      WritesNested levels pebbles output outcome × input.IsKept
  DoesJob (Solve workers side limit symmetries board) outcome =
      WritesValues at (texts.Document side) workers limit symmetries board output outcome
      × input.IsKept
  DoesJob (Report workers limit symmetries board) outcome =
      WritesValues at (texts.Summary summaries.Report) workers limit symmetries board output outcome
      × input.IsKept
  DoesJob (Starts workers limit symmetries board) outcome =
      WritesValues at (texts.Summary summaries.Starts) workers limit symmetries board output outcome
      × input.IsKept
  DoesJob (Chains workers most board) outcome =
      CountsChains most (at board.now) output outcome × input.IsKept
  DoesJob (Play side limit None board) outcome =
      Plays side limit (at board.now) (play_over input output) outcome
  DoesJob (Play side limit (Some symmetries) board) outcome =
      PlaysUpTo side limit (at board.now) (at symmetries.now) (play_over input output) outcome
  DoesJob (Climb levels) outcome = Climbs levels input output outcome

  -- an input of the job has failed, or can fail: standard input, or a file whose bytes aren't known
  abbrev pub CanBeUnread : Job → Type 0
  CanBeUnread Joined = input.HasFailed
  CanBeUnread (Check board proof) = CanFailAt at board (Some proof)
  CanBeUnread (Nested levels pebbles) = ⊥
  CanBeUnread (Solve workers side limit symmetries board) = CanFailAt at board symmetries
  CanBeUnread (Report workers limit symmetries board) = CanFailAt at board symmetries
  CanBeUnread (Starts workers limit symmetries board) = CanFailAt at board symmetries
  CanBeUnread (Chains workers most board) = CanFailAt at board None
  CanBeUnread (Play side limit symmetries board) =
      CanFailAt at board symmetries ⊎ input.HasFailed
  CanBeUnread (Climb levels) = input.HasFailed

  -- the same; the streams have failed if the outcome says so, and only then; and no read fault is
  -- told of files whose bytes are known and of standard input that hasn't failed
  pub record IsDone (job : Job) (outcome : Outcome) : Type 0 where
    pub does : DoesJob job outcome
    pub writes : TellsWrites output outcome
    pub reads : input.HasFailed → outcome ≡ Broken Read
    pub unread : outcome ≡ Broken Read → CanBeUnread job
