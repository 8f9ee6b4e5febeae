-- What a person is told while a job is done.
use Rattle.std.specs.Prelude.{◌≡◌, ℕ, ◌⊎◌, ◌&&◌, ◌++◌, if◌then◌else◌, Bool, List, [], Result}
use Rattle.std.specs.Prelude.{Option, codes, nat_eq, IfOk, Ok, Some, None}
use Rattle.std.specs.Borrow.{Bor}
use Rattle.std.specs.Fmt.{decimal}
use Rattle.clap.specs.Walk.{Text}
use Rattle.board_text.specs.LineForms.{with_line_feed}
use Rattle.command_line.specs.declared.asked.BoardLimit.{BoardLimit}
use Rattle.command_line.specs.declared.asked.Job.{Job}
use Rattle.command_line.specs.declared.asked.Job.TheVariants.{Joined, Check, Nested, Solve, Report}
use Rattle.command_line.specs.declared.asked.Job.TheVariants.{Starts, Chains, Play, Climb}
use Rattle.console.specs.declared.streams.Terminals.{Terminals}
use Rattle.player.specs.Prompts.{ArePrompts, shown_line}
use Rattle.player.specs.Transcript.{PersonClimbs}
use Rattle.player.specs.declared.end.PlayEnd.{PlayEnd}
use Rattle.player.specs.declared.end.PlayFault.{PlayFault}
use Rattle.positions.specs.declared.value.Value.{Value}
use Rattle.positions.specs.declared.side.Side.{Side}
use Rattle.runs.specs.BoardRun.{Readers, readers_by}
use Rattle.runs.specs.CheckRun.{RanCheck}
use Rattle.runs.specs.Notices.{IsToldInRun, IsToldOfChains, nothing_after}
use Rattle.runs.specs.PlayRun.{IsToldUpTo, PlayStreams, prompts_after, run_of_play}
use Rattle.runs.specs.Run.{Bytes, Ran}
use Rattle.runs.specs.Verdicts.{IsAnswered}
use Rattle.runs.specs.declared.checking.TheConstants.{MAX_JOINED_BYTES, MAX_PROOF_BYTES}
use Rattle.runs.specs.declared.fault.RunFault.{RunFault}
use Rattle.runs.specs.declared.playing.Playing.{Playing}
use Rattle.runs.specs.declared.reading.TheConstants.{MAX_BOARD_BYTES}
use Rattle.runs.specs.declared.summaries.Summary.TheVariants as summaries
use Rattle.runs.specs.declared.verdicts.Verdict.{Verdict}
use Rattle.runs.specs.declared.verdicts.Verdict.TheVariants.{Accepted}
use Rattle.serving.specs.Folders.{File, OpensWith, CanFail}
use Rattle.serving.specs.Outcomes.{outcome_of_check, outcome_of_run}
use Rattle.serving.specs.declared.outcome.Outcome.{Outcome}
use Rattle.serving.specs.declared.value_texts.ValueText.{ValueText}
use Rattle.serving.specs.declared.value_texts.ValueText.TheVariants as texts

-- a person types at a terminal, and sees what is told at another
abbrev pub types_and_sees : Terminals → Bool
types_and_sees terminals = terminals.input && terminals.errors

-- the greeting of a person who types a board and a document
abbrev pub joined_greeting : Terminals → List ℕ
joined_greeting terminals =
    if types_and_sees terminals then shown_line (codes "type or paste a board and a strategy "
    ++ codes "document, and Ctrl-D; `pebbles --help` lists the commands")
    else []

-- the line with a number of rows
abbrev pub rows_line : ℕ → List ℕ
rows_line rows = with_line_feed (if nat_eq rows 1 then codes "1 row was checked"
    else decimal rows ++ codes " rows were checked")

-- after a verdict that accepts, the number of rows, if a person sees it; else nothing
abbrev pub rows_told : Bool → Result Verdict RunFault → List ℕ
rows_told shows (Ok (Accepted shown rows)) = if shows then rows_line rows else []
rows_told shows result = []

-- this was told after a check with the outcome, whose verdict, if there is one, is of such a run
abbrev pub IsToldAfterCheck : Bool → (Verdict → Type 0) → Outcome → List ℕ → Type 0
IsToldAfterCheck shows IsOfRun outcome told = (result : Result Verdict RunFault)
    × (outcome ≡ outcome_of_check result) × IfOk result IsOfRun × (told ≡ rows_told shows result)

-- the same of a check of the document in one file for the board in another; nothing was told if one
-- of them can't be opened
abbrev pub IsToldOfFiles : Bool → File → File → Bytes → Outcome → List ℕ → Type 0
IsToldOfFiles shows board proof written outcome told =
    ((CanFail board ⊎ CanFail proof) × (told ≡ []))
    ⊎ ((b p : Bytes) × OpensWith board b.old × OpensWith proof p.old
    × IsToldAfterCheck shows (RanCheck MAX_BOARD_BYTES MAX_PROOF_BYTES (readers_by b p) written)
    outcome told)

-- the same of a joined check, after the greeting
abbrev pub IsToldOfJoined : Terminals → Bytes → Bytes → Outcome → List ℕ → Type 0
IsToldOfJoined terminals read written outcome told = (rows : List ℕ)
    × IsToldAfterCheck terminals.errors (Ran IsAnswered MAX_JOINED_BYTES read written) outcome rows
    × (told ≡ joined_greeting terminals ++ rows)

-- what was told belongs to a result of the run, whose outcome this is
abbrev pub TellsOfRun : {Answer : Type 0} → (Result Answer RunFault → List ℕ → Type 0) → Outcome
    → List ℕ → Type 0
TellsOfRun {Answer} Tells outcome told =
    (result : Result Answer RunFault) × (outcome ≡ outcome_of_run result) × Tells result told

-- nothing was told, since the file can't be opened; or it was, and what was told belongs to the
-- run on it
abbrev pub OpensAndTells : {Answer : Type 0} → File
    → (Bytes → Result Answer RunFault → List ℕ → Type 0) → Outcome → List ℕ → Type 0
OpensAndTells {Answer} file Tells outcome told =
    (CanFail file × (told ≡ []))
    ⊎ ((read : Bytes) × OpensWith file read.old
    × TellsOfRun {Answer = Answer} (Tells read) outcome told)

-- the same of two files
abbrev pub OpensBothAndTells : {Answer : Type 0} → File → File
    → (Readers → Result Answer RunFault → List ℕ → Type 0) → Outcome → List ℕ → Type 0
OpensBothAndTells {Answer} first second Tells outcome told =
    ((CanFail first ⊎ CanFail second) × (told ≡ []))
    ⊎ ((one two : Bytes) × OpensWith first one.old × OpensWith second two.old
    × TellsOfRun {Answer = Answer} (Tells (readers_by one two)) outcome told)

-- the answer of a run that writes the text: of a document the value of the start
abbrev pub AnswerOf : ValueText → Type 0
AnswerOf (texts.Document side) = Value
AnswerOf (texts.Summary summary) = Unit {0}

-- the notice of a large board and its rounds, if a person sees it; nothing, if its values are found
-- up to the symmetries at a path
abbrev pub IsToldOfValues : (List ℕ → File) → Bool → ValueText → BoardLimit → Option (Bor Text)
    → Bor Text → Outcome → List ℕ → Type 0
IsToldOfValues at shows text limit None board =
    OpensAndTells {Answer = AnswerOf text} (at board.now)
    (λ read. IsToldInRun limit read shows nothing_after)
IsToldOfValues at shows text limit (Some symmetries) board = λ outcome told. told ≡ []

-- how a play is run, by what of the streams is a terminal
abbrev pub playing_at : Terminals → Side → BoardLimit → Playing
playing_at terminals side limit = record {
  side = side;
  limit = limit;
  shows_size = terminals.errors;
  prompts = types_and_sees terminals;
}

-- the prompts of a play on the nested board of the level, and its outcome
abbrev pub IsToldInClimb : Bool → ℕ → Bytes → Bytes → Outcome → List ℕ → Type 0
IsToldInClimb shows levels lines written outcome told = (played : Result PlayEnd PlayFault)
    × (outcome ≡ outcome_of_run (run_of_play played))
    × ArePrompts shows (PersonClimbs levels) lines written played told

module _ (at : List ℕ → File) (terminals : Terminals) (play : PlayStreams)
    (outcome : Outcome) where
  -- the greeting of a joined check and the prompts of a play, if a person types and sees it; the
  -- notice of a large board and its rounds, the lengths of many chains, and the number of rows that
  -- were checked, if a person sees it; each in its place, and else nothing
  abbrev pub IsToldInJob : Job → List ℕ → Type 0
  IsToldInJob Joined told = IsToldOfJoined terminals play.lines play.written outcome told
  IsToldInJob (Check board proof) told =
      IsToldOfFiles terminals.errors (at board.now) (at proof.now) play.written outcome told
  IsToldInJob (Nested levels pebbles) told = told ≡ []
  IsToldInJob (Solve workers side limit symmetries board) told =
      IsToldOfValues at terminals.errors (texts.Document side) limit symmetries board outcome told
  IsToldInJob (Report workers limit symmetries board) told =
      IsToldOfValues at terminals.errors (texts.Summary summaries.Report) limit symmetries board
      outcome told
  IsToldInJob (Starts workers limit symmetries board) told =
      IsToldOfValues at terminals.errors (texts.Summary summaries.Starts) limit symmetries board
      outcome told
  IsToldInJob (Chains workers most board) told =
      OpensAndTells {Answer = Unit {0}} (at board.now)
      (λ read. IsToldOfChains most read terminals.errors) outcome told
  IsToldInJob (Play side limit None board) told = OpensAndTells {Answer = PlayEnd} (at board.now)
      (λ read result. IsToldInRun limit read terminals.errors
      (prompts_after (playing_at terminals side limit) play result) result) outcome told
  IsToldInJob (Play side limit (Some symmetries) board) told =
      OpensBothAndTells {Answer = PlayEnd} (at board.now) (at symmetries.now)
      (λ read. IsToldUpTo (playing_at terminals side limit) read play) outcome told
  IsToldInJob (Climb levels) told =
      IsToldInClimb (types_and_sees terminals) levels play.lines play.written outcome told
