-- Runs of plays: the bytes read, the answer, and the bytes written.
use Rattle.std.specs.Prelude.{◌≡◌, ℕ, ◌⊎◌, false, List, Option, Result, Ok, Err}
use Rattle.board_text.specs.PlainBoard.{PlainBoard}
use Rattle.player.specs.Prompts.{ArePrompts}
use Rattle.player.specs.Transcript.{Game, PersonAsks, PersonAnswers, IsPlayed}
use Rattle.player.specs.Laws.{KeepsToValue}
use Rattle.player.specs.Play.{HasEnded, BreaksOff}
use Rattle.player.specs.declared.end.PlayEnd.{PlayEnd}
use Rattle.player.specs.declared.end.PlayFault.{PlayFault}
use Rattle.positions.specs.declared.side.Side.{Side}
use Rattle.positions.specs.declared.side.Side.TheVariants.{Labeller, Adversary}
use Rattle.runs.specs.BoardRun.{FailsOn, RanOn, Readers}
use Rattle.runs.specs.Faults.{fault_of_play}
use Rattle.runs.specs.Notices.{AfterRounds, IsToldOnBoard}
use Rattle.runs.specs.Run.{Bytes, bytes_of}
use Rattle.runs.specs.SymmetricRun.{GaveDomain, GaveNoDomain}
use Rattle.runs.specs.Texts.{IsWithinLimit}
use Rattle.command_line.specs.declared.asked.BoardLimit.{BoardLimit}
use Rattle.runs.specs.declared.fault.RunFault.{RunFault}
use Rattle.runs.specs.declared.playing.Playing.{Playing}
use Rattle.runs.specs.declared.reading.TheConstants.{MAX_BOARD_BYTES}

-- the play on the board in which the person is this side
abbrev pub game_played : Side → PlainBoard → Game
game_played Adversary board = PersonAsks board
game_played Labeller board = PersonAnswers board

-- the streams of a play: the bytes of the lines and of the text written, and that both streams are
-- as they were
pub record PlayStreams : Type 1 where
  pub lines : Bytes
  pub written : Bytes
  pub AreKept : Type 0

-- the streams, by what is known of each before and after
abbrev pub play_streams : {L W : Type 0} → (L → Option (List ℕ)) → L → L → (W → Option (List ℕ))
    → W → W → PlayStreams
play_streams of_lines lines lines_after of_written written written_after = record {
  lines = bytes_of of_lines lines lines_after;
  written = bytes_of of_written written written_after;
  AreKept = (lines_after ≡ lines) × (written_after ≡ written);
}

-- the play has ended, as the value of its start allows
abbrev pub IsOver : Game → Bytes → Bytes → PlayEnd → Type 0
IsOver game lines written end =
    HasEnded (IsPlayed game) lines written end × KeepsToValue game end

-- the play was broken off
abbrev pub IsBrokenOff : Game → Bytes → Bytes → RunFault → Type 0
IsBrokenOff game lines written fault =
    (why : PlayFault) × BreaksOff (IsPlayed game) lines written why × (fault ≡ fault_of_play why)

-- a board within the limit was read, and the play on it is over
abbrev pub RanPlay : BoardLimit → Side → Bytes → PlayStreams → PlayEnd → Type 0
RanPlay limit side board play end =
    RanOn (IsWithinLimit limit) MAX_BOARD_BYTES board
    (λ b. IsOver (game_played side b) play.lines play.written end)

-- the faults of a play: there is no board, and nothing else is touched; or the play was broken off
abbrev pub PlayFails : BoardLimit → Side → Bytes → PlayStreams → RunFault → Type 0
PlayFails limit side board play fault =
    FailsOn (IsWithinLimit limit) MAX_BOARD_BYTES board play.AreKept
    (λ b. IsBrokenOff (game_played side b) play.lines play.written) fault

-- the same of a play whose values are found up to symmetries: a board and symmetries were read, and
-- the play is over
abbrev pub RanPlayUpTo : BoardLimit → Side → Readers → PlayStreams → PlayEnd → Type 0
RanPlayUpTo limit side read play end = (b : PlainBoard) × GaveDomain limit read.board read.text b
    × IsOver (game_played side b) play.lines play.written end

-- its faults: these weren't read, and nothing is played; or the play was broken off
abbrev pub PlayFailsUpTo : BoardLimit → Side → Readers → PlayStreams → RunFault → Type 0
PlayFailsUpTo limit side read play fault =
    (GaveNoDomain limit read fault × play.AreKept)
    ⊎ ((b : PlainBoard) × GaveDomain limit read.board read.text b
    × IsBrokenOff (game_played side b) play.lines play.written fault)

-- the end of a play as that of a run
abbrev pub run_of_play : Result PlayEnd PlayFault → Result PlayEnd RunFault
run_of_play (Ok end) = Ok end
run_of_play (Err fault) = Err (fault_of_play fault)

-- the prompts of a play on the board that ends a run so, if the person sees them
abbrev pub ArePrompted : Playing → PlainBoard → PlayStreams → Result PlayEnd RunFault → List ℕ
    → Type 0
ArePrompted playing board play result prompts =
    (played : Result PlayEnd PlayFault) × (result ≡ run_of_play played)
    × ArePrompts playing.prompts (game_played playing.side board) play.lines play.written played
    prompts

-- the play, which comes after the rounds in a run that ends so, with its prompts
abbrev pub prompts_after : Playing → PlayStreams → Result PlayEnd RunFault → AfterRounds
prompts_after playing play result = record {
  IsUntouched = play.AreKept;
  IsTold = λ board prompts. ArePrompted playing board play result prompts;
}

-- what a person is told in such a run up to symmetries: the prompts alone, without a notice or
-- rounds; nothing, if it isn't played
abbrev pub IsToldUpTo : Playing → Readers → PlayStreams → Result PlayEnd RunFault → List ℕ → Type 0
IsToldUpTo playing read play result told =
    IsToldOnBoard (GaveDomain playing.limit read.board read.text)
    (GaveNoDomain playing.limit read) false (prompts_after playing play result) result told
