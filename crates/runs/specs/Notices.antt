-- What a person is told while a large board is solved: that it is, and each round; and while many
-- chains are gone through.
use Rattle.std.specs.Prelude.{◌≡◌, ℕ, ◌&&◌, ◌⊎◌, ◌+◌, ◌-◌, ◌/◌, ◌%◌, min, nat_eq, nat_lt}
use Rattle.std.specs.Prelude.{Bool, true, false, if◌then◌else◌, List, [], ◌++◌, Result, Err}
use Rattle.std.specs.Prelude.{IsOk, Option, codes, nat_le}
use Rattle.std.specs.Fmt.{decimal}
use Rattle.board_text.specs.LineForms.{with_line_feed}
use Rattle.board_text.specs.PlainBoard.{PlainBoard, places}
use Rattle.classes.specs.Numbers.{ways}
use Rattle.command_line.specs.declared.asked.BoardLimit.{BoardLimit}
use Rattle.chains.specs.ChainCounts.{AreChainCounts, AreCountsOfLengths}
use Rattle.console.specs.Watching.{lines_of}
use Rattle.gap_values.specs.Memory.{kept_bytes}
use Rattle.gap_values.specs.OpenGaps.{AreOpenCounts}
use Rattle.positions.specs.Ranks.{configurations}
use Rattle.positions.specs.declared.space.TheConstants.{MAX_CONFIGURATIONS}
use Rattle.runs.specs.BoardRun.{GaveBoard, GaveBoardAmong, GaveNoBoard, GaveNoneAmong}
use Rattle.runs.specs.Run.{Bytes}
use Rattle.runs.specs.Texts.{OfAnySize}
use Rattle.runs.specs.declared.fault.RunFault.{RunFault}
use Rattle.runs.specs.declared.fault.RunFault.TheVariants.{Memory}
use Rattle.runs.specs.declared.notices.TheConstants.{MANY_CHAINS, MINUTES_OF_GAPS}
use Rattle.runs.specs.declared.reading.TheConstants.{MAX_BOARD_BYTES}

-- the number of tenths that hold the bytes: one that is begun counts
abbrev pub tenths_of : ℕ → ℕ → ℕ
tenths_of tenth bytes = bytes / tenth + min 1 (bytes % tenth)

-- a number of tenths in decimal, as `2.9`
abbrev pub tenths_words : ℕ → List ℕ
tenths_words tenths = decimal (tenths / 10) ++ codes "." ++ decimal (tenths % 10)

-- a number of bytes, rounded up to a tenth: of a megabyte, as `84.8 MB`, or from 1,000,000,000
-- bytes on of a gigabyte, as `2.9 GB`
abbrev pub bytes_words : ℕ → List ℕ
bytes_words bytes =
    if nat_lt bytes 1000000000 then tenths_words (tenths_of 100000 bytes) ++ codes " MB"
    else tenths_words (tenths_of 100000000 bytes) ++ codes " GB"

-- the time that so many gaps can take
abbrev pub time_words : ℕ → List ℕ
time_words gaps = if nat_lt gaps MINUTES_OF_GAPS then codes "seconds" else codes "minutes"

-- the line with the number of gaps, which are classes of all pebbles but one, and the memory that
-- the values keep
abbrev pub size_notice : PlainBoard → List ℕ
size_notice board = with_line_feed (codes "a large board: its "
    ++ decimal (ways (board.pebbles - 1) (places board))
    ++ codes " gaps, about " ++ bytes_words (kept_bytes board)
    ++ codes ", are solved, which can take "
    ++ time_words (ways (board.pebbles - 1) (places board)))

-- a person is told of the board: one is there, and it has more configurations than are ranked
abbrev pub is_told_of : Bool → PlainBoard → Bool
is_told_of shows board = shows && nat_lt MAX_CONFIGURATIONS (configurations board)

-- that line, if a person is told of the board; else nothing
abbrev pub notice_for : Bool → PlainBoard → List ℕ
notice_for shows board = if is_told_of shows board then size_notice board else []

-- the line of a round that begins, with the number of gaps that are open
abbrev pub round_line : ℕ → ℕ → List ℕ
round_line round count = with_line_feed (codes "round " ++ decimal round ++ codes ": "
    ++ decimal count ++ (if nat_eq count 1 then codes " gap is open" else codes " gaps are open"))

-- what is told of the rounds that find the values of a board: of a board that a person is told of a
-- line for each round from 1 on; else nothing
abbrev pub AreAllRounds : Bool → PlainBoard → List ℕ → Type 0
AreAllRounds false board told = told ≡ []
AreAllRounds true board told =
    (counts : List ℕ) × AreOpenCounts board counts × (told ≡ lines_of round_line 1 counts)

-- the part of a run on a board that comes after the rounds: that its streams are untouched, and
-- what is told in it
pub record AfterRounds : Type 1 where
  pub IsUntouched : Type 0
  pub IsTold : PlainBoard → List ℕ → Type 0

-- nothing is told in it
abbrev pub nothing_after : AfterRounds
nothing_after = record { IsUntouched = Unit {0}; IsTold = λ board later. later ≡ [] }

-- what is told after the notice of a board, in a run that gave this result: the rounds that find
-- its values, and then what is told after them; or nothing, if memory for the values was refused,
-- and then the streams of what comes after are untouched
abbrev pub AreRoundsTold : {Answer : Type 0} → Bool → AfterRounds → PlainBoard
    → Result Answer RunFault → List ℕ → Type 0
AreRoundsTold shows after board result told =
    ((result ≡ Err Memory) × after.IsUntouched × (told ≡ []))
    ⊎ ((rounds later : List ℕ) × (told ≡ rounds ++ later)
    × AreAllRounds (is_told_of shows board) board rounds × after.IsTold board later)

-- what a person is told in a run on a board: nothing, if none was given, and then those streams are
-- untouched; else the notice of the board, and then its rounds and what is told after them
abbrev pub IsToldOnBoard : {Answer : Type 0} → (PlainBoard → Type 0) → (RunFault → Type 0) → Bool
    → AfterRounds → Result Answer RunFault → List ℕ → Type 0
IsToldOnBoard IsGiven IsMissing shows after result told =
    ((fault : RunFault) × (result ≡ Err fault) × IsMissing fault × after.IsUntouched × (told ≡ []))
    ⊎ ((board : PlainBoard) × IsGiven board
    × (rest : List ℕ) × (told ≡ notice_for shows board ++ rest)
    × AreRoundsTold shows after board result rest)

-- the same of the board within the limit whose text was read
abbrev pub IsToldInRun : {Answer : Type 0} → BoardLimit → Bytes → Bool → AfterRounds
    → Result Answer RunFault → List ℕ → Type 0
IsToldInRun limit read shows after result told =
    IsToldOnBoard (GaveBoard limit MAX_BOARD_BYTES read) (GaveNoBoard limit MAX_BOARD_BYTES read)
    shows after result told

-- ---- chains

-- the line of a length whose chains are gone through, with their number
abbrev pub length_notice : ℕ → ℕ → List ℕ
length_notice size count = with_line_feed (decimal count ++ codes " chains of "
    ++ decimal size ++ codes " labels are gone through")

-- that line, if a person sees it and there are many chains; else nothing
abbrev pub notice_of_length : Bool → ℕ → ℕ → List ℕ
notice_of_length shows size count =
    if shows && nat_le MANY_CHAINS count then length_notice size count else []

-- in a run with this result such a line of each length whose chains were gone through was told, and
-- these are all lengths that are counted, if the run is done; or the reader gave no board, and
-- nothing was told
abbrev pub IsToldOfChains : ℕ → Bytes → Bool → Result (Unit {0}) RunFault → List ℕ → Type 0
IsToldOfChains most read shows result told =
    ((board : PlainBoard) × GaveBoardAmong OfAnySize MAX_BOARD_BYTES read board
    × (counts : List ℕ) × AreCountsOfLengths board counts
    × (IsOk result → (undominated : Option (List ℕ)) × AreChainCounts board most counts undominated)
    × (told ≡ lines_of (notice_of_length shows) 1 counts))
    ⊎ ((fault : RunFault) × (result ≡ Err fault)
    × GaveNoneAmong OfAnySize MAX_BOARD_BYTES read fault × (told ≡ []))
