-- The input and the output of a play.
use Rattle.std.specs.Prelude.{◌≡◌, ◌≢◌, ◌↔◌, ℕ, ◌<◌, ◌≤◌, ◌⊎◌, List, [], ◌∷◌, ◌++◌, length, All}
use Rattle.std.specs.Prelude.{Bool, true, Option, Result, Err}
use Rattle.std.specs.List.{flat_map}
use Rattle.std.specs.Io.KnownBytes.{IsAtEnd}
use Rattle.board_text.specs.Streams.{AppendsAll, AppendsPrefix, Bytes, GaveAll, GaveNext}
use Rattle.board_text.specs.LineForms.{with_line_feed}
use Rattle.player.specs.Words.{IsLine, BeginsTooLong}
use Rattle.player.specs.Transcript.{Standing, Going, Over, Stops}
use Rattle.player.specs.declared.end.PlayEnd.{PlayEnd}
use Rattle.player.specs.declared.end.PlayFault.{PlayFault}
use Rattle.player.specs.declared.end.PlayFault.TheVariants.{Read, Write, Memory, Limit}
use Rattle.player.specs.declared.turns.TheConstants.{MOST_LINES}

-- these lines and the rest were all the bytes that came, each line with its line feed
abbrev pub FullLinesCame : Bytes → List (List ℕ) → List ℕ → Type 0
FullLinesCame left lines rest = GaveNext left (flat_map with_line_feed lines ++ rest)

-- these lines were the whole input, the last of them without a line feed
pub record LinesWereAll (left : Bytes) (lines : List (List ℕ)) : Type 0 where
  pub before : List (List ℕ)
  pub last : List ℕ
  pub lines_are : lines ≡ before ++ last ∷ []
  pub some : last ≢ []
  pub read : GaveAll left (flat_map with_line_feed before ++ last)

-- these lines came, and after them the rest
pub record LinesCame (left : Bytes) (lines : List (List ℕ)) (rest : List ℕ) : Type 0 where
  pub came : FullLinesCame left lines rest ⊎ ((rest ≡ []) × LinesWereAll left lines)
  pub each : All IsLine lines
  pub few : length lines ≤ MOST_LINES

-- the lines end the play, or the end of the input does,
-- which is asked for only after fewer lines than may be read
abbrev pub Ends : (List (List ℕ) → List ℕ → Standing → Type 0) → Option (List ℕ) → List (List ℕ)
    → List ℕ → List ℕ → PlayEnd → Type 0
Ends Played left_new lines rest text end = Played lines text (Over end)
    ⊎ (Stops Played lines text end × IsAtEnd left_new × (rest ≡ []) × (length lines < MOST_LINES))

-- the lines leave the play going, or it ends
abbrev pub GoesOnOrEnds : (List (List ℕ) → List ℕ → Standing → Type 0) → Option (List ℕ)
    → List (List ℕ) → List ℕ → List ℕ → Type 0
GoesOnOrEnds Played left_new lines rest text =
    ((at : List ℕ) × (requests : ℕ) × Played lines text (Going at requests))
    ⊎ ((end : PlayEnd) × Ends Played left_new lines rest text end)

module _ (Played : List (List ℕ) → List ℕ → Standing → Type 0)
    (left taken : Bytes) where
  -- lines came, and the text written is their transcript, with this end
  abbrev pub HasEnded : PlayEnd → Type 0
  HasEnded end = (lines : List (List ℕ)) × (rest text : List ℕ)
      × LinesCame left lines rest × Ends Played left.new lines rest text end
      × AppendsAll taken text

  -- lines came that didn't end the play, and the text written is the reply to them
  abbrev pub HasWritten : (List (List ℕ) → List ℕ → Type 0) → Type 0
  HasWritten Waits = (lines : List (List ℕ)) × (rest text at : List ℕ) × (requests : ℕ)
      × LinesCame left lines rest × Waits lines rest
      × Played lines text (Going at requests) × AppendsAll taken text

  -- lines came, and the text written is a prefix of the reply to them,
  -- which has an end only if the play has one
  abbrev pub HasBegun : Type 0
  HasBegun = (lines : List (List ℕ)) × (rest text : List ℕ)
      × LinesCame left lines rest × GoesOnOrEnds Played left.new lines rest text
      × AppendsPrefix taken text

  -- the cases of each fault, and the text written before it
  abbrev pub BreaksOff : PlayFault → Type 0
  BreaksOff Read = HasWritten (λ lines rest. IsLine rest × (length lines < MOST_LINES))
  BreaksOff Limit = HasWritten (λ lines rest. (length lines ≡ MOST_LINES) ⊎ BeginsTooLong rest)
  BreaksOff Write = HasBegun
  BreaksOff Memory = HasBegun

-- the reader has failed exactly if the fault is `Read`, and the writer exactly if it is `Write`
pub record TellsBothStreams (result : Result PlayEnd PlayFault)
    (reading_failed writing_failed : Bool)
    : Type 0 where
  pub read : (reading_failed ≡ true) ↔ (result ≡ Err Read)
  pub write : (writing_failed ≡ true) ↔ (result ≡ Err Write)
