-- The input that is read before the next line is known.
use Rattle.std.specs.Prelude.{◌≡◌, ◌≢◌, ℕ, ◌<◌, ◌≤◌, ◌⊎◌, Bool, true, false, List, [], ◌++◌, length}
use Rattle.std.specs.Prelude.{Option, None, Some}
use Rattle.std.specs.Io.KnownBytes.{IsAtEnd}
use Rattle.board_text.specs.Streams.{Bytes, GaveAll, GaveNext}
use Rattle.board_text.specs.LineForms.{with_line_feed}
use Rattle.player.specs.Words.{IsLine, BeginsTooLong}
use Rattle.player.specs.Inside.Words.{Spells}
use Rattle.player.specs.declared.line_meaning.LineMeaning.{LineMeaning}
use Rattle.player.specs.declared.end.PlayFault.{PlayFault}
use Rattle.player.specs.declared.end.PlayFault.TheVariants.{Read, Limit}

-- the bytes that were read and aren't taken yet, and whether the end of the input was seen
pub record Unread : Type 0 where
  pub bytes : List ℕ
  pub has_ended : Bool

-- if the end was seen, nothing is left to take
abbrev pub IsEmptyAtEnd : Unread → Option (List ℕ) → Type 0
IsEmptyAtEnd unread left = unread.has_ended ≡ true → (unread.bytes ≡ []) × IsAtEnd left

-- a line with its line feed was taken
pub record IsClosedLine (old new : Unread) (left : Bytes) (line : List ℕ) : Type 0 where
  pub more : List ℕ
  pub read : GaveNext left more
  pub taken : old.bytes ++ more ≡ with_line_feed line ++ new.bytes
  pub goes_on : new.has_ended ≡ false

-- all that was left was taken
pub record IsLastLine (old new : Unread) (left : Bytes) (line : List ℕ) : Type 0 where
  pub more : List ℕ
  pub read : GaveAll left more
  pub taken : old.bytes ++ more ≡ line
  pub nothing_left : new.bytes ≡ []
  pub ends : new.has_ended ≡ true

-- the meaning of the next line, if there is one
abbrev pub GivesLine : Unread → Unread → Bytes → Option LineMeaning → Type 0
GivesLine old new left (Some meaning) =
    (line : List ℕ) × (old.has_ended ≡ false) × Spells line meaning × IsLine line
    × (IsClosedLine old new left line ⊎ (IsLastLine old new left line × (line ≢ [])))
GivesLine old new left None = IsLastLine old new left []

-- why there is no next line
abbrev pub GivesNoLine : Unread → Bytes → PlayFault → Type 0
GivesNoLine old left Read =
    (more : List ℕ) × (old.has_ended ≡ false) × GaveNext left more × IsLine (old.bytes ++ more)
GivesNoLine old left Limit =
    (more : List ℕ) × (old.has_ended ≡ false) × GaveNext left more
    × BeginsTooLong (old.bytes ++ more)
GivesNoLine old left fault = ⊥

-- more bytes came, or the end was seen
abbrev pub IsFilled : Unread → Unread → Bytes → Bool → Type 0
IsFilled old new left true =
    (more : List ℕ) × (new.bytes ≡ old.bytes ++ more) × GaveNext left more × (0 < length more)
    × (new.has_ended ≡ false)
IsFilled old new left false =
    (new.bytes ≡ old.bytes) × GaveAll left [] × (new.has_ended ≡ true)

-- a part of a buffer, from one place to another
pub record IsPart (from to size : ℕ) : Type 0 where
  pub ordered : from ≤ to
  pub within : to ≤ size
