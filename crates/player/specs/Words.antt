-- The lines that a person writes.
use Rattle.std.specs.Prelude.{◌≢◌, ℕ, suc, ◌<◌, ◌≤◌, List, length, take, All, codes}
use Rattle.player.specs.declared.lines.TheConstants.{MOST_BYTES}

-- no line feed is among the bytes
abbrev pub HasNoFeed : List ℕ → Type 0
HasNoFeed bytes = All (λ byte. byte ≢ 10) bytes

-- the bytes of a line
pub record IsLine (line : List ℕ) : Type 0 where
  pub no_feed : HasNoFeed line
  pub short : length line ≤ MOST_BYTES

-- more bytes than a line may have stand before any line feed
pub record BeginsTooLong (bytes : List ℕ) : Type 0 where
  pub long : MOST_BYTES < length bytes
  pub no_feed : HasNoFeed (take (suc MOST_BYTES) bytes)

-- the line asks for the play to end
abbrev pub quit_line : List ℕ
quit_line = codes "quit"
