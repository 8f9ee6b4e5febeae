-- Definitions that this crate's own functions cite beside `Transcript`.
use Rattle.std.specs.Prelude.{ℕ, List, Option, None, Some}
use Rattle.player.specs.declared.end.PlayEnd.{PlayEnd}
use Rattle.player.specs.Transcript.{Standing, Going, Over}

-- it is over if there is an end
abbrev pub standing_of : Option PlayEnd → List ℕ → ℕ → Standing
standing_of None at requests = Going at requests
standing_of (Some end) at requests = Over end
