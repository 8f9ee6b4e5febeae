-- The ends of plays that the value of the start allows.
use Rattle.std.specs.Prelude.{◌≡◌, ℕ, zero, suc, ◌≤◌, List}
use Rattle.board_text.specs.Ranges.{InRange}
use Rattle.board_text.specs.PlainBoard.{PlainBoard, IsBoard}
use Rattle.nested_cycles.specs.declared.game.TheConstants.{MAX_LEVELS}
use Rattle.positions.specs.declared.value.Value.TheVariants.{Finite, Forever}
use Rattle.positions.specs.Game.{Legal, moved}
use Rattle.positions.specs.Value.{HasValue}
use Rattle.strategies.specs.Best.{IsBestAnswer, IsBestRequest}
use Rattle.player.specs.Transcript.{Game, PersonAsks, PersonAnswers, PersonClimbs}
use Rattle.player.specs.declared.end.PlayEnd.{PlayEnd}
use Rattle.player.specs.declared.end.PlayEnd.TheVariants.{Stuck, Stopped, NoStrategy}

-- the start has a finite value, and no fewer requests were answered
abbrev pub HasReached : PlainBoard → ℕ → Type 0
HasReached board requests =
    (number : ℕ) × HasValue board board.start (Finite number) × (number ≤ requests)

-- the start has a finite value, and no more requests were answered
abbrev pub IsWithinValue : PlainBoard → ℕ → Type 0
IsWithinValue board requests =
    (number : ℕ) × HasValue board board.start (Finite number) × (requests ≤ number)

-- an end of a play with a person who is the adversary: no label is legal only once as many requests
-- are answered as the value has
abbrev pub IsNoSooner : PlainBoard → PlayEnd → Type 0
IsNoSooner board (Stuck requests) = HasReached board requests
IsNoSooner board (Stopped requests) = Unit {0}
IsNoSooner board NoStrategy = ⊥

-- an end of a play with a person who is the labeller: no more requests are answered than the value
-- has, unless that is forever
abbrev pub IsNoLater : PlainBoard → PlayEnd → Type 0
IsNoLater board (Stuck requests) = IsWithinValue board requests
IsNoLater board (Stopped requests) = IsWithinValue board requests
IsNoLater board NoStrategy = HasValue board board.start Forever

-- an end of a play on a nested board: the person stopped, or the input ended
abbrev pub IsStopped : PlayEnd → Type 0
IsStopped end = (requests : ℕ) × (end ≡ Stopped requests)

-- the board that is played on is within the limits
abbrev pub IsGame : Game → Type 0
IsGame (PersonAsks board) = IsBoard board
IsGame (PersonAnswers board) = IsBoard board
IsGame (PersonClimbs levels) = InRange 1 MAX_LEVELS levels

-- an end of the play that its value allows, which on a nested board is forever
abbrev pub KeepsToValue : Game → PlayEnd → Type 0
KeepsToValue (PersonAsks board) end = IsNoSooner board end
KeepsToValue (PersonAnswers board) end = IsNoLater board end
KeepsToValue (PersonClimbs levels) end = IsStopped end

-- a play of best requests and best answers ends after this number of answers
abbrev pub EndsBestPlay : PlainBoard → List ℕ → ℕ → Type 0
EndsBestPlay board configuration zero = (pebble : ℕ) × IsBestRequest board configuration pebble
    × ((label : ℕ) → Legal board configuration pebble label → ⊥)
EndsBestPlay board configuration (suc number) =
    (pebble label : ℕ) × IsBestRequest board configuration pebble
    × IsBestAnswer board configuration pebble label
    × EndsBestPlay board (moved configuration pebble label) number
