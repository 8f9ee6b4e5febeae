-- The state of a play with a person, and the request in it.
use Rattle.std.specs.Prelude.{◌≡◌, ℕ, true, false, List, ◌++◌}
use Rattle.board_text.specs.PlainBoard.{PlainBoard, IsConfiguration}
use Rattle.positions.specs.Game.{Legal}
use Rattle.strategies.specs.Best.{IsBestRequest}
use Rattle.player.specs.Transcript.{Standing, Going, Over, ask_line, stuck_line}
use Rattle.player.specs.declared.end.PlayEnd.TheVariants.{Stuck}
use Rattle.player.specs.declared.labeller_side.Next.{Next}
use Rattle.player.specs.declared.labeller_side.Next.TheVariants as next
use Rattle.player.specs.declared.labeller_side.Request.{Request}

-- a board, one of its configurations, and the number of answered requests
pub record PlayState : Type 0 where
  pub board : PlainBoard
  pub at : List ℕ
  pub requests : ℕ

-- the label is legal for the pebble of the best request
abbrev pub IsLegalAt : PlayState → ℕ → Type 0
IsLegalAt seat label = (pebble : ℕ) × IsBestRequest seat.board seat.at pebble
    × Legal seat.board seat.at pebble label

-- the best request, and whether no label is legal for it
pub record IsRequestAt (board : PlainBoard) (configuration : List ℕ)
    (request : Request) : Type 0 where
  pub best : IsBestRequest board configuration request.pebble
  pub stuck : request.is_stuck ≡ true → (label : ℕ) → Legal board configuration request.pebble label
      → ⊥
  pub free : request.is_stuck ≡ false → (label : ℕ) × Legal board configuration request.pebble label

-- the text of a request after `requests` answered ones, and the next turn
abbrev pub HasAsked : Request → ℕ → Next → List ℕ → Type 0
HasAsked request requests (next.Asks pebble) said =
    (request.is_stuck ≡ false) × (pebble ≡ request.pebble)
    × (said ≡ ask_line request.pebble)
HasAsked request requests (next.Ends end) said = (request.is_stuck ≡ true) × (end ≡ Stuck requests)
    × (said ≡ ask_line request.pebble ++ stuck_line request.pebble requests)

-- the state of the play: at the configuration with the best request, or at its end
abbrev pub IsStandingAfter : PlainBoard → List ℕ → ℕ → Next → Standing → Type 0
IsStandingAfter board configuration requests (next.Asks pebble) to =
    IsBestRequest board configuration pebble
    × (to ≡ Going configuration requests)
IsStandingAfter board configuration requests (next.Ends end) to = to ≡ Over end

-- the pebble is the best request at the configuration
pub record IsPlayState (board : PlainBoard) (at : List ℕ) (asked : ℕ) : Type 0 where
  pub is_configuration : IsConfiguration board at
  pub best : IsBestRequest board at asked
