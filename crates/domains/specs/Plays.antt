-- Plays on a domain, as lists of requests, the newest first.
use Rattle.std.specs.Prelude.{◌≡◌, ℕ, ◌<◌, ◌==◌, not, List, [], ◌∷◌, filter}
use Rattle.board_text.specs.PlainBoard.{PlainBoard}
use Rattle.positions.specs.Game.{Legal, moved}

-- these requests of pebbles, the newest first, have led from the start to the configuration, each
-- by a legal answer
abbrev pub HaveLed : PlainBoard → List ℕ → List ℕ → List ℕ → Type 0
HaveLed board start [] configuration = configuration ≡ start
HaveLed board start (pebble ∷ earlier) configuration =
    (before : List ℕ) × (label : ℕ) × HaveLed board start earlier before
    × (pebble < board.pebbles) × Legal board before pebble label
    × (configuration ≡ moved before pebble label)

-- the pebbles that were asked, each once, in the order of their last requests, the newest first
abbrev pub last_asked : List ℕ → List ℕ
last_asked [] = []
last_asked (pebble ∷ earlier) =
    pebble ∷ filter (λ other. not (other == pebble)) (last_asked earlier)
