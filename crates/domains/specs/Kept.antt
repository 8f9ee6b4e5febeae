-- Properties of configurations that answers keep, and ranks that requests lower.
use Rattle.std.specs.Prelude.{ℕ, ◌<◌, List}
use Rattle.board_text.specs.PlainBoard.{PlainBoard}
use Rattle.positions.specs.Game.{Legal, moved}

-- at each configuration that has the property, each request has a legal answer that keeps it
abbrev pub IsKept : (List ℕ → Type 0) → PlainBoard → Type 0
IsKept Good board =
    (configuration : List ℕ) → Good configuration → (pebble : ℕ) → pebble < board.pebbles
    → (label : ℕ) × Legal board configuration pebble label × Good (moved configuration pebble label)

-- at each configuration that has the property, some request has only legal answers that keep it and
-- lower the rank
abbrev pub IsLowered : (List ℕ → Type 0) → (List ℕ → ℕ) → PlainBoard → Type 0
IsLowered Good rank board =
    (configuration : List ℕ) → Good configuration → (pebble : ℕ) × (pebble < board.pebbles)
    × ((label : ℕ) → Legal board configuration pebble label
    → Good (moved configuration pebble label)
    × (rank (moved configuration pebble label) < rank configuration))
