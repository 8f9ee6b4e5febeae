-- Definitions for this crate's own functions, beside `Game`.
use Rattle.std.specs.Prelude.{ℕ, List}
use Rattle.board_text.specs.PlainBoard.{PlainBoard}
use Rattle.positions.specs.Game.{Legal, moved, LabellerTree}

-- a request has a legal answer that a labeller's tree follows
abbrev pub HasAnswer : PlainBoard → ℕ → List ℕ → ℕ → Type 0
HasAnswer board depth configuration pebble =
    (label : ℕ) × Legal board configuration pebble label
    × LabellerTree board depth (moved configuration pebble label)
