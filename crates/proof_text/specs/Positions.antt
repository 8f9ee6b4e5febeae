-- How the rows of a document stand for configurations: a record for each version.
use Rattle.std.specs.Prelude.{◌≡◌, ◌↔◌, ℕ, ◌==◌, List, length}
use Rattle.std.specs.List.{position_or_len}
use Rattle.board_text.specs.PlainBoard.{PlainBoard}
use Rattle.positions.specs.Game.{LabellerTree}
use Rattle.positions.specs.Table.{RequestRow}
use Rattle.proof_text.specs.Arranged.{arranged}

-- the places of the row that stands for a configuration, and the pebble that an adversary's row
-- asks
pub record Positions : Type 0 where
  pub normal : List ℕ → List ℕ
  pub asked : RequestRow → ℕ

-- by configurations: each has a row of its own, which names the pebble
abbrev pub configuration_positions : Positions
configuration_positions = record { normal = λ places. places; asked = λ row. row.request }

-- the first pebble of a row that is on the place that the row names
abbrev pub asked_pebble : RequestRow → ℕ
asked_pebble row = position_or_len (λ place. place == row.request) row.at

-- rows have normal places, and name the place of the pebble
abbrev pub normal_positions : (List ℕ → List ℕ) → Positions
normal_positions normal = record { normal = normal; asked = asked_pebble }

-- by classes: rows have arranged places
abbrev pub class_positions : ℕ → Positions
class_positions labels = normal_positions (arranged labels)

-- normal places have as many pebbles as those that they stand for, and the same value
pub record KeepsValues (board : PlainBoard) (normal : List ℕ → List ℕ) : Type 0 where
  pub size : (places : List ℕ) → length places ≡ board.pebbles
      → length (normal places) ≡ board.pebbles
  pub trees : (places : List ℕ) → (depth : ℕ) → length places ≡ board.pebbles
      → LabellerTree board depth (normal places) ↔ LabellerTree board depth places
