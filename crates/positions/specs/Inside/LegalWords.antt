-- Words with a bit for each label below 64, which tells whether it dominates places.
use Rattle.std.specs.Prelude.{◌≡◌, ℕ, ◌<◌, ◌≤◌, ◌↔◌, List, slice_index}
use Rattle.std.specs.Int.{bit_at}
use Rattle.board_text.specs.PlainBoard.{PlainBoard, DominatesPlace}
use Rattle.positions.specs.Game.{DominatesOthers}

-- the bits are those of the labels that have the fact
abbrev pub AreBitsOf : (ℕ → Type 0) → ℕ → Type 0
AreBitsOf fact word = (label : ℕ) → label < 64 → (bit_at word label ≡ 1) ↔ fact label

-- the label dominates the places of the pebbles from `first` up to `end`
abbrev pub DominatesFrom : PlainBoard → List ℕ → ℕ → ℕ → ℕ → Type 0
DominatesFrom board places first end label =
    (other : ℕ) → first ≤ other → other < end
    → DominatesPlace board label (slice_index places other)

-- for each of the first pebbles the labels that dominate the places before its own
abbrev pub AreOfEarlier : PlainBoard → List ℕ → ℕ → List ℕ → Type 0
AreOfEarlier board places end words =
    (pebble : ℕ) → pebble < end
    → AreBitsOf (DominatesFrom board places 0 pebble) (slice_index words pebble)

-- for each pebble the labels that dominate the places of all others
abbrev pub AreOfOthers : PlainBoard → List ℕ → List ℕ → Type 0
AreOfOthers board places words =
    (pebble : ℕ) → pebble < board.pebbles
    → AreBitsOf (DominatesOthers board places pebble) (slice_index words pebble)
