-- The pairs of labels of which the first dominates the second.
use Rattle.std.specs.Prelude.{ℕ, ◌+◌, ◌*◌, ◌<◌, List, All, AllPairs, Contains}
use Rattle.board_text.specs.PlainBoard.{AreLabels, Precedes}
use Rattle.nested_cycles.specs.Domination.{labels_of, NestedDominates}

-- a pair of labels is among the first `places` pairs, in ascending order
abbrev pub IsAmong : ℕ → ℕ → ℕ × ℕ → Type 0
IsAmong labels places pair = pair.0 * labels + pair.1 < places

-- Among the first `places` pairs of labels, those of which
-- the first dominates the second, ascending.
pub record AreNestedPairs (levels places : ℕ) (pairs : List (ℕ × ℕ)) : Type 0 where
  pub ascending : AllPairs Precedes pairs
  pub only : All (λ pair. AreLabels (labels_of levels) pair × IsAmong (labels_of levels) places pair
      × NestedDominates levels pair.0 pair.1) pairs
  pub all : (x y : ℕ) → AreLabels (labels_of levels) (x, y)
      → IsAmong (labels_of levels) places (x, y) → NestedDominates levels x y
      → Contains pairs (x, y)
