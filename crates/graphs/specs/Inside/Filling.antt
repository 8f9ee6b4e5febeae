-- Facts that hold while the tables of a graph are filled.
use Rattle.std.specs.Prelude.{◌≡◌, ℕ, ◌<◌, ◌⊎◌, List, length, slice_index}
use Rattle.graphs.specs.Answers.{IsAnswerIn}
use Rattle.graphs.specs.Graph.{PlainGraph}

-- the gap is noted at its answers at the first places, and nothing else changes
pub record IsGapNoted (a : PlainGraph) (gap place : ℕ) (old new : List ℕ) : Type 0 where
  pub same_length : length new ≡ length old
  pub noted : (v : ℕ) → v < place → IsAnswerIn a gap v → slice_index new (a.member gap v) ≡ gap
  pub others : (x : ℕ)
      → (slice_index new x ≡ slice_index old x) ⊎ ((slice_index new x ≡ gap) × (a.struck x ≡ gap))

-- each configuration has the gap in which it is struck, if that is one of the first, or the number
-- of gaps
pub record AreStruck (a : PlainGraph) (gap : ℕ) (struck : List ℕ) : Type 0 where
  pub size : length struck ≡ a.configurations
  pub settled : (g v : ℕ) → g < gap → IsAnswerIn a g v → slice_index struck (a.member g v) ≡ g
  pub sound : (x : ℕ) → x < a.configurations
      → (slice_index struck x ≡ a.gaps) ⊎ (slice_index struck x ≡ a.struck x)

-- the words of the gap's members at the first places are 0, and no other word is changed
pub record IsGapZeroed (a : PlainGraph) (gap place : ℕ) (old new : List ℕ) : Type 0 where
  pub same_length : length new ≡ length old
  pub zeroed : (v : ℕ) → v < place → slice_index new (a.member gap v) ≡ 0
  pub others : (x : ℕ) → (slice_index new x ≡ slice_index old x)
      ⊎ ((slice_index new x ≡ 0) × ((v : ℕ) × (v < a.places) × (a.member gap v ≡ x)))
