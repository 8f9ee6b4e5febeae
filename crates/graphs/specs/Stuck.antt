-- Configurations that are stuck before the first round: members of a gap without answers.
use Rattle.std.specs.Prelude.{◌≡◌, ℕ, ◌+◌, ◌<◌, ◌⊎◌, List, length, slice_index}
use Rattle.graphs.specs.Graph.{PlainGraph}

-- the configuration is a member of a gap with the count 0
pub record IsStuckBy (a : PlainGraph) (counts : List ℕ) (x : ℕ) : Type 0 where
  pub gap : ℕ
  pub below : gap < a.gaps
  pub none : slice_index counts gap ≡ 0
  pub place : ℕ
  pub inside : place < a.places
  pub member : a.member gap place ≡ x

-- the words of the first stuck configurations are 0, and nothing else changes
pub record AreStuckZeroed (a : PlainGraph) (counts : List ℕ) (to : ℕ)
    (old new : List ℕ) : Type 0 where
  pub same_length : length new ≡ length old
  pub zeroed : (x : ℕ) → x < to → IsStuckBy a counts x → slice_index new x ≡ 0
  pub others : (x : ℕ)
      → (slice_index new x ≡ slice_index old x) ⊎ ((slice_index new x ≡ 0) × IsStuckBy a counts x)

-- the same of consecutive configurations from a number on
pub record IsPartZeroed (a : PlainGraph) (counts : List ℕ) (start : ℕ)
    (old new : List ℕ) : Type 0 where
  pub same_length : length new ≡ length old
  pub zeroed : (v : ℕ) → v < length old → IsStuckBy a counts (start + v) → slice_index new v ≡ 0
  pub others : (v : ℕ) → v < length old
      → (slice_index new v ≡ slice_index old v) ⊎ ((slice_index new v ≡ 0)
      × IsStuckBy a counts (start + v))

-- words are 0 where the counts from one on are, and nothing else changes
pub record AreZeroedWhere (counts : List ℕ) (rest : ℕ) (old new : List ℕ) : Type 0 where
  pub same_length : length new ≡ length old
  pub zeroed : (v : ℕ) → v < length old → slice_index counts (rest + v) ≡ 0 → slice_index new v ≡ 0
  pub others : (v : ℕ) → v < length old
      → (slice_index new v ≡ slice_index old v) ⊎ ((slice_index new v ≡ 0)
      × (slice_index counts (rest + v) ≡ 0))
