-- The words of stuck configurations, gap by gap.
use Rattle.std.proofs.Common.{◌≡◌, ◌⊎◌, ℕ, ◌<◌, List, length, slice_index}
use Rattle.graphs.specs.Graph.{PlainGraph}
use Rattle.graphs.specs.Stuck.{IsStuckBy}

-- the words of the members of the first gaps with the count 0 are 0, and nothing else changes
pub record AreGapsZeroed (a : PlainGraph) (counts : List ℕ) (gap : ℕ) (old new : List ℕ) : Type 0 where
  pub same_length : length new ≡ length old
  pub zeroed : (g v : ℕ) → g < gap → v < a.places → slice_index counts g ≡ 0 → slice_index new (a.member g v) ≡ 0
  pub others : (x : ℕ)
      → (slice_index new x ≡ slice_index old x) ⊎ ((slice_index new x ≡ 0) × IsStuckBy a counts x)
