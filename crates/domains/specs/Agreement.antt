-- Configurations that agree on all pebbles but one.
use Rattle.std.specs.Prelude.{◌≡◌, ◌≢◌, ℕ, List, length, slice_index}

-- the two configurations differ at most at this pebble
pub record AgreeBut (pebble : ℕ) (first second : List ℕ) : Type 0 where
  pub same_length : length first ≡ length second
  pub others : (other : ℕ) → other ≢ pebble → slice_index first other ≡ slice_index second other
