-- Words of gaps that are open.
use Rattle.std.specs.Prelude.{◌≢◌, ◌<◌, ◌≤◌, ℕ, nat_eq, if◌then◌else◌, List, length, slice_index}
use Rattle.classes.specs.Sums.{sum_below}
use Rattle.gap_values.specs.declared.closing.TheConstants.{OPEN}

-- how many of the words before an index are open
abbrev pub open_below : List ℕ → ℕ → ℕ
open_below words end =
    sum_below end (λ index. if nat_eq (slice_index words index) OPEN then 1 else 0)

-- no word from this place on is open
pub record AreClosedFrom (words : List ℕ) (from : ℕ) : Type 0 where
  pub within : from ≤ length words
  pub each : (index : ℕ) → from ≤ index → index < length words → slice_index words index ≢ OPEN
