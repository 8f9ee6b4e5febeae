use Rattle.std.proofs.Common.{◌≡◌, ◌<◌, ◌≤◌, ℕ, length, get_or}
use Rattle.gap_values.proofs.sizes.values_in.Given as goal

abbrev pub invariant-loop-values : goal.invariant-loop-values
invariant-loop-values l = record {
  within : l.values ≤ length l.counts;
  zeros : (value : ℕ) → l.values ≤ value → value < length l.counts → get_or l.counts value 0 ≡ 0;
}

abbrev pub decreases-loop-values : goal.decreases-loop-values
decreases-loop-values l = l.values
