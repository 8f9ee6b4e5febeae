use Rattle.std.proofs.Common.{◌≡◌, ◌<◌, ◌≤◌, ◌↔◌, ℕ, IsTrue, get_or}
use Rattle.gap_values.proofs.closing.is_among.Given as goal

abbrev pub invariant-loop-index : goal.invariant-loop-index
invariant-loop-index l =
    IsTrue l.found ↔ ((index : ℕ) × (l.from ≤ index) × (index < l.index) × (get_or l.words index 0 ≡ l.word))
