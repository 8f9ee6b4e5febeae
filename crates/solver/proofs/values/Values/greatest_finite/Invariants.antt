use Rattle.std.proofs.Common.{◌≤◌, ℕ}
use Rattle.positions.specs.Laws.{Occurs}
use Rattle.solver.proofs.values.Values.greatest_finite.Given as goal

abbrev pub invariant-loop-value : goal.invariant-loop-value
invariant-loop-value l = (other : ℕ) → l.value ≤ other → Occurs l.self other → ⊥
