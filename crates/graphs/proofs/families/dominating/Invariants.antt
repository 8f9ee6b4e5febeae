use Rattle.std.proofs.Common.{◌<◌, ℕ}
use Rattle.graphs.specs.Inside.Families.{IsDominatorAt}
use Rattle.graphs.proofs.families.dominating.Given as goal

abbrev pub invariant-loop-index : goal.invariant-loop-index
invariant-loop-index l = (k : ℕ) → k < l.index → IsDominatorAt l.board l.held k → ⊥
