use Rattle.std.proofs.Common.{◌≡◌, ◌-◌, ◌≤◌, take}
use Rattle.strategies.proofs.gap_walk.count_same.Given as goal

abbrev pub invariant-loop-same : goal.invariant-loop-same
invariant-loop-same l = (l.same ≤ l.most) × (take l.same l.first ≡ take l.same l.second)

abbrev pub decreases-loop-same : goal.decreases-loop-same
decreases-loop-same l = l.most - l.same
