use Rattle.std.proofs.Common.{◌≡◌, ◌+◌, ◌-◌, ◌≤◌, length, drop}
use Rattle.classes.specs.ClassGaps.{index_in}
use Rattle.gap_values.proofs.closing.index_of.Given as goal

abbrev pub invariant-loop-index : goal.invariant-loop-index
invariant-loop-index l = (l.index ≤ length l.class)
    × (index_in l.place l.class ≡ l.index + index_in l.place (drop l.index l.class))

abbrev pub decreases-loop-index : goal.decreases-loop-index
decreases-loop-index l = length l.class - l.index
