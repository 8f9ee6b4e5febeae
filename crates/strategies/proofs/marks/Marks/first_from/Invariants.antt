use Rattle.std.proofs.Common.{◌-◌, ◌≤◌}
use Rattle.strategies.proofs.BitSearch.{NoneBetween}
use Rattle.strategies.proofs.marks.Marks.first_from.Given as goal

abbrev pub invariant-loop-number : goal.invariant-loop-number
invariant-loop-number l =
    record { above : l.bound ≤ l.number; none : NoneBetween l.self-inside.words.items l.bound l.number }

abbrev pub decreases-loop-number : goal.decreases-loop-number
decreases-loop-number l = l.size - l.number
