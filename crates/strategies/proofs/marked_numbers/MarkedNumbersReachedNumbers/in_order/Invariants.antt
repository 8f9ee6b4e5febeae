use Rattle.std.proofs.Common.{◌-◌, length}
use Rattle.strategies.specs.Inside.Marks.{AreListed, IsMarked}
use Rattle.strategies.proofs.marked_numbers.MarkedNumbersReachedNumbers.in_order.Given as goal

abbrev pub invariant-loop-number : goal.invariant-loop-number
invariant-loop-number l = AreListed (IsMarked l.self-inside.marks) 0 l.from l.ordered.items

abbrev pub decreases-loop-number : goal.decreases-loop-number
decreases-loop-number l = length l.self-inside.marks - l.from
