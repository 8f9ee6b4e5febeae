use Rattle.std.proofs.Common.{◌≡◌, ◌++◌, ◌∷◌, [], arith, rules}
use Rattle.strategies.specs.Inside.Marks.{IsMarked}
use Rattle.strategies.proofs.ListedNumbers.{next_listed}
use Rattle.strategies.proofs.MarkedSets.{marks_in_order}
use Rattle.strategies.proofs.marked_numbers.MarkedNumbersReachedNumbers.in_order.Goals as goal

pub loop-number-preserved : goal.loop-number-preserved
loop-number-preserved c =
    let items : c.push.new.self.items ≡ c.loop-number.ordered.items ++ c.in-Some.number ∷ [] = search rules in
    rw items (next_listed (IsMarked c.self.inside.marks) 0 c.loop-number.from c.loop-number.ordered.items
    c.in-Some.number (omega arith) c.loop-number.invariant c.in-Some.ensures.first)

pub returns : goal.returns
returns c = rw (← c.self.view_is)
    (marks_in_order c.self.inside.marks c.loop-number.from c.loop-number.ordered.items c.loop-number.invariant
    (λ number above marked. c.in_default.ensures.first number (above, marked)))
