use Rattle.strategies.specs.Inside.ReachedMarks.{ReachedMarks}
use Rattle.strategies.proofs.MarkedSets.{less_room, number_taken}
use Rattle.strategies.proofs.marked_numbers.MarkedNumbersReachedNumbers.take_next.Goals as goal

pub returns-clause-taken : goal.returns-clause-taken
returns-clause-taken c =
    let marks : ReachedMarks = record { reached = c.self.inside.marks; left = c.self.inside.left } in
    let is_left = rw (← c.self.view_is) at c.in-Some.ensures.left in
    rw (c.clear.ensures, ← c.self.view_is) (
      number_taken marks c.in-Some.number c.self.invariant is_left,
      less_room marks c.in-Some.number c.self.invariant is_left,
    )
