use Rattle.std.proofs.Common.{arith}
use Rattle.strategies.proofs.marked_numbers.MarkedNumbersReachedNumbers.add.Goals as goal

pub overflow_cast-number : goal.overflow_cast-number
overflow_cast-number c =
    let low = rw (← c.self.view_is) at c.requires in
    omega (arith, low, c.self.invariant.few)
