use Rattle.std.proofs.Common.{◌+◌, suc}
use Rattle.classes.specs.Numbers.{ways}
use Rattle.classes.proofs.LongerLists.{AreRowsBelow}
use Rattle.classes.proofs.class_numbers.ClassNumbers.longer_rows.Given as goal

abbrev pub invariant-loop-greatest : goal.invariant-loop-greatest
invariant-loop-greatest l = AreRowsBelow l.self (suc l.count) (ways (suc l.count) l.greatest) l.more.items

abbrev pub invariant-loop-class : goal.invariant-loop-class
invariant-loop-class l = AreRowsBelow l.self (suc l.count) (ways (suc l.count) l.greatest + l.class) l.more.items
