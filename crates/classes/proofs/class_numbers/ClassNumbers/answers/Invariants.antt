use Rattle.classes.specs.Rows.{AreGapRows}
use Rattle.classes.proofs.class_numbers.ClassNumbers.answers.Given as goal

abbrev pub invariant-loop-count : goal.invariant-loop-count
invariant-loop-count l = AreGapRows l.self l.count l.rows.items
