use Rattle.positions.proofs.LabelBits.{AreNone}
use Rattle.positions.proofs.label_set.Labels.is_empty.Given as goal

abbrev pub invariant-loop-number : goal.invariant-loop-number
invariant-loop-number g l = AreNone l.self-inside.words l.number
