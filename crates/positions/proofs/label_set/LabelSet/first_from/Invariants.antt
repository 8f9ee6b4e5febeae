use Rattle.positions.proofs.LabelBits.{NoneBefore}
use Rattle.positions.proofs.label_set.LabelSet.first_from.Given as goal

abbrev pub invariant-loop-number : goal.invariant-loop-number
invariant-loop-number l = NoneBefore l.self-inside.words l.bound l.number
