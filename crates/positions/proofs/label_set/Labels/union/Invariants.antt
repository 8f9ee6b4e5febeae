use Rattle.positions.proofs.LabelBits.{AreMadeTo, either_of}
use Rattle.positions.proofs.label_set.Labels.union.Given as goal

abbrev pub invariant-loop-number : goal.invariant-loop-number
invariant-loop-number g l = AreMadeTo (either_of l.initial.words l.other-inside.words) l.initial.words l.words l.number
