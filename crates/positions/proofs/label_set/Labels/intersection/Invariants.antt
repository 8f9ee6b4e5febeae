use Rattle.positions.proofs.LabelBits.{AreMadeTo, both_of}
use Rattle.positions.proofs.label_set.Labels.intersection.Given as goal

abbrev pub invariant-loop-number : goal.invariant-loop-number
invariant-loop-number g l = AreMadeTo (both_of l.initial.words l.row) l.initial.words l.words l.number
