use Rattle.std.proofs.Common.{◌*◌}
use Rattle.positions.proofs.LabelBits.{HasBelow}
use Rattle.positions.proofs.label_set.Labels.below.Given as goal

abbrev pub invariant-loop-number : goal.invariant-loop-number
invariant-loop-number g l = HasBelow g.row.WORDS l.words (64 * l.number)
