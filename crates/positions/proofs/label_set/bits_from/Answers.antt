use Rattle.positions.proofs.LabelBits.{keeps_all, keeps_from}
use Rattle.positions.proofs.label_set.bits_from.Goals as goal

pub returns-then-bound-number : goal.returns-then-bound-number
returns-then-bound-number c = keeps_all c.args.bound c.args.number c.if-bound-number.true

pub returns-else-bound-number : goal.returns-else-bound-number
returns-else-bound-number c = keeps_from c.args.bound c.args.number c.if-bound-number.false c.requires.bound
