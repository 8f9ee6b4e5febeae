use Rattle.std.proofs.Common.{ℕ, bit_and, get_or, arith, ap}
use Rattle.positions.proofs.LabelBits.{both_of, has_bit-both, made-more, made-none}
use Rattle.positions.proofs.label_set.Labels.intersection.Goals as goal

pub loop-number-init : goal.loop-number-init
loop-number-init g c = made-none (both_of c.self.inside.words c.args.row.now) c.self.inside.words

pub loop-number-preserved : goal.loop-number-preserved
loop-number-preserved g c =
    let l = c.loop-number in
    made-more (both_of c.self.inside.words c.args.row.now) c.self.inside.words l.words l.number _
    (omega (arith, c.self.told, c.loop-number-test.true))
    (ap (λ (w : ℕ). bit_and w (get_or c.args.row.now l.number 0)) (l.invariant.behind l.number (omega arith)))
    l.invariant

pub returns : goal.returns
returns g c = rw (← c.self.view_is) (λ x small. has_bit-both c.self.inside.words c.args.row.now c.loop-number.words
    c.loop-number.number
    (omega (arith, c.self.told, c.loop-number.auto.number-end, c.loop-number-test.false)) c.loop-number.invariant x)
