use Rattle.std.proofs.Common.{ℕ, bit_or, get_or, arith, ap}
use Rattle.positions.proofs.LabelBits.{either_of, has_bit-either, made-more, made-none}
use Rattle.positions.proofs.label_set.Labels.union.Goals as goal

pub loop-number-init : goal.loop-number-init
loop-number-init g c = made-none (either_of c.self.inside.words c.other.inside.words) c.self.inside.words

pub loop-number-preserved : goal.loop-number-preserved
loop-number-preserved g c =
    let l = c.loop-number in
    made-more (either_of c.self.inside.words c.other.inside.words) c.self.inside.words l.words l.number _
    (omega (arith, c.self.told, c.loop-number-test.true))
    (ap (λ (w : ℕ). bit_or w (get_or c.other.inside.words l.number 0)) (l.invariant.behind l.number (omega arith)))
    l.invariant

pub returns : goal.returns
returns g c = rw (← c.self.view_is, ← c.other.view_is) (λ x small. has_bit-either c.self.inside.words
    c.other.inside.words c.loop-number.words c.loop-number.number
    (omega (arith, c.self.told, c.loop-number.auto.number-end, c.loop-number-test.false))
    (omega (arith, c.self.told, c.other.told)) c.loop-number.invariant x)
