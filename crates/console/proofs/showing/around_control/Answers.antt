use Rattle.std.proofs.Common.{refl, arith}
use Rattle.console.proofs.ShownTexts.{found_around, one_more, shown_whole}
use Rattle.console.proofs.showing.around_control.Goals as goal

pub loop-at-init : goal.loop-at-init
loop-at-init c = refl

pub loop-at-preserved : goal.loop-at-preserved
loop-at-preserved c =
    one_more c.args.bytes.now c.loop-at.at c.loop-at-test.true c.loop-at.invariant c.control_width-width.result
    c.control_width-width.ensures (omega (arith, c.if-width-gt0.false))

pub returns-then-width-gt0 : goal.returns-then-width-gt0
returns-then-width-gt0 c =
    found_around c.args.bytes.now c.loop-at.at c.loop-at-test.true c.loop-at.invariant c.control_width-width.result
    c.control_width-width.ensures c.if-width-gt0.true

pub returns : goal.returns
returns c = shown_whole c.args.bytes.now c.loop-at.at c.loop-at.invariant (omega (arith, c.loop-at-test.false))
