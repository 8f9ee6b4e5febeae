use Rattle.gap_values.proofs.ClosingSteps.{answers-all}
use Rattle.gap_values.proofs.closing.answer_set.Goals as goal

pub returns : goal.returns
returns g c =
    answers-all c.args.board.now c.args.held.now c.loop-place.set c.loop-place.place-index c.loop-place-test.false
    c.loop-place.auto.place-index-end c.loop-place.invariant
