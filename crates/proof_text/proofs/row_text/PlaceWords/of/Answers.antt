use Rattle.std.proofs.Common.{arith}
use Rattle.proof_text.proofs.GatheredWords.{places_end}
use Rattle.proof_text.proofs.row_text.PlaceWords.of.Goals as goal

pub invariant_of-result : goal.invariant_of-result
invariant_of-result c =
    let most = c.loop-label.auto.label-end in
    places_end c.args.labels c.loop-label.label c.loop-label.words.items c.push-2.new.self.items
    (omega (arith, most, c.loop-label-test.false)) c.loop-label.invariant c.in_ok-push-2.ensures.items
