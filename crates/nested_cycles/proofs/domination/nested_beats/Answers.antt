use Rattle.std.proofs.Common.{◌≡◌, ◌≢◌, suc, ◌+◌, ◌-◌, ◌/◌, arith}
use Rattle.nested_cycles.proofs.WordNumbers.{third_below}
use Rattle.nested_cycles.proofs.Dominations.{by_last, without_last}
use Rattle.nested_cycles.proofs.domination.nested_beats.Goals as goal

pub returns-then-a-b : goal.returns-then-a-b
returns-then-a-b c =
    let left = c.args.levels - c.loop.counter in
    let one_more : left ≡ suc (c.args.levels - (c.loop.counter + 1)) = omega arith in
    let so_far = c.loop.invariant in
    let same : c.loop.a / 3 ≡ c.loop.b / 3 = omega (arith, c.if-a-b.true) in
    let last = by_last (c.args.levels -
    (c.loop.counter + 1)) left c.loop.a c.loop.b one_more so_far.small_a so_far.small_b same in (
      λ yes. so_far.decided.0 (last.0 (c.comes_next.ensures.0 yes)),
      λ beats. c.comes_next.ensures.1 (last.1 (so_far.decided.1 beats)),
    )

pub loop-preserved : goal.loop-preserved
loop-preserved c =
    let left = c.args.levels - c.loop.counter in
    let one_more : left ≡ suc (c.args.levels - (c.loop.counter + 1)) = omega arith in
    let so_far = c.loop.invariant in
    let differ : c.loop.a / 3 ≢ c.loop.b / 3 = omega (arith, c.if-a-b.false) in
    let last = without_last (c.args.levels -
    (c.loop.counter + 1)) left c.loop.a c.loop.b one_more so_far.small_a so_far.small_b differ in
    record {
      small_a = third_below (c.args.levels - (c.loop.counter + 1)) c.loop.a (rw one_more at so_far.small_a);
      small_b = third_below (c.args.levels - (c.loop.counter + 1)) c.loop.b (rw one_more at so_far.small_b);
      decided = (λ rest. so_far.decided.0 (last.0 rest), λ beats. last.1 (so_far.decided.1 beats));
    }
