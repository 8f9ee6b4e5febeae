use Rattle.std.proofs.Common.{◌-◌, ◌∙◌, ◌*◌, ◌<◌, ℕ, Fits, w64, arith}
use Rattle.std.proofs.Math.Nat.{one-le-pow}
use Rattle.nested_cycles.proofs.Levels.{HaveCopies, copies_at, some_size, low_firsts, not_good_if_three}
use Rattle.nested_cycles.proofs.Levels.{good_if_rests_are, rests_are, number_below, number_fits}
use Rattle.nested_cycles.proofs.Levels.{reply_without_digits, reply_to_none, reply_to_one, reply_to_two, reply_does}
use Rattle.nested_cycles.proofs.replies.+nested_reply.Goals as goal
use Rattle.nested_cycles.proofs.replies.+nested_reply.Goals.{After-copy_size-size}

copies : (t : ℕ) (c : After-copy_size-size t)
    → HaveCopies (c.args.levels - 1) (c.args.levels - 1 - 1) c.copy_size-size.result
copies t c = copies_at c.args.levels c.copy_size-size.result (omega arith) c.copy_size-size.ensures

-- a digit's first number fits
fits : (t : ℕ) (c : After-copy_size-size t) (digit : ℕ) → digit < 3 → Fits w64 (digit * c.copy_size-size.result)
fits t c digit low =
    let sum = number_fits _ _ _ digit 0 (copies t c) (omega arith) low (one-le-pow _ 3 (omega arith)) in
    omega (arith, sum)

pub copies_of-requires-clause-size : goal.copies_of-requires-clause-size
copies_of-requires-clause-size t c = some_size _ _ _ (copies t c)

pub copies_of-requires-clause-labels : goal.copies_of-requires-clause-labels
copies_of-requires-clause-labels t c = low_firsts _ _ _ c.args.others.now (copies t c) c.requires.labels

pub rests_of-rests-requires-clause-size : goal.rests_of-rests-requires-clause-size
rests_of-rests-requires-clause-size t c =
    some_size _ _ _ (copies t (goal.at.rests_of-rests-requires-clause-size t c).After-copy_size-size)

pub overflow_mul-result : goal.overflow_mul-result
overflow_mul-result t c =
    fits t (goal.at.overflow_mul-result t c).After-copy_size-size _ (omega (arith, c.next_after.ensures))

pub overflow_mul-result-in-Two : goal.overflow_mul-result-in-Two
overflow_mul-result-in-Two t c =
    fits t (goal.at.overflow_mul-result-in-Two t c).After-copy_size-size _ (omega (arith, c.next_after-next.ensures))

pub overflow_add-result : goal.overflow_add-result
overflow_add-result t c =
    let at = copies t (goal.at.overflow_add-result t c).After-copy_size-size in
    let low : c.next_after-next.result < 3 = omega (arith, c.next_after-next.ensures) in
    omega (arith, number_fits _ _ _ _ c.nested_reply.result at (omega arith) low c.nested_reply.ensures.label)

pub nested_reply-requires : goal.nested_reply-requires
nested_reply-requires t c =
    let at = copies t (goal.at.nested_reply-requires t c).After-copy_size-size in
    let is_rests = c.as_slice.ensures ∙ c.rests_of-rests.ensures in
    let rests = rests_are _ _ _ c.in-Two.digit c.next_after-next.result c.args.others.now c.as_slice.result.now at
    c.in-Two.ensures.1 c.next_after-next.ensures is_rests in
    let good = good_if_rests_are _ _ _ c.in-Two.digit c.next_after-next.result c.args.others.now c.as_slice.result.now
    at (omega (arith, c.requires.few)) c.in-Two.ensures.1 c.next_after-next.ensures is_rests in (
      omega arith,
      (
        (omega arith, omega arith),
        (omega (arith, rests.fewer, c.requires.few), (rests.below, good.1 c.requires.good)),
      ),
    )

pub unreachable-requires : goal.unreachable-requires
unreachable-requires t c =
    let at = copies t (goal.at.unreachable-requires t c).After-copy_size-size in
    not_good_if_three _ _ _ c.args.others.now at c.in-Three.ensures c.requires.good

pub returns-then-levels-eq1 : goal.returns-then-levels-eq1
returns-then-levels-eq1 t c =
    let is = reply_without_digits c.args.levels c.args.others.now (omega arith) in
    let does = reply_does c.args.levels _ c.args.others.now c.requires.few c.requires.labels is in
    record { label = one-le-pow _ 3 (omega arith); reply = is; dominates = does.0; good = does.1 }

pub returns-in-Empty : goal.returns-in-Empty
returns-in-Empty t c =
    let at = copies t (goal.at.returns-in-Empty t c).After-copy_size-size in
    let is = reply_to_none _ _ _ c.args.others.now at c.in-Empty.ensures in
    let does = reply_does c.args.levels 0 c.args.others.now c.requires.few c.requires.labels is in
    record { label = one-le-pow _ 3 (omega arith); reply = is; dominates = does.0; good = does.1 }

pub returns-in-One : goal.returns-in-One
returns-in-One t c =
    let at = copies t (goal.at.returns-in-One t c).After-copy_size-size in
    let label = number_below _ _ _ c.next_after.result 0 at (omega (arith, c.next_after.ensures))
    (one-le-pow _ 3 (omega arith)) in
    let is = reply_to_one _ _ _ c.in-One.digit c.next_after.result c.args.others.now at c.in-One.ensures.1
    c.in-One.ensures.2 c.next_after.ensures in
    let does = reply_does c.args.levels _ c.args.others.now c.requires.few c.requires.labels is in
    record { label = omega (arith, label); reply = is; dominates = does.0; good = does.1 }

pub returns-in-Two : goal.returns-in-Two
returns-in-Two t c =
    let at = copies t (goal.at.returns-in-Two t c).After-copy_size-size in
    let next = c.next_after-next.result in
    let label = number_below _ _ _ next c.nested_reply.result at
    (omega (arith, c.next_after-next.ensures)) c.nested_reply.ensures.label in
    let is = reply_to_two _ _ _ c.in-Two.digit next c.nested_reply.result c.args.others.now c.as_slice.result.now at
    c.in-Two.ensures.1 c.next_after-next.ensures
    (c.as_slice.ensures ∙ c.rests_of-rests.ensures) c.nested_reply.ensures.label c.nested_reply.ensures.reply in
    let does = reply_does c.args.levels _ c.args.others.now c.requires.few c.requires.labels is in
    record { label = label; reply = is; dominates = does.0; good = does.1 }
