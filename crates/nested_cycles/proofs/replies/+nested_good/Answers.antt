use Rattle.std.proofs.Common.{refl, ◌∙◌, arith}
use Rattle.std.proofs.lemmas.Bool.{false≢true}
use Rattle.nested_cycles.proofs.Levels.{copies_at, some_size, low_firsts, good_if_one, good_if_rests_are}
use Rattle.nested_cycles.proofs.Levels.{not_good_if_three, rests_are}
use Rattle.nested_cycles.proofs.replies.+nested_good.Goals as goal

pub copies_of-requires-clause-size : goal.copies_of-requires-clause-size
copies_of-requires-clause-size t c =
    some_size _ _ _ (copies_at c.args.levels c.copy_size-size.result (omega arith) c.copy_size-size.ensures)

pub copies_of-requires-clause-labels : goal.copies_of-requires-clause-labels
copies_of-requires-clause-labels t c =
    low_firsts _ _ _ c.args.words.now
    (copies_at c.args.levels c.copy_size-size.result (omega arith) c.copy_size-size.ensures) c.requires.labels

pub rests_of-rests-requires-clause-size : goal.rests_of-rests-requires-clause-size
rests_of-rests-requires-clause-size t c =
    some_size _ _ _ (copies_at c.args.levels c.copy_size-size.result (omega arith) c.copy_size-size.ensures)

pub nested_good-requires : goal.nested_good-requires
nested_good-requires t c =
    let at = copies_at c.args.levels c.copy_size-size.result (omega arith) c.copy_size-size.ensures in
    let rests = rests_are _ _ _ c.in-Two.digit c.next_after.result c.args.words.now c.as_slice.result.now at
    c.in-Two.ensures.1 c.next_after.ensures (c.as_slice.ensures ∙ c.rests_of-rests.ensures) in
    (omega arith, ((omega arith, omega arith), (omega (arith, rests.fewer, c.requires.few), rests.below)))

pub returns-in-One : goal.returns-in-One
returns-in-One t c =
    let at = copies_at c.args.levels c.copy_size-size.result (omega arith) c.copy_size-size.ensures in
    (λ holds. good_if_one _ _ _ c.in-One.field-0 c.args.words.now at c.in-One.ensures.1, λ good. refl)

pub returns-in-Two : goal.returns-in-Two
returns-in-Two t c =
    let at = copies_at c.args.levels c.copy_size-size.result (omega arith) c.copy_size-size.ensures in
    let by_rests = good_if_rests_are _ _ _ c.in-Two.digit c.next_after.result c.args.words.now c.as_slice.result.now at
    (omega (arith, c.requires.few)) c.in-Two.ensures.1 c.next_after.ensures
    (c.as_slice.ensures ∙ c.rests_of-rests.ensures) in
    (λ holds. by_rests.0 (c.nested_good.ensures.0 holds), λ good. c.nested_good.ensures.1 (by_rests.1 good))

pub returns-in-Three : goal.returns-in-Three
returns-in-Three t c =
    let at = copies_at c.args.levels c.copy_size-size.result (omega arith) c.copy_size-size.ensures in (
      λ holds. absurd (false≢true holds),
      λ good. absurd (not_good_if_three _ _ _ c.args.words.now at c.in-Three.ensures good),
    )
