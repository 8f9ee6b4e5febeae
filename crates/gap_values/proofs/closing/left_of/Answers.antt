use Rattle.std.proofs.Common.{◌≡◌, ◌+◌, ◌-◌, ◌<◌, ◌≤◌, [], length, get_or, ap, arith, rules}
use Rattle.std.proofs.lemmas.List.{get_or_read}
use Rattle.gap_values.proofs.ClosingSteps.{before-all, before-begins, before-next}
use Rattle.classes.proofs.Cited.{held-long, rest-below, rest-few}
use Rattle.gap_values.proofs.closing.left_of.Given.{Over}
use Rattle.gap_values.proofs.closing.left_of.Goals as goal
use Rattle.gap_values.proofs.closing.left_of.Goals.{In-loop-index}

module _ (g : Over) (c : In-loop-index g) where
  inside : c.loop-index.index < c.requires.family.0.pebbles - 2
  inside =
      let long = held-long c.requires.family.0 (c.requires.family.0.pebbles - 2) c.args.family.now
      c.requires.family.2 in
      omega (arith, long, ap length c.as_slice-index-end.ensures.value, c.loop-index-test.true)

  low : get_or c.args.family.now.rests c.loop-index.index 0 + c.args.least < length c.args.sets.now
  low =
      let below = rest-below c.requires.family.0 (c.requires.family.0.pebbles - 2)
      c.args.family.now c.requires.family.2 c.args.least c.requires.least c.loop-index.index inside in
      omega (arith, below, c.requires.family.3)

  few : get_or c.args.family.now.rests c.loop-index.index 0 + c.args.least ≤ 288136807515649
  few =
      rest-few c.requires.family.0 (c.requires.family.0.pebbles - 2) c.args.family.now
      c.requires.family.2 c.args.least c.requires.least (omega arith) c.loop-index.index inside

pub overflow_add-list : goal.overflow_add-list
overflow_add-list g c = let most = few g (goal.at.overflow_add-list g c).In-loop-index in search (rules, most)

pub offset_bounds-sets-list : goal.offset_bounds-sets-list
offset_bounds-sets-list g c =
    let under = low g (goal.at.offset_bounds-sets-list g c).In-loop-index in omega (arith, under)

pub bounds-sets-list : goal.bounds-sets-list
bounds-sets-list g c = low g (goal.at.bounds-sets-list g c).In-loop-index

pub loop-index-init : goal.loop-index-init
loop-index-init g c = before-begins c.args.sets.now c.args.family.now c.args.least c.args.common.now

pub loop-index-preserved : goal.loop-index-preserved
loop-index-preserved g c =
    before-next c.args.sets.now c.args.family.now c.args.least c.args.common.now c.loop-index.left
    c.index-sets-list.result
    c.without-left.result c.loop-index.index c.loop-index.invariant c.without-left.ensures
    (get_or_read c.args.sets.now (get_or c.args.family.now.rests c.loop-index.index 0 + c.args.least)
    c.index-sets-list.result (low g (goal.at.loop-index-preserved g c).In-loop-index) c.index-sets-list.is [])

pub returns : goal.returns
returns g c =
    let size = ap length c.as_slice-index-end.ensures.value in
    let all : c.loop-index.index ≡ length c.args.family.now.held =
    omega (arith, size, c.loop-index.auto.index-end, c.loop-index-test.false) in
    before-all c.args.sets.now c.args.family.now c.args.least c.args.common.now c.loop-index.left c.loop-index.index all
    c.loop-index.invariant
