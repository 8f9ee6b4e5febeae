use Rattle.std.proofs.Common.{◌≡◌, ◌∙◌, ◌+◌, ◌-◌, ◌<◌, ℕ, length, get_or, sym, ap, subst, arith, rules}
use Rattle.classes.specs.Classes.{put}
use Rattle.gap_values.specs.Inside.Sets.{IsGapToldTo}
use Rattle.classes.proofs.Cited.{held-long, member-long, others-number, number-last-others}
use Rattle.classes.proofs.Cited.{place-before, place-last, rest-below, rest-few}
use Rattle.gap_values.proofs.TellingSteps.{gap-told-more, gap-told-none}
use Rattle.gap_values.proofs.telling.tell_gap.Given.{Over}
use Rattle.gap_values.proofs.telling.tell_gap.Goals as goal
use Rattle.gap_values.proofs.telling.tell_gap.Goals.{In-loop-index}

inside : (g : Over) (c : In-loop-index g) → c.loop-index.index < c.args.board.now.pebbles - 2
inside g c =
    let long = held-long c.args.board.now (c.args.board.now.pebbles - 2) c.args.family.now
    c.requires.family in
    omega (arith, long, ap length c.as_slice-held.ensures.value, c.loop-index-test.true)

pub overflow_add-list : goal.overflow_add-list
overflow_add-list g c =
    let few = rest-few c.args.board.now (c.args.board.now.pebbles - 2) c.args.family.now
    c.requires.family c.args.least c.requires.least (omega arith) c.loop-index.index
    (inside g (goal.at.overflow_add-list g c).In-loop-index) in
    search (rules, few)

pub tell-requires : goal.tell-requires
tell-requires g c =
    let below = rest-below c.args.board.now (c.args.board.now.pebbles - 2) c.args.family.now c.requires.family
    c.args.least c.requires.least c.loop-index.index (inside g (goal.at.tell-requires g c).In-loop-index) in
    (omega arith, (c.requires.fits, omega (arith, below, c.requires.sets, c.loop-index.invariant.same_length)))

pub tell-requires-2 : goal.tell-requires-2
tell-requires-2 g c =
    let low = c.requires.family.inside in
    (omega arith, (c.requires.fits, omega (arith, low, c.requires.sets, c.loop-index.invariant.same_length)))

pub loop-index-init : goal.loop-index-init
loop-index-init g c =
    gap-told-none c.args.board.now (put c.args.least c.args.family.now.held) c.args.sets.now

pub loop-index-preserved : goal.loop-index-preserved
loop-index-preserved g c =
    let low = inside g (goal.at.loop-index-preserved g c).In-loop-index in
    let is = c.requires.family.is_board in
    let count : ℕ = c.args.board.now.pebbles - 2 in
    let long =
    member-long c.args.board.now count c.args.family.now c.requires.family c.args.least c.requires.least in
    gap-told-more c.args.board.now (put c.args.least c.args.family.now.held) c.loop-index.index
    (get_or c.args.family.now.rests c.loop-index.index 0 + c.args.least)
    (get_or c.as_slice-held.result.now c.loop-index.index 0) c.args.sets.now c.loop-index.sets c.tell.new.sets is
    (omega (arith, low, long))
    (sym (others-number c.args.board.now count c.args.family.now c.requires.family c.args.least c.requires.least
    c.loop-index.index low))
    (ap (λ l. get_or l c.loop-index.index 0) c.as_slice-held.ensures.value
    ∙ sym (place-before c.args.board.now count c.args.family.now c.requires.family c.args.least c.requires.least
    c.loop-index.index low))
    c.loop-index.invariant c.tell.ensures

pub returns : goal.returns
returns g c =
    let is = c.requires.family.is_board in
    let count : ℕ = c.args.board.now.pebbles - 2 in
    let held = held-long c.args.board.now count c.args.family.now c.requires.family in
    let long =
    member-long c.args.board.now count c.args.family.now c.requires.family c.args.least c.requires.least in
    let all : c.loop-index.index ≡ count =
    omega (
      arith,
      c.loop-index-test.false,
      c.loop-index.auto.index-end,
      held,
      ap length c.as_slice-held.ensures.value,
    ) in
    let gap = put c.args.least c.args.family.now.held in
    let end : count + 1 ≡ c.args.board.now.pebbles - 1 = (let some = c.requires.some in omega arith) in
    subst (λ n. IsGapToldTo c.args.board.now gap n c.args.sets.now c.tell-2.new.sets) end
    (gap-told-more c.args.board.now gap count c.args.family.now.number c.args.least c.args.sets.now
    c.loop-index.sets
    c.tell-2.new.sets is (omega (arith, long))
    (sym (number-last-others c.args.board.now count c.args.family.now c.requires.family c.args.least
    c.requires.least))
    (sym (place-last c.args.board.now count c.args.family.now c.requires.family c.args.least c.requires.least))
    (subst (λ n. IsGapToldTo c.args.board.now gap n c.args.sets.now c.loop-index.sets) all
    c.loop-index.invariant)
    c.tell-2.ensures)
