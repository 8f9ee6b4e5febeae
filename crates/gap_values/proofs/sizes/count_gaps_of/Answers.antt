use Rattle.std.proofs.Common.{◌≡◌, ◌∙◌, ◌↔◌, ◌+◌, ◌-◌, ◌<◌, ◌≤◌, ℕ, List, true, length, sym, subst, inl, inr}
use Rattle.std.proofs.Common.{arith, refl, rules}
use Rattle.std.proofs.lemmas.Bool.{cases_lt, cases_eq}
use Rattle.board_text.specs.PlainBoard.{PlainBoard, places}
use Rattle.board_text.specs.Domination.{has_bit}
use Rattle.board_text.specs.declared.board.TheConstants.{MAX_LABELS}
use Rattle.board_text.proofs.Cited.{few_places, labels_and_places}
use Rattle.classes.proofs.Cited.{least-within, held-class, held-long, IsOwnFamily, own-family}
use Rattle.classes.specs.declared.families.Family.{Family}
use Rattle.gap_values.specs.Inside.Counts.{AreMore, AreSmallWeights, AreSizesBetween, IsAboveRounds, made_by}
use Rattle.classes.specs.FamilyWalks.{IsFamilyOf, IsGapOf}
use Rattle.gap_values.specs.Inside.FamilyWeights.{AreFamilyWeights}
use Rattle.gap_values.specs.Inside.Sets.{AreLabelsUpTo}
use Rattle.gap_values.proofs.GapCounts.{gap-step, room-between}
use Rattle.gap_values.proofs.Weighing.{gap-size}
use Rattle.gap_values.proofs.sizes.count_gaps_of.Given.{Over}
use Rattle.gap_values.proofs.sizes.count_gaps_of.Goals as goal
use Rattle.gap_values.proofs.sizes.count_gaps_of.Goals.{Start, After-of-own, then-least-places, else-least-places}

module _ (g : Over) (c : Start g) where
  long : length c.args.family.now.held ≡ c.args.numbers.now.pebbles - 2
  long = held-long c.args.numbers.now (c.args.numbers.now.pebbles - 2) c.args.family.now c.requires.family

  own : IsFamilyOf c.args.numbers.now (length c.args.family.now.held) c.args.family.now
  own = subst (λ n. IsFamilyOf c.args.numbers.now n c.args.family.now) (sym long) c.requires.family

  few : length c.args.family.now.held + 1 < c.args.numbers.now.pebbles
  few = let size = long in omega (arith, size, c.requires.some)

  one : length c.args.family.now.held + 1 ≡ c.args.numbers.now.pebbles - 1
  one = let size = long in omega (arith, size, c.requires.some)

  within : c.args.family.now.size ≤ places c.args.numbers.now
  within =
      let most = least-within (places c.args.numbers.now) c.args.family.now.held
      (held-class c.args.numbers.now (length c.args.family.now.held) c.args.family.now own).falls in
      omega (arith, most, c.requires.family.size_is)

  size-few : c.args.family.now.size ≤ 257
  size-few = let most = few_places c.args.numbers.now c.requires.family.is_board in omega (arith, most, within)

pub gap_weights-weights-requires : goal.gap_weights-weights-requires
gap_weights-weights-requires g c =
    let at = (goal.at.gap_weights-weights-requires g c).Start in (c.args.numbers.now, few g at, own g at)

pub lowest_member-lowest-requires-clause-small : goal.lowest_member-lowest-requires-clause-small
lowest_member-lowest-requires-clause-small g c = few g (goal.at.lowest_member-lowest-requires-clause-small g c).Start

pub lowest_member-lowest-requires-clause-family : goal.lowest_member-lowest-requires-clause-family
lowest_member-lowest-requires-clause-family g c = own g (goal.at.lowest_member-lowest-requires-clause-family g c).Start

pub overflow_cast-low : goal.overflow_cast-low
overflow_cast-low g c =
    let most = size-few g (goal.at.overflow_cast-low g c).Start in
    let small : c.args.low - c.args.family.now.start ≤ 256 =
    omega (arith, most, c.requires.low, c.requires.order, c.requires.high) in
    search (rules, small)

pub below-upto-requires : goal.below-upto-requires
below-upto-requires g c =
    let size = within g (goal.at.below-upto-requires g c).Start in
    let most = (labels_and_places c.args.numbers.now).1 in
    omega (arith, size, most, c.requires.fits, c.requires.low, c.requires.order, c.requires.high)

pub loop-number-init : goal.loop-number-init
loop-number-init g c =
    let size = within g (goal.at.loop-number-init g c).Start in
    record {
      upto = λ x small. (
        λ has. (let under = (c.below-upto.ensures x small).0 has in (
          under,
          omega (arith, under, size, c.requires.low, c.requires.order, c.requires.high),
        )),
        λ under. (c.below-upto.ensures x small).1 under.0,
      );
      size = refl;
      counted = λ from between. between;
    }

pub overflow_add-least : goal.overflow_add-least
overflow_add-least g c =
    let most = size-few g (goal.at.overflow_add-least g c).Start in
    let small : c.loop-number.number - c.args.family.now.start + 1 ≤ 257 =
    omega (arith, most, c.requires.low, c.requires.high, c.loop-number-test.true, c.loop-number.auto.number) in
    search (rules, small)

pub with-upto-requires : goal.with-upto-requires
with-upto-requires g c =
    let most = (labels_and_places c.args.numbers.now).1 in
    omega (arith, most, c.requires.fits, c.if-least-places.true, c.places.ensures.value)

pub overflow_cast-least : goal.overflow_cast-least
overflow_cast-least g c =
    let most = size-few g (goal.at.overflow_cast-least g c).Start in
    let small : c.loop-number.number - c.args.family.now.start ≤ 256 =
    omega (arith, most, c.requires.low, c.requires.high, c.loop-number-test.true, c.loop-number.auto.number) in
    search (rules, small)

module _ (g : Over) (c : After-of-own g) (at : Start g) where
  abbrev least : ℕ
  least = c.loop-number.number - c.args.family.now.start

  low : least < c.args.family.now.size
  low = omega (arith, c.requires.low, c.requires.high, c.loop-number-test.true, c.loop-number.auto.number)

  upto-next : (x : ℕ) → x < MAX_LABELS → (has_bit c.if-least-places.upto x ≡ true)
      ↔ ((x < least + 1) × (x + 1 < places c.args.numbers.now))
  upto-next x small = elim c.if-least-places.branch [
    | then-least-places w ↦ rw w.upto-is (
      λ has. elim ((w.with-upto.ensures x small).0 has) [
        | inl same ↦ (omega (arith, same), omega (arith, same, w.if-least-places.true, c.places.ensures.value))
        | inr was ↦ (let under = (c.loop-number.invariant.upto x small).0 was in (omega (arith, under.0), under.1))
      ],
      λ under. (w.with-upto.ensures x small).1 (elim (cases_eq x least) [
        | inl same ↦ inl same
        | inr differ ↦ inr ((c.loop-number.invariant.upto x small).1 (omega (arith, under.0, differ), under.1))
      ]),
    )
    | else-least-places w ↦ rw w.upto-is (
      λ has. (let under = (c.loop-number.invariant.upto x small).0 has in (omega (arith, under.0), under.1)),
      λ under. (c.loop-number.invariant.upto x small).1
          (omega (arith, under.0, under.1, w.if-least-places.false, c.places.ensures.value), under.1),
    )
  ]

  upto-is : least + 1 < places c.args.numbers.now → AreLabelsUpTo least c.if-least-places.upto
  upto-is more x small = (
    λ has. (let under = (upto-next x small).0 has in omega (arith, under.0)),
    λ most. (upto-next x small).1 (omega (arith, most), omega (arith, most, more)),
  )

-- the family of the gap, and its weights
module _ (g : Over) (c : After-of-own g) (begun : IsFamilyOf c.args.numbers.now (length c.args.family.now.held)
    c.args.family.now)
    (few : length c.args.family.now.held + 1 < c.args.numbers.now.pebbles)
    (low : c.loop-number.number - c.args.family.now.start < c.args.family.now.size) where
  made : IsOwnFamily c.args.numbers.now (length c.args.family.now.held) c.args.family.now
      (c.loop-number.number - c.args.family.now.start)
  made = own-family c.args.numbers.now (length c.args.family.now.held) c.args.family.now begun
      (c.loop-number.number - c.args.family.now.start) low

  is-gap : IsGapOf c.args.numbers.now c.args.family.now (c.loop-number.number - c.args.family.now.start) made.own
  is-gap = record { inside = low; is_family = begun; few = few; is_gap = made.is_family; held_is = made.held_is }

  weigh : AreFamilyWeights c.args.numbers.now (length c.args.family.now.held + 1) made.own c.of-own.result.now
  weigh = elim (cases_lt (c.loop-number.number - c.args.family.now.start + 1) c.args.family.now.size) [
    | inl more ↦
        subst (AreFamilyWeights c.args.numbers.now (length c.args.family.now.held + 1) made.own)
        (sym (c.of-own.ensures.before more))
        (c.gap_weights-weights.ensures.before c.args.numbers.now made.own
        (c.loop-number.number - c.args.family.now.start) is-gap more)
    | inr end ↦
        let last : c.loop-number.number - c.args.family.now.start + 1 ≡ c.args.family.now.size = omega (
          arith,
          low,
          end,
        ) in
        subst (AreFamilyWeights c.args.numbers.now (length c.args.family.now.held + 1) made.own)
        (sym (c.of-own.ensures.last last))
        (c.gap_weights-weights.ensures.last c.args.numbers.now made.own
        (c.loop-number.number - c.args.family.now.start) is-gap last)
  ]

pub count_gap-requires : goal.count_gap-requires
count_gap-requires g c =
    let at = goal.at.count_gap-requires g c in
    let is = weigh g at.After-of-own (own g at.Start) (few g at.Start) (low g at.After-of-own at.Start) in
    let lowest = subst (λ n. IsFamilyOf c.args.numbers.now n c.lowest_member-lowest.result) (one g at.Start)
    c.lowest_member-lowest.ensures.family in
    let weights : AreSmallWeights c.of-own.result.now = record { each = is.few; last = is.last_few } in
    let above = subst (IsAboveRounds c.args.rounds.now.words.items) (sym c.loop-number.invariant.size)
    c.requires.above in
    let room = room-between c.args.numbers.now c.args.rounds.now.words.items (length c.args.sizes.now.finite.items)
    c.requires.counted.0 c.loop-number.number c.loop-number.sizes c.requires.family.is_board
    (c.loop-number.invariant.counted c.requires.counted.0 c.requires.counted.1) in (
      omega (arith, c.requires.narrow),
      (
        omega (arith, c.requires.narrow),
        (
          c.requires.narrow,
          (
            c.requires.fits,
            (
              c.requires.some,
              (
                c.requires.rounds,
                (
                  c.requires.family,
                  (
                    lowest,
                    (
                      c.lowest_member-lowest.ensures.held,
                      (low g at.After-of-own at.Start, (upto-is g at.After-of-own at.Start, (weights, (above, room)))),
                    ),
                  ),
                ),
              ),
            ),
          ),
        ),
      ),
    )

pub loop-number-preserved : goal.loop-number-preserved
loop-number-preserved g c =
    let at = goal.at.loop-number-preserved g c in
    let b : PlainBoard = c.args.numbers.now in
    let words : List ℕ = c.args.rounds.now.words.items in
    let v : ℕ = c.loop-number.number - c.args.family.now.start in
    let v_low = low g at.After-of-own at.Start in
    let upto = upto-next g at.After-of-own at.Start in
    let is = made g at.After-of-own (own g at.Start) (few g at.Start) v_low in
    let member : Family = is.own in
    let gap = is-gap g at.After-of-own (own g at.Start) (few g at.Start) v_low in
    let size : member.size ≡ v + 1 = gap-size b c.args.family.now v member gap in
    let number : member.number ≡ c.loop-number.number =
    (let made = is.number_is in omega (arith, made, c.requires.low, c.loop-number.auto.number)) in
    let more : AreMore c.loop-number.sizes c.count_gap.new.sizes
    (made_by b words member.held member.size c.of-own.result.now) =
    subst (λ n. AreMore c.loop-number.sizes c.count_gap.new.sizes (made_by b words member.held n c.of-own.result.now))
    (sym size)
    (subst (λ (l : List ℕ). AreMore c.loop-number.sizes c.count_gap.new.sizes
    (made_by b words l (v + 1) c.of-own.result.now)) (sym is.held_is) c.count_gap.ensures) in
    record {
      upto = λ x small. (
        λ has. (let under = (upto x small).0 has in (
          omega (arith, under.0, c.requires.low, c.loop-number.auto.number),
          under.1,
        )),
        λ under. (upto x small).1 (omega (arith, under.0, c.requires.low, c.loop-number.auto.number), under.1),
      );
      size = (let same = c.count_gap.ensures.size in same ∙ c.loop-number.invariant.size);
      counted = λ from between.
          gap-step b words member c.of-own.result.now
          (subst (λ n. IsFamilyOf b n member) (one g at.Start) is.is_family)
          (subst (λ n. AreFamilyWeights b n member c.of-own.result.now) (one g at.Start)
          (weigh g at.After-of-own (own g at.Start) (few g at.Start) v_low))
          (length c.args.sizes.now.finite.items) from c.loop-number.number c.loop-number.sizes c.count_gap.new.sizes
          number (c.loop-number.invariant.counted from between) more;
    }

pub returns : goal.returns
returns g c = λ from between.
    let all : c.loop-number.number ≡ c.args.high =
    omega (arith, c.loop-number.auto.number-end, c.loop-number-test.false, c.requires.order) in
    subst (λ n. AreSizesBetween c.args.numbers.now c.args.rounds.now.words.items
    (length c.args.sizes.now.finite.items) from n c.loop-number.sizes) all
    (c.loop-number.invariant.counted from between)
