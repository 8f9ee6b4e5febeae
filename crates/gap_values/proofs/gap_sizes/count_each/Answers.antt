use Rattle.std.proofs.Common.{◌≡◌, ◌+◌, ◌-◌, ℕ, cond, nat_eq, length, subst, inl, inr, arith}
use Rattle.std.proofs.lemmas.Bool.{cases_eq}
use Rattle.board_text.proofs.Cited.{few_places}
use Rattle.classes.specs.Sums.{sum_below}
use Rattle.classes.proofs.Cited.{sum-zero, place-low}
use Rattle.gap_values.specs.Inside.Counts.{AreMore, class_word, once, weight_with}
use Rattle.gap_values.proofs.ClassCounts.{member-word-low}
use Rattle.gap_values.proofs.GapCounts.{more-joined, more-none, room-more, terms-few, terms-more, weight-few, weight-is}
use Rattle.gap_values.proofs.gap_sizes.count_each.Goals as goal
use Rattle.gap_values.proofs.gap_sizes.count_each.Goals.{At-loop-place, After-of}

abbrev so_far : (c : At-loop-place) → ℕ → ℕ → ℕ
so_far c bound wanted = sum_below bound
    (λ x. cond (nat_eq (class_word c.args.numbers.now c.args.words.now c.args.gap.now.held x) wanted)
    (weight_with c.args.weights.now c.args.gap.now.size x) 0)

pub loop-place-init : goal.loop-place-init
loop-place-init c = more-none c.args.sizes.now
    (λ wanted. sum_below 0
    (λ x. cond (nat_eq (class_word c.args.numbers.now c.args.words.now c.args.gap.now.held x) wanted)
    (weight_with c.args.weights.now c.args.gap.now.size x) 0))
    (λ wanted. sum-zero
    (λ x. cond (nat_eq (class_word c.args.numbers.now c.args.words.now c.args.gap.now.held x) wanted)
    (weight_with c.args.weights.now c.args.gap.now.size x) 0))

pub count-requires-clause-word : goal.count-requires-clause-word
count-requires-clause-word c = λ some. elim (cases_eq c.first_of_member-word.result 4294967295) [
  | inl top ↦ inl top
  | inr differs ↦
      let less = member-word-low c.args.numbers.now c.args.words.now c.args.gap.now c.loop-place.place
      c.first_of_member-word.result (length c.args.sizes.now.finite.items) c.requires.gap c.loop-place-test.true
      c.requires.words c.requires.above.above c.first_of_member-word.ensures differs in
      let size = c.loop-place.invariant.size in
      inr (omega (arith, less, size))
]

weight : (c : After-of) → c.of.result ≡ weight_with c.args.weights.now c.args.gap.now.size c.loop-place.place
weight c = weight-is c.args.weights.now c.args.gap.now.size c.loop-place.place c.of.result c.loop-place-test.true
    c.of.ensures.before c.of.ensures.last

pub count-requires-clause-room : goal.count-requires-clause-room
count-requires-clause-room c =
    let at = goal.at.count-requires-clause-room c in
    let is = weight at.After-of in
    let few = weight-few c.args.weights.now c.args.gap.now.size c.loop-place.place c.requires.weights in
    let low = place-low c.args.numbers.now (c.args.numbers.now.pebbles - 1) c.args.gap.now c.requires.gap
    c.loop-place.place c.loop-place-test.true in
    let places = few_places c.args.numbers.now c.requires.gap.is_board in (
      300000000000000000 + 185040,
      room-more c.args.sizes.now c.loop-place.sizes (so_far at.At-loop-place c.loop-place.place) 300000000000000000
          185040 c.requires.room c.loop-place.invariant (λ wanted.
          let small = terms-few
          (λ x. nat_eq (class_word c.args.numbers.now c.args.words.now c.args.gap.now.held x) wanted)
          c.args.weights.now c.args.gap.now.size c.loop-place.place c.requires.weights in
          omega (arith, small, low, places)),
      omega (arith, is, few),
    )

pub loop-place-preserved : goal.loop-place-preserved
loop-place-preserved c =
    let at = goal.at.loop-place-preserved c in
    more-joined c.args.sizes.now c.loop-place.sizes c.count.new.self (so_far at.At-loop-place c.loop-place.place)
    (once c.first_of_member-word.result c.of.result) (so_far at.At-loop-place (c.loop-place.place + 1))
    c.loop-place.invariant c.count.ensures (λ wanted.
    terms-more c.args.numbers.now c.args.words.now c.args.gap.now.held c.args.weights.now c.args.gap.now.size
    c.loop-place.place c.first_of_member-word.result c.of.result wanted c.first_of_member-word.ensures
    (weight at.After-of))

pub returns : goal.returns
returns c =
    let all : c.loop-place.place ≡ c.args.gap.now.size =
    omega (arith, c.loop-place.auto.place-end, c.loop-place-test.false) in
    subst (λ n. AreMore c.args.sizes.now c.loop-place.sizes
    (λ wanted. so_far (goal.at.returns c).At-loop-place n wanted)) all c.loop-place.invariant
