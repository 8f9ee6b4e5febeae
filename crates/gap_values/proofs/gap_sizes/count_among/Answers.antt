use Rattle.std.proofs.Common.{◌≡◌, ◌∙◌, ◌+◌, ◌-◌, ℕ, cond, nat_eq, length, subst, sym, inl, inr, arith}
use Rattle.std.proofs.lemmas.Bool.{cases_eq}
use Rattle.board_text.specs.Domination.{has_bit}
use Rattle.board_text.proofs.Cited.{few_places}
use Rattle.classes.specs.Sums.{sum_below}
use Rattle.classes.proofs.Cited.{sum-zero, place-low}
use Rattle.gap_values.specs.Inside.Counts.{AreMore, class_word, once, weight_with}
use Rattle.gap_values.proofs.ClassCounts.{member-word-low}
use Rattle.gap_values.proofs.GapCounts.{more-joined, more-none, more-same, room-more, among-few, among-more, among-same}
use Rattle.gap_values.proofs.GapCounts.{weight-few, weight-is}
use Rattle.gap_values.proofs.gap_sizes.count_among.Given.{Over}
use Rattle.gap_values.proofs.gap_sizes.count_among.Goals as goal
use Rattle.gap_values.proofs.gap_sizes.count_among.Goals.{At-loop-place, After-of, then-contains, else-contains}

abbrev so_far : (g : Over) (c : At-loop-place g) → ℕ → ℕ → ℕ
so_far g c bound wanted = sum_below bound (λ x. cond (has_bit c.args.among.now x)
    (cond (nat_eq (class_word c.args.numbers.now c.args.words.now c.args.gap.now.held x) wanted)
    (weight_with c.args.weights.now c.args.gap.now.size x) 0) 0)

pub loop-place-init : goal.loop-place-init
loop-place-init g c = more-none c.args.sizes.now
    (λ wanted. sum_below 0 (λ x. cond (has_bit c.args.among.now x)
    (cond (nat_eq (class_word c.args.numbers.now c.args.words.now c.args.gap.now.held x) wanted)
    (weight_with c.args.weights.now c.args.gap.now.size x) 0) 0))
    (λ wanted. sum-zero (λ x. cond (has_bit c.args.among.now x)
    (cond (nat_eq (class_word c.args.numbers.now c.args.words.now c.args.gap.now.held x) wanted)
    (weight_with c.args.weights.now c.args.gap.now.size x) 0) 0))

pub count-requires-clause-word : goal.count-requires-clause-word
count-requires-clause-word g c = λ some. elim (cases_eq c.first_of_member-word.result 4294967295) [
  | inl top ↦ inl top
  | inr differs ↦
      let less = member-word-low c.args.numbers.now c.args.words.now c.args.gap.now c.loop-place.place
      c.first_of_member-word.result (length c.args.sizes.now.finite.items) c.requires.gap c.loop-place-test.true
      c.requires.words c.requires.above.above c.first_of_member-word.ensures differs in
      let size = c.loop-place.invariant.size in
      inr (omega (arith, less, size))
]

weight : (g : Over) (c : After-of g) → c.of.result
    ≡ weight_with c.args.weights.now c.args.gap.now.size c.loop-place.place
weight g c = weight-is c.args.weights.now c.args.gap.now.size c.loop-place.place c.of.result c.loop-place-test.true
    c.of.ensures.before c.of.ensures.last

pub count-requires-clause-room : goal.count-requires-clause-room
count-requires-clause-room g c =
    let at = goal.at.count-requires-clause-room g c in
    let is = weight g at.After-of in
    let few = weight-few c.args.weights.now c.args.gap.now.size c.loop-place.place c.requires.weights in
    let low = place-low c.args.numbers.now (c.args.numbers.now.pebbles - 1) c.args.gap.now c.requires.gap
    c.loop-place.place c.loop-place-test.true in
    let places = few_places c.args.numbers.now c.requires.gap.is_board in (
      300000000000000000 + 185040,
      room-more c.args.sizes.now c.loop-place.sizes (so_far g at.At-loop-place c.loop-place.place) 300000000000000000
          185040 c.requires.room c.loop-place.invariant (λ wanted.
          let small = among-few c.args.among.now
          (λ x. nat_eq (class_word c.args.numbers.now c.args.words.now c.args.gap.now.held x) wanted)
          c.args.weights.now c.args.gap.now.size c.loop-place.place c.requires.weights in
          omega (arith, small, low, places)),
      omega (arith, is, few),
    )

pub loop-place-preserved : goal.loop-place-preserved
loop-place-preserved g c =
    let at = goal.at.loop-place-preserved g c in
    elim c.if-contains.branch [
      | then-contains w ↦ rw w.sizes-is
          (more-joined c.args.sizes.now c.loop-place.sizes w.count.new.self
          (so_far g at.At-loop-place c.loop-place.place)
          (once w.first_of_member-word.result w.of.result) (so_far g at.At-loop-place (c.loop-place.place + 1))
          c.loop-place.invariant w.count.ensures (λ wanted.
          among-more c.args.numbers.now c.args.words.now c.args.gap.now.held c.args.among.now c.args.weights.now
          c.args.gap.now.size c.loop-place.place w.first_of_member-word.result w.of.result wanted
          (let held = c.contains.ensures in let is = w.if-contains.true in cc) w.first_of_member-word.ensures
          (weight-is c.args.weights.now c.args.gap.now.size c.loop-place.place w.of.result c.loop-place-test.true
          w.of.ensures.before w.of.ensures.last)))
      | else-contains w ↦ rw w.sizes-is
          (more-same c.args.sizes.now c.loop-place.sizes (so_far g at.At-loop-place c.loop-place.place)
          (so_far g at.At-loop-place (c.loop-place.place + 1)) c.loop-place.invariant (λ wanted.
          among-same c.args.among.now c.loop-place.place
          (λ x. cond (nat_eq (class_word c.args.numbers.now c.args.words.now c.args.gap.now.held x) wanted)
          (weight_with c.args.weights.now c.args.gap.now.size x) 0)
          (sym c.contains.ensures ∙ w.if-contains.false)))
    ]

pub returns : goal.returns
returns g c =
    let all : c.loop-place.place ≡ c.args.gap.now.size =
    omega (arith, c.loop-place.auto.place-end, c.loop-place-test.false) in
    subst (λ n. AreMore c.args.sizes.now c.loop-place.sizes
    (λ wanted. so_far g (goal.at.returns g c).At-loop-place n wanted)) all c.loop-place.invariant
