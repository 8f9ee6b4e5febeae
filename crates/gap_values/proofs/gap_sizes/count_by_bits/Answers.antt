use Rattle.std.proofs.Common.{◌≡◌, ◌∙◌, ◌+◌, ◌-◌, ◌*◌, ◌<◌, ℕ, not, cond, ap, inl, inr, arith}
use mir.Val.{bool_byte}
use Rattle.std.proofs.lemmas.Bool.{cases_Bool, cases_lt, both_ways}
use Rattle.board_text.specs.Domination.{has_bit}
use Rattle.gap_values.specs.Inside.Counts.{made_by_bits, once}
use Rattle.gap_values.proofs.GapCounts.{bits_below, bits-all, bits-counted, bits-few, byte-few, byte-is, byte-not}
use Rattle.gap_values.proofs.GapCounts.{more-joined, once-few, product-few, room-more, some-free, without-last}
use Rattle.gap_values.proofs.gap_sizes.count_by_bits.Given.{Over}
use Rattle.gap_values.proofs.gap_sizes.count_by_bits.Goals as goal
use Rattle.gap_values.proofs.gap_sizes.count_by_bits.Goals.{After-len, After-len-forever}

free-below : (g : Over) (c : After-len g) → c.len.result ≡ bits_below c.args.positive.now c.args.least
free-below g c =
    bits-counted c.args.positive.now c.without.result c.args.least c.len.result
    (omega (arith, c.requires.least, c.requires.narrow)) c.requires.positive
    (without-last c.args.positive.now c.below.result c.with-only.result c.without.result c.args.least c.below.ensures
    c.with-only.ensures c.without.ensures) c.len.ensures

lasting-below : (g : Over) (c : After-len-forever g) → c.len-forever.result ≡ bits_below c.args.lasting.now c.args.least
lasting-below g c =
    bits-counted c.args.lasting.now c.without-2.result c.args.least c.len-forever.result
    (omega (arith, c.requires.least, c.requires.narrow)) c.requires.lasting
    (without-last c.args.lasting.now c.below.result c.with-only.result c.without-2.result c.args.least c.below.ensures
    c.with-only.ensures c.without-2.ensures) c.len-forever.ensures

pub overflow_sub-zero : goal.overflow_sub-zero
overflow_sub-zero g c =
    let is = free-below g (goal.at.overflow_sub-zero g c).After-len in
    let few = bits-few c.args.positive.now c.args.least in
    omega (arith, is, few)

pub count-requires-clause-word : goal.count-requires-clause-word
count-requires-clause-word g c = λ some. inr (elim (cases_Bool (has_bit c.args.positive.now c.args.least)) [
  | inr free ↦ c.requires.some c.args.least (omega arith)
      (λ held. both_ways (has_bit c.args.positive.now c.args.least) free held)
  | inl held ↦
      let is = free-below g (goal.at.count-requires-clause-word g c).After-len in
      elim (cases_lt c.len.result c.args.least) [
        | inl less ↦
            let place = some-free c.args.positive.now c.args.least (omega (arith, is, less)) in
            let under : place.0 < c.args.least = place.1 in
            c.requires.some place.0 (omega arith) place.2
        | inr all ↦
            let none : c.args.least - c.len.result ≡ 0 = omega arith in
            let first : c.args.weights.now.each * (c.args.least - c.len.result) ≡ 0 =
            ap (λ n. c.args.weights.now.each * n) none ∙ grind arith in
            let byte : bool_byte (not c.contains.result) ≡ 0 =
            byte-not c.contains.result ∙ ap (λ t. cond t 0 1) (c.contains.ensures ∙ held) in
            let second : c.args.weights.now.last * bool_byte (not c.contains.result) ≡ 0 =
            ap (λ n. c.args.weights.now.last * n) byte ∙ grind arith in
            absurd (omega (arith, some, first, second))
      ]
])

pub count-requires-clause-room : goal.count-requires-clause-room
count-requires-clause-room g c =
    let first = product-few c.args.weights.now.each (c.args.least - c.len.result) 720 256 c.requires.weights.each
    (omega (arith, c.requires.least, c.requires.narrow)) in
    let second = product-few c.args.weights.now.last (bool_byte (not c.contains.result)) 720 1 c.requires.weights.last
    (byte-few (not c.contains.result)) in
    (300000000000000000, c.requires.room, omega (arith, first, second))

pub count-requires-2-clause-room : goal.count-requires-2-clause-room
count-requires-2-clause-room g c =
    let is = lasting-below g (goal.at.count-requires-2-clause-room g c).After-len-forever in
    let few = bits-few c.args.lasting.now c.args.least in
    let first = product-few c.args.weights.now.each (c.args.least - c.len.result) 720 256 c.requires.weights.each
    (omega (arith, c.requires.least, c.requires.narrow)) in
    let second = product-few c.args.weights.now.last (bool_byte (not c.contains.result)) 720 1 c.requires.weights.last
    (byte-few (not c.contains.result)) in
    let third = product-few c.args.weights.now.each c.len-forever.result 720 256 c.requires.weights.each
    (omega (arith, is, few, c.requires.least, c.requires.narrow)) in
    let fourth = product-few c.args.weights.now.last (bool_byte c.contains-ends_lasting.result) 720 1
    c.requires.weights.last (byte-few c.contains-ends_lasting.result) in
    let more : ℕ = c.args.weights.now.each * (c.args.least - c.len.result)
    + c.args.weights.now.last * bool_byte (not c.contains.result) in (
      300000000000000000 + 185040,
      room-more c.args.sizes.now c.count.new.self (once 0 more) 300000000000000000 185040 c.requires.room
          c.count.ensures (λ word. let most = once-few 0 more word in omega (arith, most, first, second)),
      omega (arith, third, fourth),
    )

pub returns : goal.returns
returns g c =
    let at = goal.at.returns g c in
    let zero_is = free-below g at.After-len in
    let forever_is = lasting-below g at.After-len-forever in
    let zero : ℕ = c.args.weights.now.each * (c.args.least - c.len.result)
    + c.args.weights.now.last * bool_byte (not c.contains.result) in
    let forever : ℕ = c.args.weights.now.each * c.len-forever.result
    + c.args.weights.now.last * bool_byte c.contains-ends_lasting.result in
    more-joined c.args.sizes.now c.count.new.self c.count-2.new.self (once 0 zero) (once 4294967295 forever)
    (made_by_bits c.args.positive.now c.args.lasting.now (c.args.least + 1) c.args.weights.now) c.count.ensures
    c.count-2.ensures (λ wanted.
    bits-all c.args.positive.now c.args.lasting.now c.args.weights.now c.args.least (c.args.least - c.len.result)
    c.len-forever.result (bool_byte (not c.contains.result)) (bool_byte c.contains-ends_lasting.result) wanted
    (ap (λ n. c.args.least - n) zero_is) forever_is
    (byte-not c.contains.result ∙ ap (λ t. cond t 0 1) c.contains.ensures)
    (byte-is c.contains-ends_lasting.result ∙ ap (λ t. cond t 1 0) c.contains-ends_lasting.ensures))
