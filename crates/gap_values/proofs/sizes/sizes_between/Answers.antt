use Rattle.std.proofs.Common.{◌≡◌, ◌∙◌, ◌+◌, ◌-◌, ◌<◌, ◌≤◌, ℕ, List, length, get_or, max, min, suc, ap, sym, subst}
use Rattle.std.proofs.Common.{arith, rules}
use Rattle.std.proofs.lemmas.List.{length-replicate, get_or-replicate}
use Rattle.board_text.specs.PlainBoard.{PlainBoard, places}
use Rattle.classes.specs.Families.{least_places}
use Rattle.classes.specs.Numbers.{ways, class_with}
use Rattle.classes.proofs.Cited.{ways-fit, edge-only, family-size, next-start, walk-all, walk-start, walk-within}
use Rattle.classes.proofs.Cited.{walk-zero}
use Rattle.gap_values.specs.Inside.Counts.{AreCounted, AreSizesBetween, IsAboveRounds, IsCountBetween}
use Rattle.classes.specs.FamilyWalks.{IsAtFamily, IsFamilyOf}
use Rattle.gap_values.proofs.ClassCounts.{counting-begins, sizes-few}
use Rattle.gap_values.proofs.sizes.sizes_between.Given.{Over}
use Rattle.gap_values.proofs.sizes.sizes_between.Goals as goal
use Rattle.gap_values.proofs.sizes.sizes_between.Goals.{After-pebbles-fewer, After-family_size-size, After-min-high}
use Rattle.gap_values.proofs.sizes.sizes_between.Goals.{In_ok-finite, In-loop-number, then-low-high, else-low-high}

-- nothing is counted at first
none-counted : (g : Over) (c : In_ok-finite g)
    → AreSizesBetween c.args.numbers.now c.args.rounds.now.words.items c.args.bound
    c.args.from c.args.from (record { finite = c.in_ok-finite.finite; forever = 0 })
none-counted g c = λ low high begin end.
    let b : PlainBoard = c.args.numbers.now in
    let words : List ℕ = c.args.rounds.now.words.items in
    let zeros = c.in_ok-finite.ensures.items_if_clones_equal (λ y e. e) in
    let bound : ℕ = c.args.bound in
    subst (λ n. AreCounted b words bound low n c.in_ok-finite.finite.items 0)
    (edge-only b (b.pebbles - 1) c.args.from low high begin end)
    (record {
      size = ap length zeros ∙ length-replicate {A = ℕ} bound 0;
      each = λ value inside.
          subst (IsCountBetween b words value low low)
          (sym (ap (λ l. get_or l value 0) zeros ∙ get_or-replicate {A = ℕ} bound value 0 0 inside))
          (counting-begins b words value low);
      unending = counting-begins b words 4294967295 low;
    })

some : (g : Over) (c : After-pebbles-fewer g) → 2 ≤ c.args.numbers.now.pebbles
some g c = let least = c.pebbles.ensures.is_board.pebbles.0 in
    omega (arith, least, c.if-pebbles-eq1.false, c.pebbles.ensures.value)

pub loop-number-init : goal.loop-number-init
loop-number-init g c =
    let b : PlainBoard = c.args.numbers.now in
    let at : IsAtFamily b (b.pebbles - 2) 0 c.families-walk.result =
    subst (λ n. IsAtFamily b (n - 2) 0 c.families-walk.result) c.pebbles-fewer.ensures.value c.families-walk.ensures in
    let start : c.families-walk.result.start ≡ 0 = walk-zero b (b.pebbles - 2) c.families-walk.result at in
    let begun : c.args.from ≡ max c.args.from (min c.families-walk.result.start c.args.to) = omega (arith, start) in
    let none = none-counted g (goal.at.loop-number-init g c).In_ok-finite in
    record {
      walk = subst (λ n. IsAtFamily b n 0 c.families-walk.result) (sym at.count_is) at;
      count = at.count_is;
      counted =
          subst (λ n. AreSizesBetween b c.args.rounds.now.words.items c.args.bound c.args.from n
          (record { finite = c.in_ok-finite.finite; forever = 0 })) begun none;
    }

module _ (g : Over) (c : After-family_size-size g) where
  abbrev b : PlainBoard
  b = c.args.numbers.now

  at : IsAtFamily b (b.pebbles - 2) c.loop-number.number c.loop-number.walk
  at = subst (λ n. IsAtFamily b n c.loop-number.number c.loop-number.walk) c.loop-number.invariant.count
      c.loop-number.invariant.walk

  low : c.loop-number.number < ways (b.pebbles - 2) (places b)
  low =
      let all = c.ways-number-end.ensures.value ∙ ap (λ n. ways (n - 2) c.places.result) c.pebbles-fewer.ensures.value
      ∙ ap (ways (b.pebbles - 2)) c.places.ensures.value in
      omega (arith, all, c.loop-number-test.true)

  size_is : c.family_size-size.result
      ≡ least_places (places b) (class_with (places b) (b.pebbles - 2) c.loop-number.number)
  size_is = c.family_size-size.ensures
      ∙ ap (λ n. least_places (places b) (class_with (places b) n c.loop-number.number)) c.loop-number.invariant.count

  module _ (some : 2 ≤ b.pebbles) where
    one : suc (b.pebbles - 2) ≡ b.pebbles - 1
    one = omega (arith, some)

    within : c.loop-number.walk.start + c.family_size-size.result ≤ ways (b.pebbles - 1) (places b)
    within = subst (λ n. c.loop-number.walk.start + c.family_size-size.result ≤ ways n (places b)) one
        (walk-within b (b.pebbles - 2) c.loop-number.number c.family_size-size.result c.loop-number.walk low at size_is)

pub overflow_add-start : goal.overflow_add-start
overflow_add-start g c =
    let here = goal.at.overflow_add-start g c in
    let b = c.args.numbers.now in
    let inside = within g here.After-family_size-size (some g here.After-pebbles-fewer) in
    let most = ways-fit b (b.pebbles - 1) (places b) c.places.ensures.is_board (omega arith) (omega arith) in
    let few : c.loop-number.walk.start + c.family_size-size.result ≤ 288136807515649 =
    omega (arith, inside, most) in
    search (rules, few)

-- there are counts for all rounds
long : (g : Over) (c : In-loop-number g) → length c.loop-number.sizes.finite.items ≡ c.args.bound
long g c = (sizes-few c.args.numbers.now c.args.rounds.now.words.items c.args.bound c.args.from
    (max c.args.from (min c.loop-number.walk.start c.args.to)) c.loop-number.sizes
    c.loop-number.invariant.walk.is_board c.loop-number.invariant.counted).size

-- where the count is before the part of a family, and after it
module _ (g : Over) (c : After-min-high g) (long : length c.loop-number.sizes.finite.items ≡ c.args.bound) where
  before : c.max-low.result < c.min-high.result
      → max c.args.from (min c.loop-number.walk.start c.args.to) ≡ c.max-low.result
  before less = omega (arith, less, c.max-low.ensures, c.min-high.ensures)

  behind : (next : ℕ) → next ≡ c.loop-number.walk.start + c.family_size-size.result
      → c.max-low.result < c.min-high.result
      → c.min-high.result ≡ max c.args.from (min next c.args.to)
  behind next next_is less = omega (arith, less, next_is, c.max-low.ensures, c.min-high.ensures)

  same : (next : ℕ) → next ≡ c.loop-number.walk.start + c.family_size-size.result → c.min-high.result ≤ c.max-low.result
      → max c.args.from (min c.loop-number.walk.start c.args.to) ≡ max c.args.from (min next c.args.to)
  same next next_is past = omega (arith, past, next_is, c.max-low.ensures, c.min-high.ensures)

  counted-so-far : c.max-low.result < c.min-high.result
      → AreSizesBetween c.args.numbers.now c.args.rounds.now.words.items (length c.loop-number.sizes.finite.items)
      c.args.from c.max-low.result c.loop-number.sizes
  counted-so-far less =
      subst (λ n. AreSizesBetween c.args.numbers.now c.args.rounds.now.words.items n c.args.from c.max-low.result
      c.loop-number.sizes) (sym long)
      (subst (λ n. AreSizesBetween c.args.numbers.now c.args.rounds.now.words.items c.args.bound c.args.from n
      c.loop-number.sizes) (before less) c.loop-number.invariant.counted)

pub count_gaps_of-requires : goal.count_gaps_of-requires
count_gaps_of-requires g c =
    let all = goal.at.count_gaps_of-requires g c in
    let here = all.After-family_size-size in
    let b = c.args.numbers.now in
    let above = subst (IsAboveRounds c.args.rounds.now.words.items) (sym (long g all.In-loop-number))
    c.requires.bound in
    let family = subst (λ n. IsFamilyOf b n c.family-family.result) c.loop-number.invariant.count
    c.family-family.ensures.family in
    let start = walk-start b (b.pebbles - 2) c.loop-number.number c.family_size-size.result c.loop-number.walk
    (low g here) (at g here) (size_is g here) c.family-family.result family c.family-family.ensures.number in
    let size = family-size b (b.pebbles - 2) c.loop-number.number c.family_size-size.result c.family-family.result
    family c.family-family.ensures.number (size_is g here) in
    let counted = counted-so-far g all.After-min-high (long g all.In-loop-number) c.if-low-high.true in (
      omega (arith, c.requires.narrow),
      (
        c.requires.narrow,
        (
          c.requires.fits,
          (
            some g all.After-pebbles-fewer,
            (
              c.requires.rounds,
              (
                above,
                (
                  family,
                  (
                    omega (arith, start, c.max-low.ensures),
                    (
                      c.if-low-high.true,
                      (omega (arith, start, size, c.min-high.ensures), (c.args.from, counted)),
                    ),
                  ),
                ),
              ),
            ),
          ),
        ),
      ),
    )

pub loop-number-preserved : goal.loop-number-preserved
loop-number-preserved g c =
    let here = (goal.at.loop-number-preserved g c).After-family_size-size in
    let ends = (goal.at.loop-number-preserved g c).After-min-high in
    let all = long g (goal.at.loop-number-preserved g c).In-loop-number in
    let b : PlainBoard = c.args.numbers.now in
    let words : List ℕ = c.args.rounds.now.words.items in
    let number : ℕ = c.loop-number.number in
    let new = c.next_family.new.walk in
    let next : IsAtFamily b (b.pebbles - 2) (number + 1) new =
    subst (λ n. IsAtFamily b n (number + 1) new) c.loop-number.invariant.count c.next_family.ensures.walk in
    let start : new.start ≡ c.loop-number.walk.start + c.family_size-size.result =
    next-start b (b.pebbles - 2) number c.family_size-size.result c.loop-number.walk (low g here) (at g here)
    (size_is g here)
    new next in
    record {
      walk = subst (λ n. IsAtFamily b n (number + 1) new) (sym c.next_family.ensures.count) c.next_family.ensures.walk;
      count = c.next_family.ensures.count ∙ c.loop-number.invariant.count;
      counted = elim c.if-low-high.branch [
        | then-low-high w ↦ rw w.sizes-is
            (subst (λ n. AreSizesBetween b words c.args.bound c.args.from n w.count_gaps_of.new.sizes)
            (behind g ends all new.start start w.if-low-high.true)
            (subst (λ n. AreSizesBetween b words n c.args.from c.min-high.result w.count_gaps_of.new.sizes)
            all
            (w.count_gaps_of.ensures c.args.from (counted-so-far g ends all w.if-low-high.true))))
        | else-low-high w ↦ rw w.sizes-is
            (subst (λ n. AreSizesBetween b words c.args.bound c.args.from n c.loop-number.sizes)
            (same g ends all new.start start w.if-low-high.false) c.loop-number.invariant.counted)
      ];
    }

pub returns : goal.returns
returns g c =
    let b : PlainBoard = c.args.numbers.now in
    let all = c.ways-number-end.ensures.value ∙ ap (λ n. ways (n - 2) c.places.result) c.pebbles-fewer.ensures.value
    ∙ ap (ways (b.pebbles - 2)) c.places.ensures.value in
    let least = some g (goal.at.returns g c).After-pebbles-fewer in
    let one : suc (b.pebbles - 2) ≡ b.pebbles - 1 = omega (arith, least) in
    let past = c.loop-number-test.false in
    let at : IsAtFamily b (b.pebbles - 2) c.loop-number.number c.loop-number.walk =
    subst (λ n. IsAtFamily b n c.loop-number.number c.loop-number.walk) c.loop-number.invariant.count
    c.loop-number.invariant.walk in
    let end = walk-all b (b.pebbles - 2) c.loop-number.number (b.pebbles - 1) c.loop-number.walk
    (omega (arith, all, past)) one at in
    let size = c.requires.rounds.words.size in
    let whole : max c.args.from (min c.loop-number.walk.start c.args.to) ≡ c.args.to =
    omega (arith, end, size, c.requires.to, c.requires.order) in
    subst (λ n. AreSizesBetween b c.args.rounds.now.words.items c.args.bound c.args.from n c.loop-number.sizes) whole
    c.loop-number.invariant.counted
