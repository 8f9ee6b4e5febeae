-- The classes that a gap makes with a place are counted, by rows of bits.
use Rattle.std.proofs.Common.{◌≡◌, ◌≢◌, ℕ, zero, suc, ◌+◌, ◌-◌, ◌*◌, ◌<◌, ◌≤◌, ◌⊎◌, ◌↔◌, Bool, true, false, not, cond}
use Rattle.std.proofs.Common.{nat_eq, List, length, get_or, refl, sym, ap, ◌∙◌, subst, inl, inr, arith, eq-eqb, ne_eqb}
use mir.Val.{bool_byte}
use Rattle.std.proofs.Math.Nat.{mul-le-mul_left}
use Rattle.std.proofs.lemmas.Bool.{cases_lt, cases_eq, cases_Bool, both_ways}
use Rattle.std.proofs.lemmas.List.{get_or_past}
use Rattle.board_text.specs.Domination.{has_bit}
use Rattle.board_text.specs.PlainBoard.{IsBoard, PlainBoard, places}
use Rattle.board_text.specs.declared.board.TheConstants.{MAX_LABELS}
use Rattle.positions.specs.Counts.{HasSize}
use Rattle.positions.proofs.Cited.{same_size}
use Rattle.classes.specs.Families.{least_places}
use Rattle.classes.specs.Numbers.{class_with}
use Rattle.classes.specs.Sums.{sum_below}
use Rattle.classes.specs.Weights.{HasWeight}
use Rattle.classes.proofs.Cited.{size_of_sum, sum-add, sum-same, sum-suc, sum-zero}
use Rattle.classes.specs.declared.families.Family.{Family}
use Rattle.gap_values.specs.declared.sizes.Sizes.{Sizes}
use Rattle.gap_values.specs.declared.weight.FamilyWeights.{FamilyWeights}
use Rattle.gap_values.specs.Inside.Counts.{AreCounted, AreMore, AreSizesBetween, AreSmallWeights, HaveRoom}
use Rattle.gap_values.specs.Inside.Counts.{IsCountBetween}
use Rattle.gap_values.specs.Inside.Counts.{class_word, made_by, made_by_bits, once, weight_with, word_at}
use Rattle.classes.specs.FamilyWalks.{IsFamilyOf}
use Rattle.gap_values.specs.Inside.FamilyWeights.{AreFamilyWeights}
use Rattle.gap_values.specs.Inside.Sets.{AreAtMost}
use Rattle.gap_values.proofs.ClassCounts.{counting-more, counting-same, sizes-few, word-of-member}
use Rattle.classes.proofs.Cited.{edge-is, edge-next, edge-only, edge-start}

-- ---- counts that grow

pub more-none : (sizes : Sizes) (none : ℕ → ℕ) → ((word : ℕ) → none word ≡ 0) → AreMore sizes sizes none
more-none sizes none are = record {
  size = refl;
  each = λ word low. (let here = are word in omega (arith, here));
  unending = (let here = are 4294967295 in omega (arith, here));
}

pub more-joined : (old middle new : Sizes) (first second all : ℕ → ℕ) → AreMore old middle first
    → AreMore middle new second → ((word : ℕ) → first word + second word ≡ all word) → AreMore old new all
more-joined old middle new first second all one two sum = record {
  size = two.size ∙ one.size;
  each = λ word low.
      let there : word < length middle.finite.items = (let same = one.size in omega (arith, same)) in
      let before = one.each word low in
      let behind = two.each word there in
      let both = sum word in
      omega (arith, before, behind, both);
  unending =
      (let before = one.unending in let behind = two.unending in let both = sum 4294967295 in
      omega (arith, before, behind, both));
}

pub more-same : (old new : Sizes) (one other : ℕ → ℕ) → AreMore old new one → ((word : ℕ) → one word ≡ other word)
    → AreMore old new other
more-same old new one other more same = record {
  size = more.size;
  each = λ word low. (let is = more.each word low in let here = same word in omega (arith, is, here));
  unending = (let is = more.unending in let here = same 4294967295 in omega (arith, is, here));
}

pub once-here : (word more wanted : ℕ) → wanted ≡ word → once word more wanted ≡ more
once-here word more wanted same = ap (λ t. cond t more 0) (eq-eqb wanted word same)

pub once-other : (word more wanted : ℕ) → wanted ≢ word → once word more wanted ≡ 0
once-other word more wanted differ = ap (λ t. cond t more 0) (ne_eqb wanted word differ)

-- the test from the other side
pub once-is : (word more wanted : ℕ) → once word more wanted ≡ cond (nat_eq word wanted) more 0
once-is word more wanted = elim (cases_eq wanted word) [
  | inl same ↦ once-here word more wanted same ∙ sym (ap (λ t. cond t more 0) (eq-eqb word wanted (sym same)))
  | inr differ ↦ once-other word more wanted differ
      ∙ sym (ap (λ t. cond t more 0) (ne_eqb word wanted (λ same. differ (sym same))))
]

pub once-few : (word more wanted : ℕ) → once word more wanted ≤ more
once-few word more wanted = elim (cases_eq wanted word) [
  | inl same ↦ (let here = once-here word more wanted same in omega (arith, here))
  | inr differ ↦ (let none = once-other word more wanted differ in omega (arith, none))
]

-- counts that grew a little leave room
pub room-more : (old new : Sizes) (more : ℕ → ℕ) (most few : ℕ) → HaveRoom most old → AreMore old new more
    → ((word : ℕ) → more word ≤ few) → HaveRoom (most + few) new
room-more old new more most few room are small = record {
  each = λ word. elim (cases_lt word (length old.finite.items)) [
    | inl low ↦
        let is = are.each word low in
        let was = room.each word in
        let little = small word in
        omega (arith, is, was, little)
    | inr past ↦
        let size = are.size in
        let none = get_or_past new.finite.items word 0 (omega (arith, size, past)) in
        omega (arith, none)
  ];
  unending =
      (let is = are.unending in let was = room.unending in let little = small 4294967295 in
      omega (arith, is, was, little));
}

pub room-up : (sizes : Sizes) (most many : ℕ) → HaveRoom most sizes → most ≤ many → HaveRoom many sizes
room-up sizes most many room less = record {
  each = λ word. (let was = room.each word in omega (arith, was));
  unending = (let was = room.unending in omega (arith, was));
}

-- counts between gaps are small
pub room-between : (b : PlainBoard) (words : List ℕ) (rounds from to : ℕ) (sizes : Sizes) → IsBoard b
    → AreSizesBetween b words rounds from to sizes → HaveRoom 207458501411267280 sizes
room-between b words rounds from to sizes is between =
    let few = sizes-few b words rounds from to sizes is between in
    record { each = few.each; unending = few.unending }

-- ---- sums of terms that are all small

pub sum-few : (bound most : ℕ) (term : ℕ → ℕ) → ((x : ℕ) → x < bound → term x ≤ most)
    → sum_below bound term ≤ most * bound
sum-few zero most term few = let none = sum-zero term in omega (arith, none)
sum-few (suc bound) most term few =
    let before : sum_below bound term ≤ most * bound = sum-few bound most term (λ x low. few x (omega arith)) in
    let last : term bound ≤ most = few bound (omega arith) in
    let more : sum_below (suc bound) term ≡ sum_below bound term + term bound = sum-suc bound term in
    let step : most * suc bound ≡ most * bound + most = grind arith in
    omega (arith, before, last, more, step)

-- products of small numbers
pub product-few : (one other most many : ℕ) → one ≤ most → other ≤ many → one * other ≤ most * many
product-few one other most many low few =
    let first : one * other ≤ one * many = mul-le-mul_left one few in
    let second : many * one ≤ many * most = mul-le-mul_left many low in
    let turned : one * many ≡ many * one = grind arith in
    let again : many * most ≡ most * many = grind arith in
    omega (arith, first, second, turned, again)

pub byte-few : (test : Bool) → bool_byte test ≤ 1
byte-few true = omega arith
byte-few false = omega arith

pub byte-not : (test : Bool) → bool_byte (not test) ≡ cond test 0 1
byte-not true = refl
byte-not false = refl

pub byte-is : (test : Bool) → bool_byte test ≡ cond test 1 0
byte-is true = refl
byte-is false = refl

-- ---- a gap's classes, which follow those that were counted

pub block-counted : (board : PlainBoard) (words : List ℕ) (wanted low start size count : ℕ) (weight : ℕ → ℕ)
    → IsCountBetween board words wanted low start count
    → ((x : ℕ) → x < size → HasWeight (places board) board.pebbles (start + x) (weight x) × (weight x ≤ 720))
    → IsCountBetween board words wanted low (start + size)
    (count + sum_below size (λ x. cond (nat_eq (word_at board words (start + x)) wanted) (weight x) 0))
block-counted board words wanted low start zero count weight was weighs =
    let here : start ≡ start + 0 = omega arith in
    let none = sum-zero (λ x. cond (nat_eq (word_at board words (start + x)) wanted) (weight x) 0) in
    let same : count
    ≡ count + sum_below 0 (λ x. cond (nat_eq (word_at board words (start + x)) wanted) (weight x) 0) =
    omega (arith, none) in
    subst (IsCountBetween board words wanted low (start + 0)) same
    (subst (λ n. IsCountBetween board words wanted low n count) here was)
block-counted board words wanted low start (suc size) count weight was weighs =
    let term : ℕ → ℕ = λ x. cond (nat_eq (word_at board words (start + x)) wanted) (weight x) 0 in
    let so_far : ℕ = count + sum_below size term in
    let before : IsCountBetween board words wanted low (start + size) so_far =
    block-counted board words wanted low start size count weight was (λ x under. weighs x (omega arith)) in
    let next : start + size + 1 ≡ start + suc size = omega arith in
    let more : sum_below (suc size) term ≡ sum_below size term + term size = sum-suc size term in
    let last = weighs size (omega arith) in
    subst (λ n. IsCountBetween board words wanted low n (count + sum_below (suc size) term)) next
    (elim (cases_eq (word_at board words (start + size)) wanted) [
      | inl same ↦
          let own : term size ≡ weight size =
          ap (λ t. cond t (weight size) 0) (eq-eqb (word_at board words (start + size)) wanted same) in
          let all : so_far + weight size ≡ count + sum_below (suc size) term = omega (arith, own, more) in
          subst (IsCountBetween board words wanted low (start + size + 1)) all
          (counting-more board words wanted low (start + size) so_far (weight size) before same last.0 last.1)
      | inr differ ↦
          let own : term size ≡ 0 =
          ap (λ t. cond t (weight size) 0) (ne_eqb (word_at board words (start + size)) wanted differ) in
          let all : so_far ≡ count + sum_below (suc size) term = omega (arith, own, more) in
          subst (IsCountBetween board words wanted low (start + size + 1)) all
          (counting-same board words wanted low (start + size) so_far before differ)
    ])

pub weight-is-last : (weights : FamilyWeights) (size place : ℕ) → place + 1 ≡ size
    → weight_with weights size place ≡ weights.last
weight-is-last weights size place end = ap (λ t. cond t weights.last weights.each) (eq-eqb (place + 1) size end)

pub weight-is-each : (weights : FamilyWeights) (size place : ℕ) → place + 1 ≢ size
    → weight_with weights size place ≡ weights.each
weight-is-each weights size place before =
    ap (λ t. cond t weights.last weights.each) (ne_eqb (place + 1) size before)

-- the weight of a place, by what the call says of it
pub weight-is : (weights : FamilyWeights) (size place weight : ℕ) → place < size
    → (place + 1 < size → weight ≡ weights.each) → (place + 1 ≡ size → weight ≡ weights.last)
    → weight ≡ weight_with weights size place
weight-is weights size place weight low before last = elim (cases_eq (place + 1) size) [
  | inl end ↦ last end ∙ sym (weight-is-last weights size place end)
  | inr differ ↦ before (omega (arith, low, differ)) ∙ sym (weight-is-each weights size place differ)
]

pub weight-few : (weights : FamilyWeights) (size place : ℕ) → AreSmallWeights weights
    → weight_with weights size place ≤ 720
weight-few weights size place small = elim (cases_eq (place + 1) size) [
  | inl end ↦
      let is = weight-is-last weights size place end in let few = small.last in omega (arith, is, few)
  | inr differ ↦
      let is = weight-is-each weights size place differ in let few = small.each in omega (arith, is, few)
]

-- the sums of a gap's weights are small
pub terms-few : (test : ℕ → Bool) (weights : FamilyWeights) (size bound : ℕ) → AreSmallWeights weights
    → sum_below bound (λ x. cond (test x) (weight_with weights size x) 0) ≤ 720 * bound
terms-few test weights size bound small =
    sum-few bound 720 (λ x. cond (test x) (weight_with weights size x) 0) (λ x low. elim (cases_Bool (test x)) [
      | inl held ↦
          let is : cond (test x) (weight_with weights size x) 0 ≡ weight_with weights size x =
          ap (λ t. cond t (weight_with weights size x) 0) held in
          let few = weight-few weights size x small in
          omega (arith, is, few)
      | inr free ↦
          let none : cond (test x) (weight_with weights size x) 0 ≡ 0 =
          ap (λ t. cond t (weight_with weights size x) 0) free in
          omega (arith, none)
    ])

-- one place more
pub terms-more : (b : PlainBoard) (words gap : List ℕ) (weights : FamilyWeights) (size place word weight wanted : ℕ)
    → word ≡ class_word b words gap place → weight ≡ weight_with weights size place
    → sum_below place (λ x. cond (nat_eq (class_word b words gap x) wanted) (weight_with weights size x) 0)
    + once word weight wanted
    ≡ sum_below (place + 1) (λ x. cond (nat_eq (class_word b words gap x) wanted) (weight_with weights size x) 0)
terms-more b words gap weights size place word weight wanted word_is weight_is =
    let term : ℕ → ℕ = λ x. cond (nat_eq (class_word b words gap x) wanted) (weight_with weights size x) 0 in
    let more : sum_below (suc place) term ≡ sum_below place term + term place = sum-suc place term in
    let own : once word weight wanted ≡ term place =
    once-is word weight wanted
    ∙ ap (λ w. cond (nat_eq w wanted) weight 0) word_is
    ∙ ap (λ n. cond (nat_eq (class_word b words gap place) wanted) n 0) weight_is in
    let next : sum_below (suc place) term ≡ sum_below (place + 1) term = ap (λ n. sum_below n term) (omega arith) in
    omega (arith, more, own, next)

-- the same of places that are among some
pub among-more : (b : PlainBoard) (words gap among : List ℕ) (weights : FamilyWeights)
    (size place word weight wanted : ℕ) → has_bit among place ≡ true
    → word ≡ class_word b words gap place → weight ≡ weight_with weights size place
    → sum_below place (λ x. cond (has_bit among x)
    (cond (nat_eq (class_word b words gap x) wanted) (weight_with weights size x) 0) 0)
    + once word weight wanted
    ≡ sum_below (place + 1) (λ x. cond (has_bit among x)
    (cond (nat_eq (class_word b words gap x) wanted) (weight_with weights size x) 0) 0)
among-more b words gap among weights size place word weight wanted there word_is weight_is =
    let term : ℕ → ℕ = λ x. cond (nat_eq (class_word b words gap x) wanted) (weight_with weights size x) 0 in
    let some : ℕ → ℕ = λ x. cond (has_bit among x) (term x) 0 in
    let more : sum_below (suc place) some ≡ sum_below place some + some place = sum-suc place some in
    let here : some place ≡ term place = ap (λ t. cond t (term place) 0) there in
    let own : once word weight wanted ≡ term place =
    once-is word weight wanted
    ∙ ap (λ w. cond (nat_eq w wanted) weight 0) word_is
    ∙ ap (λ n. cond (nat_eq (class_word b words gap place) wanted) n 0) weight_is in
    let next : sum_below (suc place) some ≡ sum_below (place + 1) some = ap (λ n. sum_below n some) (omega arith) in
    omega (arith, more, here, own, next)

pub among-same : (among : List ℕ) (place : ℕ) (term : ℕ → ℕ) → has_bit among place ≡ false
    → sum_below place (λ x. cond (has_bit among x) (term x) 0)
    ≡ sum_below (place + 1) (λ x. cond (has_bit among x) (term x) 0)
among-same among place term out =
    let some : ℕ → ℕ = λ x. cond (has_bit among x) (term x) 0 in
    let more : sum_below (suc place) some ≡ sum_below place some + some place = sum-suc place some in
    let none : some place ≡ 0 = ap (λ t. cond t (term place) 0) out in
    let next : sum_below (suc place) some ≡ sum_below (place + 1) some = ap (λ n. sum_below n some) (omega arith) in
    omega (arith, more, none, next)

pub among-few : (among : List ℕ) (test : ℕ → Bool) (weights : FamilyWeights) (size bound : ℕ) → AreSmallWeights weights
    → sum_below bound (λ x. cond (has_bit among x) (cond (test x) (weight_with weights size x) 0) 0) ≤ 720 * bound
among-few among test weights size bound small =
    sum-few bound 720 (λ x. cond (has_bit among x) (cond (test x) (weight_with weights size x) 0) 0) (λ x low.
    elim (cases_Bool (has_bit among x)) [
      | inl held ↦
          let is : cond (has_bit among x) (cond (test x) (weight_with weights size x) 0) 0
          ≡ cond (test x) (weight_with weights size x) 0 =
          ap (λ t. cond t (cond (test x) (weight_with weights size x) 0) 0) held in
          let few = one-few (test x) (weight_with weights size x) (weight-few weights size x small) in
          omega (arith, is, few)
      | inr free ↦
          let none : cond (has_bit among x) (cond (test x) (weight_with weights size x) 0) 0 ≡ 0 =
          ap (λ t. cond t (cond (test x) (weight_with weights size x) 0) 0) free in
          omega (arith, none)
    ])
  where
    one-few : (test : Bool) (weight : ℕ) → weight ≤ 720 → cond test weight 0 ≤ 720
    one-few true weight few = few
    one-few false weight few = omega arith

module _ (b : PlainBoard) (words : List ℕ) (g : Family) (weights : FamilyWeights)
    (family : IsFamilyOf b (b.pebbles - 1) g) (weigh : AreFamilyWeights b (b.pebbles - 1) g weights) where
  one : suc (b.pebbles - 1) ≡ b.pebbles
  one = let some = family.is_board.pebbles.0 in omega arith

  weighs : (x : ℕ) → x < g.size
      → HasWeight (places b) b.pebbles (g.start + x) (weight_with weights g.size x) × (weight_with weights g.size x ≤
      720)
  weighs x low = elim (cases_eq (x + 1) g.size) [
    | inl end ↦
        let is : weight_with weights g.size x ≡ weights.last = weight-is-last weights g.size x end in (
          subst (HasWeight (places b) b.pebbles (g.start + x)) (sym is)
              (subst (λ n. HasWeight (places b) n (g.start + x) weights.last) one (weigh.last x end)),
          let few = weigh.last_few in omega (arith, is, few),
        )
    | inr before ↦
        let is : weight_with weights g.size x ≡ weights.each = weight-is-each weights g.size x before in (
          subst (HasWeight (places b) b.pebbles (g.start + x)) (sym is)
              (subst (λ n. HasWeight (places b) n (g.start + x) weights.each) one
              (weigh.before x (omega (arith, low, before)))),
          let few = weigh.few in omega (arith, is, few),
        )
  ]

  -- the sum by the numbers of classes
  by-numbers : (wanted : ℕ)
      → sum_below g.size (λ x. cond (nat_eq (word_at b words (g.start + x)) wanted) (weight_with weights g.size x) 0)
      ≡ made_by b words g.held g.size weights wanted
  by-numbers wanted =
      sum-same g.size (λ x. cond (nat_eq (word_at b words (g.start + x)) wanted) (weight_with weights g.size x) 0)
      (λ x. cond (nat_eq (class_word b words g.held x) wanted) (weight_with weights g.size x) 0)
      (λ x low. ap (λ w. cond (nat_eq w wanted) (weight_with weights g.size x) 0)
      (word-of-member b words g x (class_word b words g.held x) family low refl))

  counted-more : (low wanted count new : ℕ) → IsCountBetween b words wanted low g.start count
      → new ≡ count + made_by b words g.held g.size weights wanted
      → IsCountBetween b words wanted low (g.start + g.size) new
  counted-more low wanted count new was new_is =
      subst (IsCountBetween b words wanted low (g.start + g.size))
      (ap (λ n. count + n) (by-numbers wanted) ∙ sym new_is)
      (block-counted b words wanted low g.start g.size count (weight_with weights g.size) was weighs)

  pub gap-counted : (rounds low : ℕ) (old new : Sizes)
      → AreCounted b words rounds low g.start old.finite.items old.forever
      → AreMore old new (made_by b words g.held g.size weights)
      → AreCounted b words rounds low (g.start + g.size) new.finite.items new.forever
  gap-counted rounds low old new was more = record {
    size = more.size ∙ was.size;
    each = λ value inside.
        counted-more low value (get_or old.finite.items value 0) (get_or new.finite.items value 0) (was.each value
        inside)
        (more.each value (let size = was.size in omega (arith, size)));
    unending = counted-more low 4294967295 old.forever new.forever was.unending more.unending;
  }

  pub gap-step : (rounds from number : ℕ) (old new : Sizes) → g.number ≡ number
      → AreSizesBetween b words rounds from number old
      → AreMore old new (made_by b words g.held g.size weights)
      → AreSizesBetween b words rounds from (number + 1) new
  gap-step rounds from number old new number_is was more low high begin end =
      let count : ℕ = b.pebbles - 1 in
      let edge = edge-is b count number in
      let start : g.start ≡ edge.0 = edge-start b count number edge.0 g family number_is edge.1 in
      let inside = family.inside in
      let size_is = family.size_is ∙ ap (least_places (places b))
      (family.held_is ∙ ap (class_with (places b) count) number_is) in
      let next = edge-next b count number edge.0 g.size family.is_board (omega (arith, inside, number_is)) size_is
      edge.1 in
      let same : g.start + g.size ≡ high =
      ap (λ n. n + g.size) start ∙ edge-only b count (number + 1) (edge.0 + g.size) high next end in
      subst (λ n. AreCounted b words rounds low n new.finite.items new.forever) same
      (gap-counted rounds low old new
      (subst (λ n. AreCounted b words rounds low n old.finite.items old.forever) (sym start) (was low edge.0 begin
      edge.1))
      more)

-- ---- places that are counted by bits, and the others one by one

module _ (positive lasting among : List ℕ) (word weight : ℕ → ℕ) (size : ℕ)
    (positive_is : (x : ℕ) → x < size → (has_bit positive x ≡ true) ↔ (1 ≤ word x))
    (lasting_is : (x : ℕ) → x < size → (has_bit lasting x ≡ true) ↔ (4294967295 ≤ word x))
    (among_is : (x : ℕ) → x < size
    → (has_bit among x ≡ true) ↔ ((has_bit positive x ≡ true) × (has_bit lasting x ≡ true → ⊥)))
    (few : (x : ℕ) → x < size → word x ≤ 4294967295) where
  abbrev by-bits : ℕ → ℕ → ℕ
  by-bits wanted x = cond (has_bit positive x) 0 (once 0 (weight x) wanted)
      + cond (has_bit lasting x) (once 4294967295 (weight x) wanted) 0

  abbrev one-by-one : ℕ → ℕ → ℕ
  one-by-one wanted x = cond (has_bit among x) (cond (nat_eq (word x) wanted) (weight x) 0) 0

  abbrev own : ℕ → ℕ → ℕ
  own wanted x = cond (nat_eq (word x) wanted) (weight x) 0

  same-once : (wanted x : ℕ) → once (word x) (weight x) wanted ≡ own wanted x
  same-once wanted x = once-is (word x) (weight x) wanted

  at-place : (wanted x : ℕ) → x < size → by-bits wanted x + one-by-one wanted x ≡ own wanted x
  at-place wanted x low = elim (cases_Bool (has_bit positive x)) [
    | inr none ↦
        let zero_word : word x ≡ 0 =
        elim (cases_lt (word x) 1) [
          | inl less ↦ omega arith
          | inr more ↦ absurd (both_ways (has_bit positive x) none ((positive_is x low).1 more))
        ] in
        let not_lasting : has_bit lasting x ≡ false =
        elim (cases_Bool (has_bit lasting x)) [
          | inl held ↦ (let most = (lasting_is x low).0 held in absurd (omega (arith, most, zero_word)))
          | inr free ↦ free
        ] in
        let not_among : has_bit among x ≡ false =
        elim (cases_Bool (has_bit among x)) [
          | inl held ↦ absurd (both_ways (has_bit positive x) none ((among_is x low).0 held).0)
          | inr free ↦ free
        ] in
        let first : cond (has_bit positive x) 0 (once 0 (weight x) wanted) ≡ once 0 (weight x) wanted =
        ap (λ t. cond t 0 (once 0 (weight x) wanted)) none in
        let second : cond (has_bit lasting x) (once 4294967295 (weight x) wanted) 0 ≡ 0 =
        ap (λ t. cond t (once 4294967295 (weight x) wanted) 0) not_lasting in
        let third : one-by-one wanted x ≡ 0 =
        ap (λ t. cond t (cond (nat_eq (word x) wanted) (weight x) 0) 0) not_among in
        let is : once 0 (weight x) wanted ≡ own wanted x =
        ap (λ w. once w (weight x) wanted) (sym zero_word) ∙ same-once wanted x in
        omega (arith, first, second, third, is)
    | inl some ↦ elim (cases_Bool (has_bit lasting x)) [
      | inl held ↦
          let most = (lasting_is x low).0 held in
          let greatest : word x ≡ 4294967295 = (let within = few x low in omega (arith, most, within)) in
          let not_among : has_bit among x ≡ false =
          elim (cases_Bool (has_bit among x)) [
            | inl both ↦ absurd (((among_is x low).0 both).1 held)
            | inr free ↦ free
          ] in
          let first : cond (has_bit positive x) 0 (once 0 (weight x) wanted) ≡ 0 =
          ap (λ t. cond t 0 (once 0 (weight x) wanted)) some in
          let second : cond (has_bit lasting x) (once 4294967295 (weight x) wanted) 0
          ≡ once 4294967295 (weight x) wanted =
          ap (λ t. cond t (once 4294967295 (weight x) wanted) 0) held in
          let third : one-by-one wanted x ≡ 0 =
          ap (λ t. cond t (cond (nat_eq (word x) wanted) (weight x) 0) 0) not_among in
          let is : once 4294967295 (weight x) wanted ≡ own wanted x =
          ap (λ w. once w (weight x) wanted) (sym greatest) ∙ same-once wanted x in
          omega (arith, first, second, third, is)
      | inr free ↦
          let is_among : has_bit among x ≡ true =
          (among_is x low).1 (some, λ held. both_ways (has_bit lasting x) free held) in
          let first : cond (has_bit positive x) 0 (once 0 (weight x) wanted) ≡ 0 =
          ap (λ t. cond t 0 (once 0 (weight x) wanted)) some in
          let second : cond (has_bit lasting x) (once 4294967295 (weight x) wanted) 0 ≡ 0 =
          ap (λ t. cond t (once 4294967295 (weight x) wanted) 0) free in
          let third : one-by-one wanted x ≡ own wanted x =
          ap (λ t. cond t (cond (nat_eq (word x) wanted) (weight x) 0) 0) is_among in
          omega (arith, first, second, third)
    ]
  ]

  pub all-places : (wanted : ℕ)
      → sum_below size (λ x. cond (has_bit positive x) 0 (once 0 (weight x) wanted)
      + cond (has_bit lasting x) (once 4294967295 (weight x) wanted) 0)
      + sum_below size (λ x. cond (has_bit among x) (cond (nat_eq (word x) wanted) (weight x) 0) 0)
      ≡ sum_below size (λ x. cond (nat_eq (word x) wanted) (weight x) 0)
  all-places wanted =
      sym (sum-add size (by-bits wanted) (one-by-one wanted))
      ∙ sum-same size (λ x. by-bits wanted x + one-by-one wanted x) (own wanted) (at-place wanted)

-- no place is among them
pub none-among : (among : List ℕ) (size : ℕ) (term : ℕ → ℕ)
    → ((x : ℕ) → x < size → has_bit among x ≡ true → ⊥)
    → sum_below size (λ x. cond (has_bit among x) (term x) 0) ≡ 0
none-among among zero term none = sum-zero (λ x. cond (has_bit among x) (term x) 0)
none-among among (suc size) term none =
    let before : sum_below size (λ x. cond (has_bit among x) (term x) 0) ≡ 0 =
    none-among among size term (λ x low. none x (omega arith)) in
    let more = sum-suc size (λ x. cond (has_bit among x) (term x) 0) in
    let last : cond (has_bit among size) (term size) 0 ≡ 0 =
    elim (cases_Bool (has_bit among size)) [
      | inl held ↦ absurd (none size (omega arith) held)
      | inr free ↦ ap (λ t. cond t (term size) 0) free
    ] in
    omega (arith, before, more, last)

-- ---- the sums of bits

pub once-add : (word one other wanted : ℕ)
    → once word one wanted + once word other wanted ≡ once word (one + other) wanted
once-add word one other wanted = elim (cases_eq wanted word) [
  | inl same ↦
      let first = once-here word one wanted same in
      let second = once-here word other wanted same in
      let both = once-here word (one + other) wanted same in
      omega (arith, first, second, both)
  | inr differ ↦
      let first = once-other word one wanted differ in
      let second = once-other word other wanted differ in
      let both = once-other word (one + other) wanted differ in
      omega (arith, first, second, both)
]

-- the weights of a gap's classes if all have the word 0
pub made-at-zero : (word : ℕ → ℕ) (weights : FamilyWeights) (least wanted : ℕ)
    → ((x : ℕ) → x < least + 1 → word x ≡ 0)
    → once 0 (weights.each * least + weights.last) wanted
    ≡ sum_below (least + 1) (λ x. cond (nat_eq (word x) wanted) (weight_with weights (least + 1) x) 0)
made-at-zero word weights least wanted none =
    let term : ℕ → ℕ = λ x. cond (nat_eq (word x) wanted) (weight_with weights (least + 1) x) 0 in
    let own : (x : ℕ) → x < least + 1 → term x ≡ once 0 (weight_with weights (least + 1) x) wanted =
    λ x low. ap (λ n. cond (nat_eq n wanted) (weight_with weights (least + 1) x) 0) (none x low)
    ∙ sym (once-is 0 (weight_with weights (least + 1) x) wanted) in
    let last : term least ≡ once 0 weights.last wanted =
    own least (omega arith) ∙ ap (λ n. once 0 n wanted) (weight-is-last weights (least + 1) least refl) in
    let before = each-before term weights.each least wanted (λ x low. own x (omega arith)
    ∙ ap (λ n. once 0 n wanted) (weight-is-each weights (least + 1) x (λ same. omega (arith, same, low)))) in
    let more : sum_below (suc least) term ≡ sum_below least term + term least = sum-suc least term in
    let next : sum_below (suc least) term ≡ sum_below (least + 1) term = ap (λ n. sum_below n term) (omega arith) in
    let all = once-add 0 (weights.each * least) weights.last wanted in
    omega (arith, last, before, more, next, all)
  where
    each-before : (term : ℕ → ℕ) (each bound wanted : ℕ) → ((x : ℕ) → x < bound → term x ≡ once 0 each wanted)
        → sum_below bound term ≡ once 0 (each * bound) wanted
    each-before term each zero wanted are =
        let few = once-few 0 (each * 0) wanted in
        let nothing : each * 0 ≡ 0 = grind arith in
        omega (arith, sum-zero term, few, nothing)
    each-before term each (suc bound) wanted are =
        let before = each-before term each bound wanted (λ x low. are x (omega arith)) in
        let product : each * bound + each ≡ each * suc bound = grind arith in
        let all = once-add 0 (each * bound) each wanted in
        omega (arith, before, sum-suc bound term, are bound (omega arith), all, ap (λ n. once 0 n wanted) product)

-- how many of the labels below a bound are in the set
abbrev pub bits_below : List ℕ → ℕ → ℕ
bits_below marks bound = sum_below bound (λ x. cond (has_bit marks x) 1 0)

pub bits-few : (marks : List ℕ) (bound : ℕ) → bits_below marks bound ≤ bound
bits-few marks bound =
    let few = sum-few bound 1 (λ x. cond (has_bit marks x) 1 0) (λ x low. elim (cases_Bool (has_bit marks x)) [
      | inl held ↦ (let one = ap {B = ℕ} (λ t. cond t 1 0) held in omega (arith, one))
      | inr free ↦ (let none = ap {B = ℕ} (λ t. cond t 1 0) free in omega (arith, none))
    ]) in
    omega (arith, few)

-- if they aren't all, some label isn't
pub some-free : (marks : List ℕ) (bound : ℕ) → bits_below marks bound < bound
    → (x : ℕ) × (x < bound) × (has_bit marks x ≡ true → ⊥)
some-free marks zero fewer = absurd (omega arith)
some-free marks (suc bound) fewer = elim (cases_Bool (has_bit marks bound)) [
  | inl held ↦
      let one : cond (has_bit marks bound) 1 0 ≡ 1 = ap {B = ℕ} (λ t. cond t 1 0) held in
      let more = sum-suc bound (λ x. cond (has_bit marks x) 1 0) in
      let rest = some-free marks bound (omega (arith, one, more, fewer)) in
      let low : rest.0 < bound = rest.1 in (rest.0, omega arith, rest.2)
  | inr free ↦ (bound, omega arith, λ has. both_ways (has_bit marks bound) free has)
]

pub bits-weighed : (positive lasting : List ℕ) (each wanted bound : ℕ)
    → sum_below bound (λ x. cond (has_bit positive x) 0 (once 0 each wanted)
    + cond (has_bit lasting x) (once 4294967295 each wanted) 0)
    ≡ once 0 (each * (bound - bits_below positive bound)) wanted
    + once 4294967295 (each * bits_below lasting bound) wanted
bits-weighed positive lasting each wanted zero =
    let none = sum-zero (λ x. cond (has_bit positive x) 0 (once 0 each wanted)
    + cond (has_bit lasting x) (once 4294967295 each wanted) 0) in
    let no_bits = sum-zero (λ x. cond (has_bit lasting x) 1 0) in
    let first : once 0 (each * (0 - bits_below positive 0)) wanted ≡ 0 =
    nothing 0 (each * (0 - bits_below positive 0)) wanted (grind arith) in
    let second : once 4294967295 (each * bits_below lasting 0) wanted ≡ 0 =
    nothing 4294967295 (each * bits_below lasting 0) wanted (ap (λ n. each * n) no_bits ∙ grind arith) in
    omega (arith, none, first, second)
  where
    nothing : (word more wanted : ℕ) → more ≡ 0 → once word more wanted ≡ 0
    nothing word more wanted is = elim (cases_eq wanted word) [
      | inl same ↦ once-here word more wanted same ∙ is
      | inr differ ↦ once-other word more wanted differ
    ]
bits-weighed positive lasting each wanted (suc bound) =
    let term : ℕ → ℕ = λ x. cond (has_bit positive x) 0 (once 0 each wanted)
    + cond (has_bit lasting x) (once 4294967295 each wanted) 0 in
    let before = bits-weighed positive lasting each wanted bound in
    let more : sum_below (suc bound) term ≡ sum_below bound term + term bound = sum-suc bound term in
    let within = bits-few positive bound in
    let first : once 0 (each * (bound - bits_below positive bound)) wanted
    + cond (has_bit positive bound) 0 (once 0 each wanted)
    ≡ once 0 (each * (suc bound - bits_below positive (suc bound))) wanted =
    (let step = sum-suc bound (λ x. cond (has_bit positive x) 1 0) in
    elim (cases_Bool (has_bit positive bound)) [
      | inl held ↦
          let one : cond (has_bit positive bound) 1 0 ≡ 1 = ap {B = ℕ} (λ t. cond t 1 0) held in
          let none : cond (has_bit positive bound) 0 (once 0 each wanted) ≡ 0 =
          ap (λ t. cond t 0 (once 0 each wanted)) held in
          let same : bound - bits_below positive bound ≡ suc bound - bits_below positive (suc bound) =
          omega (arith, step, one) in
          omega (arith, none, ap (λ n. once 0 (each * n) wanted) same)
      | inr free ↦
          let none : cond (has_bit positive bound) 1 0 ≡ 0 = ap {B = ℕ} (λ t. cond t 1 0) free in
          let own : cond (has_bit positive bound) 0 (once 0 each wanted) ≡ once 0 each wanted =
          ap (λ t. cond t 0 (once 0 each wanted)) free in
          let count : suc (bound - bits_below positive bound) ≡ suc bound - bits_below positive (suc bound) =
          omega (arith, step, none, within) in
          let product : each * (bound - bits_below positive bound) + each
          ≡ each * suc (bound - bits_below positive bound) =
          grind arith in
          let all = once-add 0 (each * (bound - bits_below positive bound)) each wanted in
          omega (arith, own, all, ap (λ n. once 0 n wanted) (product ∙ ap (λ n. each * n) count))
    ]) in
    let second : once 4294967295 (each * bits_below lasting bound) wanted
    + cond (has_bit lasting bound) (once 4294967295 each wanted) 0
    ≡ once 4294967295 (each * bits_below lasting (suc bound)) wanted =
    (let step = sum-suc bound (λ x. cond (has_bit lasting x) 1 0) in
    elim (cases_Bool (has_bit lasting bound)) [
      | inl held ↦
          let one : cond (has_bit lasting bound) 1 0 ≡ 1 = ap {B = ℕ} (λ t. cond t 1 0) held in
          let own : cond (has_bit lasting bound) (once 4294967295 each wanted) 0 ≡ once 4294967295 each wanted =
          ap (λ t. cond t (once 4294967295 each wanted) 0) held in
          let count : suc (bits_below lasting bound) ≡ bits_below lasting (suc bound) = omega (arith, step, one) in
          let product : each * bits_below lasting bound + each ≡ each * suc (bits_below lasting bound) = grind arith in
          let all = once-add 4294967295 (each * bits_below lasting bound) each wanted in
          omega (arith, own, all, ap (λ n. once 4294967295 n wanted) (product ∙ ap (λ n. each * n) count))
      | inr free ↦
          let none : cond (has_bit lasting bound) 1 0 ≡ 0 = ap {B = ℕ} (λ t. cond t 1 0) free in
          let own : cond (has_bit lasting bound) (once 4294967295 each wanted) 0 ≡ 0 =
          ap (λ t. cond t (once 4294967295 each wanted) 0) free in
          let same : bits_below lasting bound ≡ bits_below lasting (suc bound) = omega (arith, step, none) in
          omega (arith, own, ap (λ n. once 4294967295 (each * n) wanted) same)
    ]) in
    omega (arith, before, more, first, second)

-- a set without the last of its labels
pub without-last : (marks none only others : List ℕ) (last : ℕ)
    → ((x : ℕ) → x < MAX_LABELS → (has_bit none x ≡ true) ↔ (x < 0))
    → ((x : ℕ) → x < MAX_LABELS → (has_bit only x ≡ true) ↔ ((x ≡ last) ⊎ (has_bit none x ≡ true)))
    → ((x : ℕ) → x < MAX_LABELS → (has_bit others x ≡ true)
    ↔ ((has_bit marks x ≡ true) × (has_bit only x ≡ true → ⊥)))
    → (x : ℕ) → x < MAX_LABELS → (has_bit others x ≡ true) ↔ ((has_bit marks x ≡ true) × (x ≢ last))
without-last marks none only others last empty only_is others_are x low = (
  λ has.
      let both = (others_are x low).0 has in
      (both.0, λ same. both.1 ((only_is x low).1 (inl same))),
  λ both. (others_are x low).1 (
    both.0,
    λ in_only. elim ((only_is x low).0 in_only) [
      | inl same ↦ both.1 same
      | inr has ↦ (let under : x < 0 = (empty x low).0 has in absurd (omega arith))
    ],
  ),
)

-- the number of labels of a set without the last of them
pub bits-counted : (marks others : List ℕ) (last count : ℕ) → last < MAX_LABELS → AreAtMost last marks
    → ((x : ℕ) → x < MAX_LABELS → (has_bit others x ≡ true) ↔ ((has_bit marks x ≡ true) × (x ≢ last)))
    → HasSize (λ x. (x < MAX_LABELS) × (has_bit others x ≡ true)) count → count ≡ bits_below marks last
bits-counted marks others last count small most others_are size =
    same_size (λ x. (x < MAX_LABELS) × (has_bit others x ≡ true)) count (bits_below marks last) size
    (size_of_sum (λ x. (x < MAX_LABELS) × (has_bit others x ≡ true)) (has_bit marks) last (λ x. (
      λ is.
          let both = (others_are x is.0).0 is.1 in
          let within = most x is.0 both.0 in
          let differs = both.1 in
          (omega (arith, within, differs), both.0),
      λ is.
          let low : x < last = is.0 in
          (omega arith, (others_are x (omega arith)).1 (is.1, λ same. omega (arith, same))),
    )))

-- all labels up to the last one, which has a weight of its own
pub bits-all : (positive lasting : List ℕ) (weights : FamilyWeights) (last free forever at_zero at_last wanted : ℕ)
    → free ≡ last - bits_below positive last → forever ≡ bits_below lasting last
    → at_zero ≡ cond (has_bit positive last) 0 1 → at_last ≡ cond (has_bit lasting last) 1 0
    → once 0 (weights.each * free + weights.last * at_zero) wanted
    + once 4294967295 (weights.each * forever + weights.last * at_last) wanted
    ≡ made_by_bits positive lasting (last + 1) weights wanted
bits-all positive lasting weights last free forever at_zero at_last wanted free_is forever_is at_zero_is at_last_is =
    let size : ℕ = last + 1 in
    let term : ℕ → ℕ = λ x. cond (has_bit positive x) 0 (once 0 (weight_with weights size x) wanted)
    + cond (has_bit lasting x) (once 4294967295 (weight_with weights size x) wanted) 0 in
    let plain : ℕ → ℕ = λ x. cond (has_bit positive x) 0 (once 0 weights.each wanted)
    + cond (has_bit lasting x) (once 4294967295 weights.each wanted) 0 in
    let below : sum_below last term ≡ sum_below last plain =
    sum-same last term plain (λ x low.
    ap (λ w. cond (has_bit positive x) 0 (once 0 w wanted) + cond (has_bit lasting x) (once 4294967295 w wanted) 0)
    (weight-is-each weights size x (λ same. omega (arith, same)))) in
    let is : sum_below last plain ≡ once 0 (weights.each * free) wanted + once 4294967295 (weights.each * forever)
    wanted =
    bits-weighed positive lasting weights.each wanted last
    ∙ ap (λ n. once 0 (weights.each * n) wanted + once 4294967295 (weights.each * bits_below lasting last) wanted)
    (sym free_is)
    ∙ ap (λ n. once 0 (weights.each * free) wanted + once 4294967295 (weights.each * n) wanted) (sym forever_is) in
    let end : term last ≡ cond (has_bit positive last) 0 (once 0 weights.last wanted)
    + cond (has_bit lasting last) (once 4294967295 weights.last wanted) 0 =
    ap (λ w. cond (has_bit positive last) 0 (once 0 w wanted)
    + cond (has_bit lasting last) (once 4294967295 w wanted) 0)
    (weight-is-last weights size last refl) in
    let first : once 0 (weights.last * at_zero) wanted ≡ cond (has_bit positive last) 0 (once 0 weights.last wanted) =
    elim (cases_Bool (has_bit positive last)) [
      | inl held ↦
          let none : at_zero ≡ 0 = at_zero_is ∙ ap (λ t. cond t 0 1) held in
          let nothing : weights.last * at_zero ≡ 0 = ap (λ n. weights.last * n) none ∙ grind arith in
          let few = once-few 0 (weights.last * at_zero) wanted in
          let right : cond (has_bit positive last) 0 (once 0 weights.last wanted) ≡ 0 =
          ap (λ t. cond t 0 (once 0 weights.last wanted)) held in
          omega (arith, nothing, few, right)
      | inr out ↦
          let one : at_zero ≡ 1 = at_zero_is ∙ ap (λ t. cond t 0 1) out in
          let same : weights.last * at_zero ≡ weights.last = ap (λ n. weights.last * n) one ∙ grind arith in
          ap (λ n. once 0 n wanted) same ∙ sym (ap (λ t. cond t 0 (once 0 weights.last wanted)) out)
    ] in
    let second : once 4294967295 (weights.last * at_last) wanted
    ≡ cond (has_bit lasting last) (once 4294967295 weights.last wanted) 0 =
    elim (cases_Bool (has_bit lasting last)) [
      | inl held ↦
          let one : at_last ≡ 1 = at_last_is ∙ ap (λ t. cond t 1 0) held in
          let same : weights.last * at_last ≡ weights.last = ap (λ n. weights.last * n) one ∙ grind arith in
          ap (λ n. once 4294967295 n wanted) same
          ∙ sym (ap (λ t. cond t (once 4294967295 weights.last wanted) 0) held)
      | inr out ↦
          let none : at_last ≡ 0 = at_last_is ∙ ap (λ t. cond t 1 0) out in
          let nothing : weights.last * at_last ≡ 0 = ap (λ n. weights.last * n) none ∙ grind arith in
          let few = once-few 4294967295 (weights.last * at_last) wanted in
          let right : cond (has_bit lasting last) (once 4294967295 weights.last wanted) 0 ≡ 0 =
          ap (λ t. cond t (once 4294967295 weights.last wanted) 0) out in
          omega (arith, nothing, few, right)
    ] in
    let zeros = once-add 0 (weights.each * free) (weights.last * at_zero) wanted in
    let lasts = once-add 4294967295 (weights.each * forever) (weights.last * at_last) wanted in
    let one : suc last ≡ size = omega arith in
    let more : sum_below (suc last) term ≡ sum_below last term + term last = sum-suc last term in
    let whole : sum_below (suc last) term ≡ sum_below size term = ap (λ n. sum_below n term) one in
    omega (arith, below, is, end, first, second, zeros, lasts, more, whole)

-- bits make no more than each place twice
pub bits-made-few : (positive lasting : List ℕ) (weights : FamilyWeights) (size wanted : ℕ) → AreSmallWeights weights
    → made_by_bits positive lasting size weights wanted ≤ 1440 * size
bits-made-few positive lasting weights size wanted small =
    sum-few size 1440 (λ x. cond (has_bit positive x) 0 (once 0 (weight_with weights size x) wanted)
    + cond (has_bit lasting x) (once 4294967295 (weight_with weights size x) wanted) 0) (λ x low.
    let few = weight-few weights size x small in
    let zero = once-few 0 (weight_with weights size x) wanted in
    let last = once-few 4294967295 (weight_with weights size x) wanted in
    let first : cond (has_bit positive x) 0 (once 0 (weight_with weights size x) wanted) ≤ 720 =
    elim (cases_Bool (has_bit positive x)) [
      | inl held ↦ (let is = ap (λ t. cond t 0 (once 0 (weight_with weights size x) wanted)) held in omega (arith, is))
      | inr free ↦
          (let is = ap (λ t. cond t 0 (once 0 (weight_with weights size x) wanted)) free in
          omega (arith, is, zero, few))
    ] in
    let second : cond (has_bit lasting x) (once 4294967295 (weight_with weights size x) wanted) 0 ≤ 720 =
    elim (cases_Bool (has_bit lasting x)) [
      | inl held ↦
          (let is = ap (λ t. cond t (once 4294967295 (weight_with weights size x) wanted) 0) held in
          omega (arith, is, last, few))
      | inr free ↦
          (let is = ap (λ t. cond t (once 4294967295 (weight_with weights size x) wanted) 0) free in omega (arith, is))
    ] in
    omega (arith, first, second))
