-- Above each label of the double cover of a circle are the numbers of the circle, with other names.
use Rattle.std.proofs.Common.{◌≡◌, ◌≢◌, ◌↔◌, ℕ, zero, suc, ◌+◌, ◌-◌, ◌*◌, ◌/◌, ◌%◌, ◌<◌, ◌⊎◌, Bool, true, false, List}
use Rattle.std.proofs.Common.{[], not, refl, sym, ◌∙◌, ap, subst, arith, inl, inr, mod-lt}
use Rattle.std.specs.Prelude.{cond, eqb}
use Rattle.std.proofs.lemmas.Bool.{both_ways, cases_eq, cases_lt, eq-eqb, eqb-true, ne_eqb}
use Rattle.board_text.specs.PlainBoard.{PlainBoard, ArePairs, Dominates}
use Rattle.domains.specs.Circles.{IsCircle}
use Rattle.domains.specs.DoubleCovers.{IsDoubleCover, IsPointAhead}
use Rattle.domains.specs.Used.{AreAbove}
use Rattle.domains.proofs.Circles.{contains_or_not}
use Rattle.domains.proofs.FewestLabels.{Ahead}
use Rattle.domains.proofs.ProductData.{rule_board}
use Rattle.domains.proofs.ResiduesModuloNineteen.{all_below, among, each_below, first_is, is_among, is_found}

-- ---- a map of the steps that a search looks through

abbrev agree : Bool → Bool → Bool
agree one two = cond one two (not two)

-- for each distance t from 1 on another one, which is a step if t isn't, and back again
abbrev pub turns_one : ℕ → List ℕ → (ℕ → ℕ) → ℕ → Bool
turns_one count steps turn t =
    cond (eqb (turn (turn t)) t)
    (cond (eqb (turn t) 0) false
    (cond (eqb (turn t % count) (turn t))
    (cond (agree (is_among steps (turn t)) (not (is_among steps t)))
    (agree (is_among steps ((0 + count - t) % count)) (not (is_among steps t))) false) false)) false

-- the difference of t and u is that of the others, if both are steps or neither is, and turned if one of them is
abbrev from_both : ℕ → List ℕ → ℕ → ℕ → Bool
from_both count steps t u =
    cond (is_among steps t)
    (cond (is_among steps u) (is_among steps ((t + count - u) % count)) (is_among steps ((u + count - t) % count)))
    (cond (is_among steps u) (is_among steps ((u + count - t) % count)) (is_among steps ((t + count - u) % count)))

abbrev pub turns_two : ℕ → List ℕ → (ℕ → ℕ) → ℕ → ℕ → Bool
turns_two count steps turn t u =
    agree (is_among steps ((turn t + count - turn u) % count)) (from_both count steps t u)

-- a circle whose steps have such a map
pub record IsTurned (count : ℕ) (steps : List ℕ) (turn : ℕ → ℕ) : Type 0 where
  pub some : 0 < count
  pub itself : (a : ℕ) → a < count → (a + count - a) % count ≡ 0
  pub from_none : (t : ℕ) → t < count → (t + count - 0) % count ≡ t
  pub between : (x y a : ℕ) → x < count → y < count → a < count
      → (x + count - y) % count ≡ ((x + count - a) % count + count - (y + count - a) % count) % count
  pub restored : (a t : ℕ) → a < count → t < count → ((a + t) % count + count - a) % count ≡ t
  pub no_zero : is_among steps 0 ≡ false
  pub no_whole : is_among steps ((0 + count - 0) % count) ≡ false
  pub ones : all_below (λ t. turns_one count steps turn (suc t)) (count - 1) ≡ true
  pub twos : all_below (λ t. all_below (λ u. turns_two count steps turn (suc t) (suc u)) (count - 1)) (count - 1) ≡ true

-- ---- tests that say true

agreed : (one two : Bool) → agree one two ≡ true → one ≡ two
agreed true true says = refl
agreed true false says = sym says
agreed false true says = says
agreed false false says = refl

unless_true : (b more : Bool) → cond b false more ≡ true → (b ≡ false) × (more ≡ true)
unless_true true more says = absurd (both_ways false refl says)
unless_true false more says = (refl, says)

true_of_not : (b : Bool) → true ≡ not b → b ≡ false
true_of_not true says = says
true_of_not false says = refl

-- the label on the same side as the first if so, and on the other side if not
abbrev SideOf : Bool → ℕ → ℕ → Type 0
SideOf true side of = side ≡ of
SideOf false side of = side ≢ of

both_true : {P : Type 0} (b : Bool) → P → b ≡ true → P ↔ (b ≡ true)
both_true b holds is = (λ p. is, λ q. holds)

both_false : {P : Type 0} (b : Bool) → (P → ⊥) → b ≡ false → P ↔ (b ≡ true)
both_false b fails is = (λ p. absurd (fails p), λ q. absurd (both_ways b is q))

abbrev pub Wins : ℕ → List ℕ → ℕ → ℕ → Type 0
Wins count steps x y =
    ((x % 2 ≡ y % 2) × IsPointAhead count steps (x / 2) (y / 2))
    ⊎ ((x % 2 ≢ y % 2) × IsPointAhead count steps (y / 2) (x / 2))

module _ (count : ℕ) (steps : List ℕ) (turn : ℕ → ℕ) (turned : IsTurned count steps turn) where
  abbrev distance : ℕ → ℕ → ℕ
  distance x y = (x + count - y) % count

  abbrev sq : ℕ → Bool
  sq t = is_among steps t

  record Turned (t : ℕ) : Type 0 where
    again : turn (turn t) ≡ t
    some : 0 < turn t
    low : turn t < count
    other : sq (turn t) ≡ not (sq t)
    opposite : sq ((0 + count - t) % count) ≡ not (sq t)

  turned_one : (t : ℕ) → 0 < t → t < count → Turned t
  turned_one zero some low = absurd (omega (arith, some))
  turned_one (suc t) some low =
      let says = each_below (λ t. turns_one count steps turn (suc t)) (count - 1) t turned.ones (omega (arith, low)) in
      let n = suc t in
      let last = agree (sq ((0 + count - n) % count)) (not (sq n)) in
      let fourth = cond (agree (sq (turn n)) (not (sq n))) last false in
      let third = cond (eqb (turn n % count) (turn n)) fourth false in
      let first = first_is (eqb (turn (turn n)) n) (cond (eqb (turn n) 0) false third) says in
      let second = unless_true (eqb (turn n) 0) third first.1 in
      let then_third = first_is (eqb (turn n % count) (turn n)) fourth second.1 in
      let then_fourth = first_is (agree (sq (turn n)) (not (sq n))) last then_third.1 in
      let fits : turn n % count ≡ turn n = eqb-true (turn n % count) (turn n) then_third.0 in
      let apart : turn n ≢ 0 = λ is. both_ways (eqb (turn n) 0) second.0 (eq-eqb (turn n) 0 is) in record {
        again = eqb-true (turn (turn n)) n first.0;
        some = elim (cases_lt 0 (turn n)) [ inl is ↦ is | inr none ↦ absurd (apart (omega (arith, none))) ];
        low = subst (λ m. m < count) fits (mod-lt (turn n) turned.some);
        other = agreed (sq (turn n)) (not (sq n)) then_fourth.0;
        opposite = agreed (sq ((0 + count - n) % count)) (not (sq n)) then_fourth.1;
      }

  turned_two : (t u : ℕ) → 0 < t → t < count → 0 < u → u < count
      → sq (distance (turn t) (turn u)) ≡ from_both count steps t u
  turned_two zero u some low some_u low_u = absurd (omega (arith, some))
  turned_two (suc t) zero some low some_u low_u = absurd (omega (arith, some_u))
  turned_two (suc t) (suc u) some low some_u low_u =
      agreed (sq (distance (turn (suc t)) (turn (suc u)))) (from_both count steps (suc t) (suc u))
      (each_below (λ u. turns_two count steps turn (suc t) (suc u)) (count - 1) u
      (each_below (λ t. all_below (λ u. turns_two count steps turn (suc t) (suc u)) (count - 1)) (count - 1) t
      turned.twos (omega (arith, low))) (omega (arith, low_u)))

  some_of : (t : ℕ) → (sq t ≡ true) → 0 < t
  some_of zero says = absurd (both_ways (sq 0) turned.no_zero says)
  some_of (suc t) says = omega arith

  -- ---- points

  ahead_of_more : (y : ℕ) → y < count → IsPointAhead count steps count y
  ahead_of_more y low = inl (refl, low)

  more_not_ahead : (x : ℕ) → IsPointAhead count steps x count → ⊥
  more_not_ahead x (inl (is, low)) = omega (arith, low)
  more_not_ahead x (inr (x_low, low, has)) = omega (arith, low)

  ahead_on_circle : (x y : ℕ) → x < count → y < count → IsPointAhead count steps x y ↔ (sq (distance x y) ≡ true)
  ahead_on_circle x y x_low y_low = (
    λ ahead. elim ahead [
      | inl more ↦ absurd (omega (arith, more.0, x_low))
      | inr on ↦ is_found steps (distance x y) on.2
    ],
    λ says. inr (x_low, y_low, among steps (distance x y) says),
  )

  one_side : (x y : ℕ) (b : Bool) → x % 2 ≡ y % 2 → IsPointAhead count steps (x / 2) (y / 2) ↔ (b ≡ true)
      → Wins count steps x y ↔ (b ≡ true)
  one_side x y b same both = (
    λ wins. elim wins [ inl here ↦ both.0 here.1 | inr other ↦ absurd (other.0 same) ],
    λ says. inl (same, both.1 says),
  )

  two_sides : (x y : ℕ) (b : Bool) → x % 2 ≢ y % 2 → IsPointAhead count steps (y / 2) (x / 2) ↔ (b ≡ true)
      → Wins count steps x y ↔ (b ≡ true)
  two_sides x y b differs both = (
    λ wins. elim wins [ inl here ↦ absurd (differs here.0) | inr other ↦ both.0 other.1 ],
    λ says. inr (differs, both.1 says),
  )

  two_others : (x y side : ℕ) → x % 2 ≢ side % 2 → y % 2 ≢ side % 2 → x % 2 ≡ y % 2
  two_others x y side x_differs y_differs =
      elim (cases_eq (x % 2) (y % 2)) [
        | inl same ↦ same
        | inr differs ↦ elim (cases_eq (x % 2) (side % 2)) [
          | inl is ↦ absurd (x_differs is)
          | inr not_x ↦ elim (cases_eq (y % 2) (side % 2)) [
            | inl is ↦ absurd (y_differs is)
            | inr not_y ↦ absurd (omega (arith, differs, not_x, not_y))
          ]
        ]
      ]

  -- ---- above a label of the circle

  module _ (label : ℕ) (low : label / 2 < count) where
    abbrev from : ℕ → ℕ
    from other = distance (other / 2) (label / 2)

    -- the point more, on the same side, or a point ahead of it, on the same side, or another one, on the other side
    abbrev IsOver : ℕ → Type 0
    IsOver other =
        ((other / 2 ≡ count) × (other % 2 ≡ label % 2))
        ⊎ ((other / 2 < count) × (0 < from other) × SideOf (sq (from other)) (other % 2) (label % 2))

    over : (other : ℕ) → Wins count steps other label → IsOver other
    over other (inl (same, inl (is, _))) = inl (is, same)
    over other (inl (same, inr (other_low, _, has))) =
        let is = is_found steps (from other) has in
        inr (other_low, some_of (from other) is, subst (λ b. SideOf b (other % 2) (label % 2)) (sym is) same)
    over other (inr (differs, inl (is, _))) = absurd (omega (arith, is, low))
    over other (inr (differs, inr (_, other_low, has))) =
        let is = is_found steps (distance (label / 2) (other / 2)) has in
        let turned_round : distance (label / 2) (other / 2) ≡ (0 + count - from other) % count
        = turned.between (label / 2) (other / 2) (label / 2) low other_low low
        ∙ ap (λ n. (n + count - from other) % count) (turned.itself (label / 2) low) in
        let says : sq ((0 + count - from other) % count) ≡ true = subst (λ n. sq n ≡ true) turned_round is in
        let from_low : from other < count = mod-lt (other / 2 + count - label / 2) turned.some in
        elim (cases_lt 0 (from other)) [
          | inl some ↦
              let one = turned_one (from other) some from_low in
              let no : sq (from other) ≡ false = true_of_not (sq (from other)) (sym says ∙ one.opposite) in
              inr (other_low, some, subst (λ b. SideOf b (other % 2) (label % 2)) (sym no) differs)
          | inr none ↦
              let is_zero : from other ≡ 0 = omega (arith, none) in
              absurd (both_ways (sq ((0 + count - 0) % count)) turned.no_whole
              (subst (λ n. sq ((0 + count - n) % count) ≡ true) is_zero says))
        ]

    abbrev to : ℕ → ℕ
    to other = cond (eqb (other / 2) count) 0 (turn (from other))

    to_more : (other : ℕ) → other / 2 ≡ count → to other ≡ 0
    to_more other is = ap (λ b. cond b 0 (turn (from other))) (eq-eqb (other / 2) count is)

    to_turned : (other : ℕ) → other / 2 < count → to other ≡ turn (from other)
    to_turned other other_low =
        ap (λ b. cond b 0 (turn (from other)))
        (ne_eqb (other / 2) count (λ is. omega (arith, is, other_low)))

    from_low : (other : ℕ) → from other < count
    from_low other = mod-lt (other / 2 + count - label / 2) turned.some

    to_low : (other : ℕ) → IsOver other → to other < count
    to_low other (inl (is, _)) = subst (λ n. n < count) (sym (to_more other is)) turned.some
    to_low other (inr (other_low, some, _)) =
        subst (λ n. n < count) (sym (to_turned other other_low)) (turned_one (from other) some (from_low other)).low

    -- both are other points: by whether their distances are steps
    by_distances : (first second : ℕ) (one two : Bool) → sq (from first) ≡ one → sq (from second) ≡ two
        → first / 2 < count → second / 2 < count
        → SideOf one (first % 2) (label % 2) → SideOf two (second % 2) (label % 2)
        → sq (distance (turn (from first)) (turn (from second)))
        ≡ cond one (cond two (sq (distance (from first) (from second))) (sq (distance (from second) (from first))))
        (cond two (sq (distance (from second) (from first))) (sq (distance (from first) (from second))))
        → Wins count steps first second ↔ (sq (distance (turn (from first)) (turn (from second))) ≡ true)
    by_distances first second true true is_one is_two first_low second_low here there gives =
        subst (λ b. Wins count steps first second ↔ (b ≡ true))
        (ap sq (turned.between (first / 2) (second / 2) (label / 2) first_low second_low low) ∙ sym gives)
        (one_side first second (sq (distance (first / 2) (second / 2))) (here ∙ sym there)
        (ahead_on_circle (first / 2) (second / 2) first_low second_low))
    by_distances first second false false is_one is_two first_low second_low here there gives =
        subst (λ b. Wins count steps first second ↔ (b ≡ true))
        (ap sq (turned.between (first / 2) (second / 2) (label / 2) first_low second_low low) ∙ sym gives)
        (one_side first second (sq (distance (first / 2) (second / 2))) (two_others first second label here there)
        (ahead_on_circle (first / 2) (second / 2) first_low second_low))
    by_distances first second true false is_one is_two first_low second_low here there gives =
        subst (λ b. Wins count steps first second ↔ (b ≡ true))
        (ap sq (turned.between (second / 2) (first / 2) (label / 2) second_low first_low low) ∙ sym gives)
        (two_sides first second (sq (distance (second / 2) (first / 2))) (λ same. there (sym same ∙ here))
        (ahead_on_circle (second / 2) (first / 2) second_low first_low))
    by_distances first second false true is_one is_two first_low second_low here there gives =
        subst (λ b. Wins count steps first second ↔ (b ≡ true))
        (ap sq (turned.between (second / 2) (first / 2) (label / 2) second_low first_low low) ∙ sym gives)
        (two_sides first second (sq (distance (second / 2) (first / 2))) (λ same. here (same ∙ there))
        (ahead_on_circle (second / 2) (first / 2) second_low first_low))

    -- the point more, and another one
    more_first : (first second : ℕ) (two : Bool) → sq (from second) ≡ two → first / 2 ≡ count
        → first % 2 ≡ label % 2 → second / 2 < count → SideOf two (second % 2) (label % 2)
        → Wins count steps first second ↔ (two ≡ true)
    more_first first second true is_two is here second_low there =
        one_side first second true (here ∙ sym there)
        (both_true true (subst (λ n. IsPointAhead count steps n (second / 2)) (sym is)
        (ahead_of_more (second / 2) second_low)) refl)
    more_first first second false is_two is here second_low there =
        two_sides first second false (λ same. there (sym same ∙ here))
        (both_false false (λ ahead. more_not_ahead (second / 2)
        (subst (IsPointAhead count steps (second / 2)) is ahead)) refl)

    more_second : (first second : ℕ) (one : Bool) → sq (from first) ≡ one → second / 2 ≡ count
        → second % 2 ≡ label % 2 → first / 2 < count → SideOf one (first % 2) (label % 2)
        → Wins count steps first second ↔ (not one ≡ true)
    more_second first second true is_one is there first_low here =
        one_side first second false (here ∙ sym there)
        (both_false false (λ ahead. more_not_ahead (first / 2)
        (subst (IsPointAhead count steps (first / 2)) is ahead)) refl)
    more_second first second false is_one is there first_low here =
        two_sides first second true (λ same. here (same ∙ there))
        (both_true true (subst (λ n. IsPointAhead count steps n (first / 2)) (sym is)
        (ahead_of_more (first / 2) first_low)) refl)

    -- of two labels above, one beats the other if its name does
    names_beat : (first second : ℕ) → IsOver first → IsOver second
        → Wins count steps first second ↔ (sq (distance (to first) (to second)) ≡ true)
    names_beat first second (inl (is, here)) (inl (also, there)) =
        subst (λ n. Wins count steps first second ↔ (sq (distance n (to second)) ≡ true)) (sym (to_more first is))
        (subst (λ n. Wins count steps first second ↔ (sq (distance 0 n) ≡ true)) (sym (to_more second also))
        (one_side first second (sq (distance 0 0)) (here ∙ sym there)
        (both_false (sq (distance 0 0)) (λ ahead. more_not_ahead (first / 2)
        (subst (IsPointAhead count steps (first / 2)) also ahead)) turned.no_whole)))
    names_beat first second (inl (is, here)) (inr (second_low, some, there)) =
        let two = turned_one (from second) some (from_low second) in
        let turned_back = turned_one (turn (from second)) two.some two.low in
        let gives : sq (from second) ≡ sq (distance 0 (turn (from second)))
        = (sym (ap sq two.again) ∙ turned_back.other) ∙ sym turned_back.opposite in
        subst (λ n. Wins count steps first second ↔ (sq (distance n (to second)) ≡ true)) (sym (to_more first is))
        (subst (λ n. Wins count steps first second ↔ (sq (distance 0 n) ≡ true)) (sym (to_turned second second_low))
        (subst (λ b. Wins count steps first second ↔ (b ≡ true)) gives
        (more_first first second (sq (from second)) refl is here second_low there)))
    names_beat first second (inr (first_low, some, here)) (inl (is, there)) =
        let one = turned_one (from first) some (from_low first) in
        let gives : not (sq (from first)) ≡ sq (distance (turn (from first)) 0)
        = sym one.other ∙ ap sq (sym (turned.from_none (turn (from first)) one.low)) in
        subst (λ n. Wins count steps first second ↔ (sq (distance n (to second)) ≡ true)) (sym
        (to_turned first first_low))
        (subst (λ n. Wins count steps first second ↔ (sq (distance (turn (from first)) n) ≡ true))
        (sym (to_more second is))
        (subst (λ b. Wins count steps first second ↔ (b ≡ true)) gives
        (more_second first second (sq (from first)) refl is there first_low here)))
    names_beat first second (inr (first_low, some, here)) (inr (second_low, some_second, there)) =
        subst (λ n. Wins count steps first second ↔ (sq (distance n (to second)) ≡ true)) (sym
        (to_turned first first_low))
        (subst (λ n. Wins count steps first second ↔ (sq (distance (turn (from first)) n) ≡ true))
        (sym (to_turned second second_low))
        (by_distances first second (sq (from first)) (sq (from second)) refl refl first_low second_low here there
        (turned_two (from first) (from second) some (from_low first) some_second (from_low second))))

    -- ---- the label of a name

    abbrev side_of : Bool → ℕ
    side_of true = label % 2
    side_of false = 1 - label % 2

    abbrev back : ℕ → ℕ
    back zero = 2 * count + label % 2
    back (suc name) = 2 * ((label / 2 + turn (suc name)) % count) + side_of (sq (turn (suc name)))

    record Again (name : ℕ) : Type 0 where
      fits : back name < 2 * (count + 1)
      wins : Wins count steps (back name) label
      is : to (back name) ≡ name

    half_of : (n side : ℕ) → side < 2 → ((2 * n + side) / 2 ≡ n) × ((2 * n + side) % 2 ≡ side)
    half_of n side few = (omega (arith, few), omega (arith, few))

    again_more : Again 0
    again_more =
        let half = half_of count (label % 2) (omega arith) in record {
          fits = omega arith;
          wins = inl (half.1, inl (half.0, low));
          is = to_more (2 * count + label % 2) half.0;
        }

    again_at : (name point : ℕ) (one : Bool) → 0 < name → name < count → point ≡ (label / 2 + turn name) % count
        → sq (turn name) ≡ one → (2 * point + side_of one < 2 * (count + 1))
        × Wins count steps (2 * point + side_of one) label × (to (2 * point + side_of one) ≡ name)
    again_at name point one some name_low point_is is =
        let its = turned_one name some name_low in
        let point_low : point < count
        = subst (λ n. n < count) (sym point_is) (mod-lt (label / 2 + turn name) turned.some) in
        let ahead : distance point (label / 2) ≡ turn name
        = ap (λ n. distance n (label / 2)) point_is ∙ turned.restored (label / 2) (turn name) low its.low in
        by one is point_low ahead its
      where
        by : (one : Bool) → sq (turn name) ≡ one → point < count → distance point (label / 2) ≡ turn name → Turned name
            → (2 * point + side_of one < 2 * (count + 1)) × Wins count steps (2 * point + side_of one) label
            × (to (2 * point + side_of one) ≡ name)
        by true is point_low ahead its =
            let half = half_of point (label % 2) (omega arith) in (
              omega (arith, point_low),
              inl (
                half.1,
                subst (λ n. IsPointAhead count steps n (label / 2)) (sym half.0)
                    ((ahead_on_circle point (label / 2) point_low low).1 (ap sq ahead ∙ is)),
              ),
              to_turned (2 * point + label % 2) (subst (λ n. n < count) (sym half.0) point_low)
                  ∙ (ap (λ n. turn (distance n (label / 2))) half.0 ∙ (ap turn ahead ∙ its.again)),
            )
        by false is point_low ahead its =
            let half = half_of point (1 - label % 2) (omega arith) in
            let turn_one = turned_one (turn name) its.some its.low in
            let round : distance (label / 2) point ≡ (0 + count - turn name) % count
            = turned.between (label / 2) point (label / 2) low point_low low
            ∙ (ap (λ n. (n + count - distance point (label / 2)) % count) (turned.itself (label / 2) low)
            ∙ ap (λ n. (0 + count - n) % count) ahead) in (
              omega (arith, point_low),
              inr (
                λ same. omega (arith, same, half.1),
                subst (λ n. IsPointAhead count steps (label / 2) n) (sym half.0)
                    ((ahead_on_circle (label / 2) point low point_low).1
                    (ap sq round ∙ (turn_one.opposite ∙ ap not is))),
              ),
              to_turned (2 * point + (1 - label % 2)) (subst (λ n. n < count) (sym half.0) point_low)
                  ∙ (ap (λ n. turn (distance n (label / 2))) half.0 ∙ (ap turn ahead ∙ its.again)),
            )

    again : (name : ℕ) → name < count → Again name
    again zero name_low = again_more
    again (suc name) name_low =
        let found = again_at (suc name) ((label / 2 + turn (suc name)) % count) (sq (turn (suc name))) (omega arith)
        name_low refl refl in
        record { fits = found.0; wins = found.1; is = found.2 }

  -- ---- above a label of the point more

  module _ (label : ℕ) (is_more : label / 2 ≡ count) where
    over_more : (other : ℕ) → Wins count steps other label → (other / 2 < count) × (other % 2 ≢ label % 2)
    over_more other (inl (same, ahead)) =
        absurd (more_not_ahead (other / 2) (subst (IsPointAhead count steps (other / 2)) is_more ahead))
    over_more other (inr (differs, inl (_, other_low))) = (other_low, differs)
    over_more other (inr (differs, inr (label_low, other_low, _))) = (other_low, differs)

    abbrev back_more : ℕ → ℕ
    back_more name = 2 * name + (1 - label % 2)

  -- ---- any label

  module _ (board part : PlainBoard) (cover : IsDoubleCover count steps board) (circle : IsCircle count steps part)
      (label : ℕ) (low : label < board.labels) where
    labels_are : board.labels ≡ 2 * (count + 1)
    labels_are = cover.labels_are

    beats_on_circle : (x y : ℕ) → x < count → y < count → Dominates part x y ↔ (sq (distance x y) ≡ true)
    beats_on_circle x y x_low y_low =
        let is = circle.beats x y x_low y_low in (
          λ beats. is_found steps (distance x y) (is.0 beats),
          λ says. is.1 (among steps (distance x y) says),
        )

    above_circle : label / 2 < count → (to_name : ℕ → ℕ) × (back_label : ℕ → ℕ)
        × AreAbove board part label to_name back_label
    above_circle point_low = (
      to label point_low,
      back label point_low,
      record {
        there = λ other other_low beats.
            subst (λ n. to label point_low other < n) (sym circle.labels_are)
            (to_low label point_low other (over label point_low other
            ((cover.beats other label other_low low).0 beats)));
        again = λ name name_low.
            let its = again label point_low name (subst (λ n. name < n) circle.labels_are name_low) in
            let fits : back label point_low name < board.labels
            = subst (λ n. back label point_low name < n) (sym labels_are) its.fits in
            (fits, (cover.beats (back label point_low name) label fits low).1 its.wins, its.is);
        beats = λ first second first_low second_low first_beats second_beats.
            let one = over label point_low first ((cover.beats first label first_low low).0 first_beats) in
            let two = over label point_low second ((cover.beats second label second_low low).0 second_beats) in
            let names = names_beat label point_low first second one two in
            let on_board = cover.beats first second first_low second_low in
            let on_part = beats_on_circle (to label point_low first) (to label point_low second)
            (to_low label point_low first one) (to_low label point_low second two) in
            (λ beats. on_part.1 (names.0 (on_board.0 beats)), λ beats. on_board.1 (names.1 (on_part.0 beats)));
      },
    )

    above_more : label / 2 ≡ count → (to_name : ℕ → ℕ) × (back_label : ℕ → ℕ)
        × AreAbove board part label to_name back_label
    above_more is_more = (
      λ other. other / 2,
      back_more label is_more,
      record {
        there = λ other other_low beats.
            subst (λ n. other / 2 < n) (sym circle.labels_are)
            (over_more label is_more other ((cover.beats other label other_low low).0 beats)).0;
        again = λ name name_low.
            let name_fits : name < count = subst (λ n. name < n) circle.labels_are name_low in
            let other : ℕ = 2 * name + (1 - label % 2) in
            let half : other / 2 ≡ name = omega arith in
            let side : other % 2 ≡ 1 - label % 2 = omega arith in
            let fits : other < board.labels = omega (arith, name_fits, labels_are) in (
              fits,
              (cover.beats other label fits low).1 (inr (
                λ same. omega (arith, same, side),
                inl (is_more, subst (λ n. n < count) (sym half) name_fits),
              )),
              half,
            );
        beats = λ first second first_low second_low first_beats second_beats.
            let one = over_more label is_more first ((cover.beats first label first_low low).0 first_beats) in
            let two = over_more label is_more second ((cover.beats second label second_low low).0 second_beats) in
            let wins = one_side first second (sq (distance (first / 2) (second / 2)))
            (two_others first second label one.1 two.1)
            (ahead_on_circle (first / 2) (second / 2) one.0 two.0) in
            let on_board = cover.beats first second first_low second_low in
            let on_part = beats_on_circle (first / 2) (second / 2) one.0 two.0 in
            (λ beats. on_part.1 (wins.0 (on_board.0 beats)), λ beats. on_board.1 (wins.1 (on_part.0 beats)));
      },
    )

    pub above_cover : (to_name : ℕ → ℕ) × (back_label : ℕ → ℕ) × AreAbove board part label to_name back_label
    above_cover =
        elim (cases_lt (label / 2) count) [
          | inl point_low ↦ above_circle point_low
          | inr none ↦ above_more (omega (arith, none, low, labels_are))
        ]

-- ---- the double cover as a board

ahead_or_not : (count : ℕ) (steps : List ℕ) (x y : ℕ)
    → IsPointAhead count steps x y ⊎ (IsPointAhead count steps x y → ⊥)
ahead_or_not count steps x y =
    elim (cases_lt y count) [
      | inr none ↦ inr (λ ahead. elim ahead [
        | inl more ↦ omega (arith, more.1, none)
        | inr on ↦ omega (arith, on.1, none)
      ])
      | inl y_low ↦ elim (cases_eq x count) [
        | inl is ↦ inl (inl (is, y_low))
        | inr not_more ↦ elim (cases_lt x count) [
          | inr past ↦ inr (λ ahead. elim ahead [
            | inl more ↦ not_more more.0
            | inr on ↦ omega (arith, on.0, past)
          ])
          | inl x_low ↦ elim (contains_or_not steps ((x + count - y) % count)) [
            | inl has ↦ inl (inr (x_low, y_low, has))
            | inr lacks ↦ inr (λ ahead. elim ahead [
              | inl more ↦ not_more more.0
              | inr on ↦ lacks on.2
            ])
          ]
        ]
      ]
    ]

wins_or_not : (count : ℕ) (steps : List ℕ) (x y : ℕ) → Wins count steps x y ⊎ (Wins count steps x y → ⊥)
wins_or_not count steps x y =
    elim (cases_eq (x % 2) (y % 2)) [
      | inl same ↦ elim (ahead_or_not count steps (x / 2) (y / 2)) [
        | inl ahead ↦ inl (inl (same, ahead))
        | inr behind ↦ inr (λ wins. elim wins [ inl here ↦ behind here.1 | inr other ↦ other.0 same ])
      ]
      | inr differs ↦ elim (ahead_or_not count steps (y / 2) (x / 2)) [
        | inl ahead ↦ inl (inr (differs, ahead))
        | inr behind ↦ inr (λ wins. elim wins [ inl here ↦ differs here.0 | inr other ↦ behind other.1 ])
      ]
    ]

module _ (count : ℕ) (steps : List ℕ)
    (circle_one_way : (x y : ℕ) → Ahead count steps x y → Ahead count steps y x → ⊥) where
  points_one_way : (x y : ℕ) → IsPointAhead count steps x y → IsPointAhead count steps y x → ⊥
  points_one_way x y (inl (is, y_low)) (inl (also, x_low)) = omega (arith, is, x_low)
  points_one_way x y (inl (is, y_low)) (inr (y_there, x_low, has)) = omega (arith, is, x_low)
  points_one_way x y (inr (x_low, y_low, has)) (inl (is, x_there)) = omega (arith, is, y_low)
  points_one_way x y (inr (x_low, y_low, has)) (inr (y_there, x_there, back)) = circle_one_way x y has back

  wins_one_way : (x y : ℕ) → Wins count steps x y → Wins count steps y x → ⊥
  wins_one_way x y (inl (same, there)) (inl (also, back)) = points_one_way (x / 2) (y / 2) there back
  wins_one_way x y (inl (same, there)) (inr (differs, back)) = differs (sym same)
  wins_one_way x y (inr (differs, there)) (inl (same, back)) = differs (sym same)
  wins_one_way x y (inr (differs, there)) (inr (also, back)) = points_one_way (y / 2) (x / 2) there back

  pub cover_board : (board : PlainBoard) × IsDoubleCover count steps board × ArePairs board.labels board.pairs
  cover_board =
      let found = rule_board (2 * (count + 1)) (Wins count steps) 0 [] (λ x y both. wins_or_not count steps x y) in (
        found.0,
        record {
          labels_are = found.1.labels_are;
          beats = λ x y x_low y_low. found.1.beats x y (subst (λ n. x < n) found.1.labels_are x_low)
              (subst (λ n. y < n) found.1.labels_are y_low);
        },
        found.1.pairs wins_one_way,
      )
