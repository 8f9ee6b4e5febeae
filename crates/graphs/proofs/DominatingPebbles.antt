-- The gap of the pebble that dominates, found among the first pebbles.
use Rattle.std.proofs.Common.{◌≡◌, ℕ, ◌<◌, ◌≤◌, ◌↔◌, ◌==◌, ◌&&◌, ◌||◌, not, nat_lt, Bool, inl, inr}
use Rattle.std.proofs.Common.{true, false, cond, zero, suc, refl, sym, ap, ◌∙◌, subst, arith, List, length, get_or}
use Rattle.std.proofs.lemmas.Bool.{cases_lt, lt-ltb, ltb-true, le-ltb}
use Rattle.std.proofs.lemmas.Bool.Decides.{nat_tests}
use Rattle.std.proofs.lemmas.List.Elements.{All-from_get_or, All-weaker}
use Rattle.std.proofs.lemmas.List.Folds.{list_any_at, list_any_none}
use Rattle.std.proofs.lemmas.List.Sums.{AllPass-from_list_all, list_all-from_AllPass}
use Rattle.std.specs.List.{list_all, remove}
use Rattle.board_text.specs.PlainBoard.{PlainBoard, Dominates, DominatesPlace}
use Rattle.positions.specs.Game.{Legal}
use Rattle.positions.specs.Gaps.{IsDominator}
use Rattle.positions.proofs.Cited.{beats_or_not}
use Rattle.classes.proofs.Cited.{all-class_of, of-all-class_of, dominator-answers}
use Rattle.graphs.specs.Struck.{beats, beats_place, is_dominator, struck_among}
use Rattle.graphs.proofs.LastingRanks.{both_true, and_true, true_or_false, true_not_false, same_is}

-- ---- tests

pair_is : (a b : ℕ × ℕ) → a.0 == b.0 && a.1 == b.1 ≡ true → a ≡ b
pair_is a b e =
    let both = both_true (a.0 == b.0) (a.1 == b.1) e in
    let first : a.0 ≡ b.0 = (let t = both.0 in grind (arith, nat_tests)) in
    let second : a.1 ≡ b.1 = (let t = both.1 in grind (arith, nat_tests)) in
    λ i. (first i, second i)

pair_test : (a b : ℕ × ℕ) → a ≡ b → a.0 == b.0 && a.1 == b.1 ≡ true
pair_test a b e =
    and_true (a.0 == b.0) (a.1 == b.1) (same_is a.0 b.0 (ap (λ (p : ℕ × ℕ). p.0) e))
    (same_is a.1 b.1 (ap (λ (p : ℕ × ℕ). p.1) e))

beats_is : (b : PlainBoard) (x y : ℕ) → (beats b x y ≡ true) ↔ Dominates b x y
beats_is b x y = (
  λ e. elim (beats_or_not b x y) [
    | inl found ↦ found
    | inr none ↦ absurd (true_not_false (beats b x y) e (list_any_none (λ pair. pair.0 == x && pair.1 == y) b.pairs
        (All-from_get_or (λ pair. (pair.0 == x && pair.1 == y) ≡ false) b.pairs (x, y) (λ k inside.
        elim (true_or_false ((get_or b.pairs k (x, y)).0 == x && (get_or b.pairs k (x, y)).1 == y)) [
          | inl here ↦ absurd (none (k, inside, pair_is (get_or b.pairs k (x, y)) (x, y) here))
          | inr other ↦ other
        ]))))
  ],
  λ found.
      list_any_at (λ pair. pair.0 == x && pair.1 == y) b.pairs found.0 (x, y) found.1
      (pair_test (get_or b.pairs found.0 (x, y)) (x, y) found.2),
)

beats_place_is : (b : PlainBoard) (label place : ℕ) → (beats_place b label place ≡ true) ↔ DominatesPlace b label place
beats_place_is b label place = elim (cases_lt place b.labels) [
  | inl held ↦ subst (λ (t : Bool). (not t || beats b label place ≡ true) ↔ DominatesPlace b label place)
      (sym (lt-ltb place b.labels held)) (
        λ e _. (beats_is b label place).0 e,
        λ beaten. (beats_is b label place).1 (beaten held),
      )
  | inr blank ↦ subst (λ (t : Bool). (not t || beats b label place ≡ true) ↔ DominatesPlace b label place)
      (sym (le-ltb place b.labels blank)) (
        λ e held. absurd (omega arith),
        λ beaten. refl,
      )
]

pub is_dominator_is : (b : PlainBoard) (c : List ℕ) (p : ℕ) → length c ≡ b.pebbles → p < b.pebbles
    → (is_dominator b c p ≡ true) ↔ IsDominator b c p
is_dominator_is b c p size low =
    let label : ℕ = get_or c p 0 in
    let others : List ℕ = remove c p in
    let told = dominator-answers b c p size low in (
      λ e.
          let parts = both_true (nat_lt label b.labels) (list_all (beats_place b label) others) e in
          told.1 (record {
            is_label = ltb-true label b.labels parts.0;
            dominates = all-class_of (DominatesPlace b label) others
                (All-weaker (λ y. beats_place b label y ≡ true) (DominatesPlace b label)
                (λ y h. (beats_place_is b label y).0 h) others
                (AllPass-from_list_all (beats_place b label) others parts.1));
          }),
      λ dominates.
          let answer = told.0 dominates in
          and_true (nat_lt label b.labels) (list_all (beats_place b label) others)
          (lt-ltb label b.labels answer.is_label)
          (list_all-from_AllPass (beats_place b label) others
          (All-weaker (DominatesPlace b label) (λ y. beats_place b label y ≡ true)
          (λ y h. (beats_place_is b label y).1 h) others
          (of-all-class_of (DominatesPlace b label) others answer.dominates))),
    )

-- ---- a pebble dominates exactly if its label is legal for it

pub dominator-legal : (b : PlainBoard) (c : List ℕ) (p : ℕ) → IsDominator b c p → Legal b c p (get_or c p 0)
dominator-legal b c p is = record { is_label = is.has_label; dominates = is.dominates }

pub legal-dominator : (b : PlainBoard) (c : List ℕ) (p : ℕ) → p < b.pebbles → Legal b c p (get_or c p 0)
    → IsDominator b c p
legal-dominator b c p low legal = record { is_pebble = low; has_label = legal.is_label; dominates = legal.dominates }

-- ---- the gap that is struck

-- a dominating pebble among the first ones, whose gap is struck
pub record IsStruckBy (b : PlainBoard) (c : List ℕ) (gap : ℕ → ℕ) (none count : ℕ) : Type 0 where
  pub pebble : ℕ
  pub below : pebble < count
  pub test : is_dominator b c pebble ≡ true
  pub is : struck_among b c gap none count ≡ gap pebble

cond_true : (t : Bool) (x y : ℕ) → t ≡ true → cond t x y ≡ x
cond_true t x y e = rw e refl

cond_false : (t : Bool) (x y : ℕ) → t ≡ false → cond t x y ≡ y
cond_false t x y e = rw e refl

module _ (b : PlainBoard) (c : List ℕ) (gap : ℕ → ℕ) (none : ℕ) where
  abbrev Struck : ℕ → Type 0
  Struck count = IsStruckBy b c gap none count

  here : (count : ℕ) → is_dominator b c count ≡ true → Struck (suc count)
  here count test = record {
    pebble = count;
    below = omega arith;
    test = test;
    is = cond_true (is_dominator b c count) (gap count) (struck_among b c gap none count) test;
  }

  later : (count : ℕ) → is_dominator b c count ≡ false → Struck count → Struck (suc count)
  later count test struck =
      let low = struck.below in record {
        pebble = struck.pebble;
        below = omega arith;
        test = struck.test;
        is = cond_false (is_dominator b c count) (gap count) (struck_among b c gap none count) test ∙ struck.is;
      }

  -- if a gap is struck, a pebble of it is found
  pub struck-found : (count : ℕ) → struck_among b c gap none count < none → Struck count
  struck-found zero low = absurd (omega arith)
  struck-found (suc count) low = elim (true_or_false (is_dominator b c count)) [
    | inl test ↦ here count test
    | inr test ↦
        let same = cond_false (is_dominator b c count) (gap count) (struck_among b c gap none count) test in
        later count test (struck-found count (subst (λ m. m < none) same low))
  ]

  -- if a pebble dominates, one is found
  pub dominator-found : (count pebble : ℕ) → pebble < count → is_dominator b c pebble ≡ true → Struck count
  dominator-found zero pebble low e = absurd (omega arith)
  dominator-found (suc count) pebble low e = elim (true_or_false (is_dominator b c count)) [
    | inl test ↦ here count test
    | inr test ↦ later count test (dominator-found count pebble (elim (cases_lt pebble count) [
      | inl less ↦ less
      | inr more ↦ absurd (
          let same : pebble ≡ count = omega arith in
          true_not_false (is_dominator b c count) (subst (λ m. is_dominator b c m ≡ true) same e) test)
    ]) e)
  ]

  -- what is struck is a gap, or none
  pub struck-most : (count : ℕ) → ((pebble : ℕ) → pebble < count → gap pebble ≤ none)
      → struck_among b c gap none count ≤ none
  struck-most zero each = omega arith
  struck-most (suc count) each =
      let rest = struck-most count (λ pebble low. each pebble (omega arith)) in
      let own = each count (omega arith) in
      elim (true_or_false (is_dominator b c count)) [
        | inl test ↦
            let is = cond_true (is_dominator b c count) (gap count) (struck_among b c gap none count) test in
            omega arith
        | inr test ↦
            let is = cond_false (is_dominator b c count) (gap count) (struck_among b c gap none count) test in
            omega arith
      ]
