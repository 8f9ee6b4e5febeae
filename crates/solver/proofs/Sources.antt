-- The members of a gap that pass a test, by label.
use Rattle.std.proofs.Common.{◌≡◌, ℕ, zero, suc, ◌+◌, ◌<◌, ◌≤◌, ◌&&◌, Bool, true, false, cond, inl, inr, refl, sym, ap}
use Rattle.std.proofs.Common.{◌∙◌, subst, arith, List, ◌∷◌}
use Rattle.index_lists.specs.Lists.{times}
use Rattle.index_lists.proofs.Cited.{times-later}
use Rattle.graphs.specs.Graph.{PlainGraph, IsGraph, is_member}
use Rattle.solver.specs.Inside.Tables.{members_from}
use Rattle.graphs.proofs.Cited.{one-place, member-is, member-at}
use Rattle.graphs.proofs.Cited.{both_true, and_true, true_or_false, true_not_false, same_or_not, same_is}

-- a member that fails the test is left out, and one that passes comes first
pub members-skip : (a : PlainGraph) (test : ℕ → Bool) (g from n : ℕ) → test (a.member g from) ≡ false
    → members_from a test g from (suc n) ≡ members_from a test g (from + 1) n
members-skip a test g from n e = rw e refl

pub members-take : (a : PlainGraph) (test : ℕ → Bool) (g from n : ℕ) → test (a.member g from) ≡ true
    → members_from a test g from (suc n) ≡ a.member g from ∷ members_from a test g (from + 1) n
members-take a test g from n e = rw e refl

-- a number in the list is a member of the gap that passes the test
pub record IsMember (a : PlainGraph) (test : ℕ → Bool) (g from n x : ℕ) : Type 0 where
  pub label : ℕ
  pub at_least : from ≤ label
  pub below : label < from + n
  pub passes : test x ≡ true
  pub is : a.member g label ≡ x

member-later : (a : PlainGraph) (test : ℕ → Bool) (g from n x : ℕ) → IsMember a test g (from + 1) n x
    → IsMember a test g from (suc n) x
member-later a test g from n x rest =
    let low = rest.at_least in
    let high = rest.below in
    record { label = rest.label; at_least = omega arith; below = omega arith; passes = rest.passes; is = rest.is }

pub members-are : (a : PlainGraph) (test : ℕ → Bool) (g from n x : ℕ) → 0 < times x (members_from a test g from n)
    → IsMember a test g from n x
members-are a test g from zero x h = absurd (omega arith)
members-are a test g from (suc n) x h = elim (true_or_false (test (a.member g from))) [
  | inr fails ↦ member-later a test g from n x
      (members-are a test g (from + 1) n x (subst (λ xs. 0 < times x xs) (members-skip a test g from n fails) h))
  | inl passes ↦ elim (same_or_not (a.member g from) x) [
    | inl here ↦ record {
      label = from;
      at_least = omega arith;
      below = omega arith;
      passes = ap test (sym here) ∙ passes;
      is = here;
    }
    | inr other ↦ member-later a test g from n x (members-are a test g (from + 1) n x
        (let skipped = ap (times x) (members-take a test g from n passes)
        ∙ times-later (a.member g from) x (members_from a test g (from + 1) n) other in omega arith))
  ]
]

first_more : (x node : ℕ) (xs : List ℕ) → x ≡ node → times node (x ∷ xs) ≡ 1 + times node xs
first_more x node xs e = rw (same_is x node e) refl

module _ (a : PlainGraph) (is : IsGraph a) (test : ℕ → Bool) (g : ℕ) (i : g < a.gaps) where
  one_label : (v w : ℕ) → v < a.places → w < a.places → a.member g v ≡ a.member g w → v ≡ w
  one_label v w low high e = one-place a is g v w i low high e

  -- each member is in the list once
  pub member-once : (from n v : ℕ) → from + n ≤ a.places → from ≤ v → v < from + n → test (a.member g v) ≡ true
      → times (a.member g v) (members_from a test g from n) ≡ 1
  member-once from zero v most low high passes = absurd (omega arith)
  member-once from (suc n) v most low high passes = elim (same_or_not from v) [
    | inl here ↦ (
        let first = members-take a test g from n (ap (λ w. test (a.member g w)) here ∙ passes) in
        let one = ap (times (a.member g v)) first
        ∙ first_more (a.member g from) (a.member g v) (members_from a test g (from + 1) n) (ap (a.member g) here) in
        let none : times (a.member g v) (members_from a test g (from + 1) n) ≡ 0 = none_behind v here in
        omega arith)
    | inr other ↦ (
        let rest = member-once (from + 1) n v (omega arith) (omega arith) (omega arith) passes in
        elim (true_or_false (test (a.member g from))) [
          | inr fails ↦ ap (times (a.member g v)) (members-skip a test g from n fails) ∙ rest
          | inl first ↦ ap (times (a.member g v)) (members-take a test g from n first)
              ∙ times-later (a.member g from) (a.member g v) (members_from a test g (from + 1) n)
              (λ e. other (one_label from v (omega arith) (omega arith) e)) ∙ rest
        ])
  ]
    where
      zero_or_some : (k : ℕ) → (0 < k → ⊥) → k ≡ 0
      zero_or_some zero none = refl
      zero_or_some (suc k) none = absurd (none (omega arith))

      none_behind : (w : ℕ) → from ≡ w → times (a.member g w) (members_from a test g (from + 1) n) ≡ 0
      none_behind w here = zero_or_some (times (a.member g w) (members_from a test g (from + 1) n)) (λ some.
          let found = members-are a test g (from + 1) n (a.member g w) some in
          let least = found.at_least in
          let most_label = found.below in
          let same = one_label found.label w (omega arith) (omega arith) found.is in
          omega arith)

  -- a configuration is in the list once if it passes the test and is a member, and else never
  pub member-times : (x : ℕ) → times x (members_from a test g 0 a.places) ≡ cond (test x && is_member a g x) 1 0
  member-times x = elim (true_or_false (test x && is_member a g x)) [
    | inl both ↦ (
        let parts = both_true (test x) (is_member a g x) both in
        let w = member-at a g x parts.1 in
        ap (λ y. times y (members_from a test g 0 a.places)) (sym w.2)
        ∙ member-once 0 a.places w.0 (omega arith) (omega arith) (let low = w.1 in omega arith) (ap test w.2 ∙ parts.0)
        ∙ sym (ap (λ b. cond {A = ℕ} b 1 0) both))
    | inr not_both ↦ none (times x (members_from a test g 0 a.places)) (λ some.
        let found = members-are a test g 0 a.places x some in
        let low = found.below in
        true_not_false (test x && is_member a g x)
        (and_true (test x) (is_member a g x) found.passes
        (member-is a g found.label x (omega arith) found.is)) not_both)
        ∙ sym (ap (λ b. cond {A = ℕ} b 1 0) not_both)
  ]
    where
      none : (k : ℕ) → (0 < k → ⊥) → k ≡ 0
      none zero h = refl
      none (suc k) h = absurd (h (omega arith))
