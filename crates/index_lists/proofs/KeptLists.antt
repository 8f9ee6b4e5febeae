-- The invariant of all stores, and its facts of one list.
use Rattle.std.proofs.Common.{◌≡◌, ◌≢◌, ℕ, ◌+◌, ◌<◌, ◌≤◌, inl, inr, List, ◌∷◌, length, refl, ap, arith}
use Rattle.std.proofs.lemmas.Bool.{cases_eq, cases_lt}
use Rattle.index_lists.specs.Lists.{Lists, times, without_node, IsHome, AreLists}
use Rattle.index_lists.proofs.Times.{same_is, differ_is, without-absent, distinct-length}

module _ (s : Lists) (are : AreLists s) where
  -- a list has no more nodes than there are
  pub fits : (l : ℕ) → length (s.list l) ≤ s.nodes
  fits l = distinct-length s.nodes (s.list l) (are.once l) (λ node g.
      (let o = are.below l node in elim (cases_lt 0 (times node (s.list l))) [
        | inl h ↦ absurd (let b = o h in omega arith)
        | inr h ↦ omega arith
      ]))

  -- a node that is in a list has that list as its home
  pub home-of_in : (l node : ℕ) → 0 < times node (s.list l) → IsHome s node l
  home-of_in l node h = record {
    home_in = elim (cases_lt l s.lists) [
      | inl lt ↦ lt
      | inr ge ↦ absurd (let e = ap (times node) (are.beyond l ge) in omega arith)
    ];
    times_is = λ m. elim (cases_eq l m) [
      | inl e ↦ (let o = are.once l node in rw (← e, same_is l l refl) (omega arith))
      | inr d ↦ rw (differ_is l m d) (elim (cases_lt 0 (times node (s.list m))) [
        | inl k ↦ absurd (d (are.apart l m node h k))
        | inr k ↦ omega arith
      ])
    ];
  }

  -- a node that is in a list is taken out of no other
  pub elsewhere-same : (l m node : ℕ) → 0 < times node (s.list l) → m ≢ l → without_node node (s.list m) ≡ s.list m
  elsewhere-same l m node h d = without-absent node (s.list m) (elim (cases_lt 0 (times node (s.list m))) [
    | inl k ↦ absurd (d (are.apart m l node k h))
    | inr k ↦ omega arith
  ])

-- a first node taken out
pub first-out : (node : ℕ) (xs : List ℕ) → times node (node ∷ xs) ≤ 1 → without_node node (node ∷ xs) ≡ xs
first-out node xs once =
    let here : times node (node ∷ xs) ≡ 1 + times node xs = rw (same_is node node refl) refl in
    rw (same_is node node refl) (without-absent node xs (omega arith))
