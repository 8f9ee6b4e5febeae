-- Nodes at places of a list.
use Rattle.std.proofs.Common.{◌≡◌, ℕ, ◌+◌, ◌<◌, ◌≤◌, inl, inr, zero, suc, List, [], ◌∷◌, length, refl, sym, ap, subst}
use Rattle.std.proofs.Common.{◌∙◌, arith, Option, Some, None, IfSome, slice_get, slice_index, drop, Bool, true, false}
use Rattle.std.proofs.Common.{cond, ◌==◌}
use Rattle.std.proofs.lemmas.Bool.{cases_eq}
use Rattle.std.specs.List.{count_by, list_any}
use Rattle.std.proofs.lemmas.List.Recursion.{is_count_by}
use Rattle.std.proofs.Math.Seq.{drop-nil}
use Rattle.index_lists.specs.Lists.{Lists, times, AreLists}
use Rattle.index_lists.proofs.Times.{same_is, differ_is, times-here, times-later, times-more, times-rest}

pub some_is : (x y : ℕ) → Some x ≡ Some y → x ≡ y
some_is x y e = cc

one_more : (x node : ℕ) (xs : List ℕ) → x ≡ node → times node (x ∷ xs) ≡ 1 + times node xs
one_more x node xs e = rw (same_is x node e) refl

-- the number of times that a node is in a list is a count of std
pub counted : (node : ℕ) (xs : List ℕ) → times node xs ≡ count_by (λ x. x == node) xs
counted node xs = is_count_by (times node) (λ x. x == node) refl (λ x ys. one_of (x == node) (times node ys)) xs
  where
    one_of : (b : Bool) (n : ℕ) → cond b 1 0 + n ≡ cond b (1 + n) n
    one_of true n = refl
    one_of false n = omega arith

-- a node at a place is in the list
pub stands-at : (place node : ℕ) (xs : List ℕ) → slice_get xs place ≡ Some node → 0 < times node xs
stands-at place node [] e = absurd (cc e)
stands-at zero node (x ∷ xs) e = times-here x node xs (some_is x node e)
stands-at (suc place) node (x ∷ xs) e = times-more x node xs (stands-at place node xs e)

-- a node in the list is at some place
pub place-of : (node : ℕ) (xs : List ℕ) → 0 < times node xs → (place : ℕ) × (slice_get xs place ≡ Some node)
place-of node [] h = absurd (omega arith)
place-of node (x ∷ xs) h = elim (cases_eq x node) [
  | inl e ↦ (0, ap Some e)
  | inr d ↦ (let rest = place-of node xs (times-rest x node xs d h) in (suc rest.0, rest.1))
]

-- a node that is in a list once is at one place
pub one-place : (place other node : ℕ) (xs : List ℕ) → times node xs ≤ 1 → slice_get xs place ≡ Some node
    → slice_get xs other ≡ Some node → place ≡ other
one-place place other node [] once e f = absurd (cc e)
one-place zero zero node (x ∷ xs) once e f = refl
one-place zero (suc other) node (x ∷ xs) once e f =
    absurd (let here = one_more x node xs (some_is x node e) in let later = stands-at other node xs f in omega arith)
one-place (suc place) zero node (x ∷ xs) once e f =
    absurd (let here = one_more x node xs (some_is x node f) in let later = stands-at place node xs e in omega arith)
one-place (suc place) (suc other) node (x ∷ xs) once e f = ap suc (one-place place other node xs (omega arith) e f)

-- the place of a node is below the length
pub place-below : (place node : ℕ) (xs : List ℕ) → slice_get xs place ≡ Some node → place < length xs
place-below place node [] e = absurd (cc e)
place-below zero node (x ∷ xs) e = omega arith
place-below (suc place) node (x ∷ xs) e = let rest = place-below place node xs e in omega arith

-- a node read from a list is below the number of nodes
pub read-below : (s : Lists) (l place : ℕ) (o : Option ℕ) → AreLists s → o ≡ slice_get (s.list l) place
    → IfSome o (λ node. node < s.nodes)
read-below s l place None are e = tt
read-below s l place (Some node) are e = are.below l node (stands-at place node (s.list l) (sym e))

-- if the node is in the list from the place on, the index of the place is within the list
pub get-inside : (node : ℕ) (xs : List ℕ) (place : ℕ) → 0 < times node (drop place xs) → slice_index xs place ≡ node
    → slice_get xs place ≡ Some node
get-inside node [] place h e = absurd (let none = ap (times node) (drop-nil {A = ℕ} place) in omega arith)
get-inside node (x ∷ xs) zero h e = ap Some e
get-inside node (x ∷ xs) (suc place) h e = get-inside node xs place h e

-- a node is at one place of one list
pub same-place : (s : Lists) (h l node at place : ℕ) → AreLists s → slice_get (s.list h) at ≡ Some node
    → slice_get (s.list l) place ≡ Some node
    → (l ≡ h) × (place ≡ at)
same-place s h l node at place are e f =
    let same : l ≡ h = are.apart l h node (stands-at place node (s.list l) f) (stands-at at node (s.list h) e) in (
      same,
      one-place place at node (s.list h) (are.once h node)
          (subst (λ m. slice_get (s.list m) place ≡ Some node) same f) e,
    )

-- a list in which the search finds a node has it
pub any-in : (node : ℕ) (xs : List ℕ) → list_any (λ y. y == node) xs ≡ true → 0 < times node xs
any-in node [] e = absurd (cc e)
any-in node (x ∷ xs) e = elim (cases_eq x node) [
  | inl d ↦ times-here x node xs d
  | inr d ↦ times-more x node xs
      (any-in node xs (let f : list_any (λ y. y == node) (x ∷ xs) ≡ list_any (λ y. y == node) xs =
      rw (differ_is x node d) refl in sym f ∙ e))
]

pub any-out : (node : ℕ) (xs : List ℕ) → list_any (λ y. y == node) xs ≡ false → times node xs ≡ 0
any-out node [] e = refl
any-out node (x ∷ xs) e = elim (cases_eq x node) [
  | inl d ↦ absurd (let f : list_any (λ y. y == node) (x ∷ xs) ≡ true = rw (same_is x node d) refl in
      let g : true ≡ false = sym f ∙ e in cc g)
  | inr d ↦ times-later x node xs d
      ∙ any-out node xs (let f : list_any (λ y. y == node) (x ∷ xs) ≡ list_any (λ y. y == node) xs =
      rw (differ_is x node d) refl in sym f ∙ e)
]
