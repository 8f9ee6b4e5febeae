-- The answers of the links.
use Rattle.std.proofs.Common.{◌≡◌, ℕ, ◌+◌, ◌-◌, ◌<◌, ◌≤◌, inl, inr, zero, suc, List, [], ◌∷◌, length, Some, None}
use Rattle.std.proofs.Common.{IfSome, sym, ap, ◌∙◌, arith, add-one, slice_get}
use Rattle.std.proofs.lemmas.Bool.{cases_eq}
use Rattle.index_lists.specs.Inside.Links.{IsLinked, unless_none}
use Rattle.index_lists.proofs.Times.{same_is, differ_is, cond_same, cond_other}
use Rattle.index_lists.proofs.Places.{some_is}

pub shown : (none x : ℕ) → x < none → unless_none none x ≡ Some x
shown none x i = cond_other x none None (Some x) (λ e. omega arith)

pub unless-below : (none x : ℕ) → x ≤ none → IfSome (unless_none none x) (λ node. node < none)
unless-below none x h = elim (cases_eq x none) [
  | inl e ↦ rw (same_is x none e) tt
  | inr d ↦ rw (differ_is x none d) (omega arith)
]

pub first-read : (none : ℕ) (next prev : ℕ → ℕ) (last before at : ℕ) (xs : List ℕ)
    → IsLinked none next prev last before at xs → slice_get xs 0 ≡ unless_none none at
first-read none next prev last before at [] c = sym (cond_same at none None (Some at) c.0)
first-read none next prev last before at (x ∷ xs) c =
    ap Some (sym c.0) ∙ sym (cond_other at none None (Some at) (λ e. (let a = c.0 in let b = c.1 in omega arith)))

-- the last place of a list has its last node
last-step : (none : ℕ) (next prev : ℕ → ℕ) (last before at x : ℕ) (xs : List ℕ)
    → IsLinked none next prev last before at (x ∷ xs) → slice_get (x ∷ xs) (length xs) ≡ Some last
last-step none next prev last before at x [] c = ap Some c.3.1
last-step none next prev last before at x (y ∷ ys) c = last-step none next prev last x (next x) y ys c.3

last-in : (none : ℕ) (next prev : ℕ → ℕ) (last before at x : ℕ) (xs : List ℕ)
    → IsLinked none next prev last before at (x ∷ xs) → last < none
last-in none next prev last before at x [] c = rw (← c.3.1) c.1
last-in none next prev last before at x (y ∷ ys) c = last-in none next prev last x (next x) y ys c.3

pub last-read : (none : ℕ) (next prev : ℕ → ℕ) (last at : ℕ) (xs : List ℕ) → IsLinked none next prev last none at xs
    → slice_get xs (length xs - 1) ≡ unless_none none last
last-read none next prev last at [] c = sym (cond_same last none None (Some last) (sym c.1))
last-read none next prev last at (x ∷ xs) c =
    let e : length (x ∷ xs) - 1 ≡ length xs = omega arith in
    rw e (last-step none next prev last none at x xs c
    ∙ sym (shown none last (last-in none next prev last none at x xs c)))

pub after-read : (none : ℕ) (next prev : ℕ → ℕ) (last before at place node : ℕ) (xs : List ℕ)
    → IsLinked none next prev last before at xs → slice_get xs place ≡ Some node
    → slice_get xs (place + 1) ≡ unless_none none (next node)
after-read none next prev last before at place node xs c e = rw add-one (step place before at xs c e)
  where
    step : (place before at : ℕ) (xs : List ℕ) → IsLinked none next prev last before at xs
        → slice_get xs place ≡ Some node → slice_get xs (suc place) ≡ unless_none none (next node)
    step place before at [] c e = absurd (cc e)
    step zero before at (x ∷ xs) c e =
        first-read none next prev last x (next x) xs c.3 ∙ ap (λ y. unless_none none (next y)) (some_is x node e)
    step (suc place) before at (x ∷ xs) c e = step place x (next x) xs c.3 e

-- the first node of a list leads back to the node before the list, or to none
pub front-read : (none : ℕ) (next prev : ℕ → ℕ) (last before at node : ℕ) (xs : List ℕ)
    → IsLinked none next prev last before at xs → slice_get xs 0 ≡ Some node → prev node ≡ before
front-read none next prev last before at node [] c e = absurd (cc e)
front-read none next prev last before at node (x ∷ xs) c e = sym (ap prev (some_is x node e)) ∙ c.2

pub before-read : (none : ℕ) (next prev : ℕ → ℕ) (last before at place node : ℕ) (xs : List ℕ)
    → IsLinked none next prev last before at xs → slice_get xs (place + 1) ≡ Some node
    → slice_get xs place ≡ unless_none none (prev node)
before-read none next prev last before at place node xs c e = step place before at xs c (rw (← add-one) e)
  where
    step : (place before at : ℕ) (xs : List ℕ) → IsLinked none next prev last before at xs
        → slice_get xs (suc place) ≡ Some node → slice_get xs place ≡ unless_none none (prev node)
    step place before at [] c e = absurd (cc e)
    step zero before at (x ∷ xs) c e =
        sym (ap (unless_none none) (front-read none next prev last x (next x) node xs c.3 e) ∙ shown none x c.1)
    step (suc place) before at (x ∷ xs) c e = step place x (next x) xs c.3 e
