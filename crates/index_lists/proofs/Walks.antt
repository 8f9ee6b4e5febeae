-- A walk along a list that appends the nodes that it passes.
use Rattle.std.proofs.Common.{◌≡◌, ℕ, ◌+◌, ◌<◌, ◌≤◌, zero, suc, List, [], ◌∷◌, ◌++◌, length, take, sym, ap, ◌∙◌, arith}
use Rattle.std.proofs.Common.{length-append, Option, Some, None, slice_get}
use Rattle.std.proofs.lemmas.List.{append_assoc, append-nil, take_all, length-take-le}
use Rattle.index_lists.proofs.Places.{place-below}

-- the first nodes of the list were appended, and this is the next one
pub record IsPassed (xs before items : List ℕ) (next : Option ℕ) : Type 0 where
  pub count : ℕ
  pub few : count ≤ length xs
  pub items_are : items ≡ before ++ take count xs
  pub next_is : next ≡ slice_get xs count

pub passed-none : (xs before : List ℕ) (next : Option ℕ) → next ≡ slice_get xs 0 → IsPassed xs before before next
passed-none xs before next e = record { count = 0; few = omega arith; items_are = sym (append-nil before); next_is = e }

pub passed-length : (xs before items : List ℕ) (next : Option ℕ) (is : IsPassed xs before items next)
    → length items ≡ length before + is.count
passed-length xs before items next is = ap length is.items_are ∙ length-append before (take is.count xs)
    ∙ ap (λ n. length before + n) (length-take-le is.count xs is.few)

pub passed-inside : (xs before items : List ℕ) (node : ℕ) (is : IsPassed xs before items (Some node))
    → is.count < length xs
passed-inside xs before items node is = place-below is.count node xs (sym is.next_is)

one-more : (count node : ℕ) (xs : List ℕ) → slice_get xs count ≡ Some node
    → take (count + 1) xs ≡ take count xs ++ node ∷ []
one-more count node xs e = rw (let s : count + 1 ≡ suc count = omega arith in s) (step count xs e)
  where
    step : (count : ℕ) (xs : List ℕ) → slice_get xs count ≡ Some node → take (suc count) xs ≡ take count xs ++ node ∷ []
    step count [] e = absurd (cc e)
    step zero (x ∷ xs) e = ap (λ y. y ∷ []) (let i : x ≡ node = cc in i)
    step (suc count) (x ∷ xs) e = ap (λ ys. x ∷ ys) (step count xs e)

pub passed-more : (xs before items items' : List ℕ) (node : ℕ) (next : Option ℕ)
    (is : IsPassed xs before items (Some node))
    → items' ≡ items ++ node ∷ [] → next ≡ slice_get xs (is.count + 1) → IsPassed xs before items' next
passed-more xs before items items' node next is e f = record {
  count = is.count + 1;
  few = (let low = passed-inside xs before items node is in omega (arith, low));
  items_are = e ∙ ap (λ ys. ys ++ node ∷ []) is.items_are ∙ append_assoc before (take is.count xs) (node ∷ [])
      ∙ ap (λ ys. before ++ ys) (sym (one-more is.count node xs (sym is.next_is)));
  next_is = f;
}

none-after : (count : ℕ) (xs : List ℕ) → slice_get xs count ≡ None → length xs ≤ count
none-after count [] e = omega arith
none-after zero (x ∷ xs) e = absurd (cc e)
none-after (suc count) (x ∷ xs) e = (let rest = none-after count xs e in omega (arith, rest))

pub passed-all : (xs before items : List ℕ) (next : Option ℕ) → IsPassed xs before items next → next ≡ None
    → items ≡ before ++ xs
passed-all xs before items next is e = is.items_are
    ∙ ap (λ ys. before ++ ys) (take_all is.count xs (none-after is.count xs (sym is.next_is ∙ e)))
