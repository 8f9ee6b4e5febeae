-- The copies of words, by whether each copy has a word.
use Rattle.std.proofs.Common.{◌≡◌, ◌⊎◌, ◌↔◌, ◌||◌, ◌==◌, ℕ, zero, suc, ◌<◌, Bool, true, false, List, [], ◌∷◌, map, All}
use Rattle.std.proofs.Common.{Contains, IsTrue, refl, sym, ap, ◌∙◌, subst, arith, inl, inr}
use Rattle.std.specs.List.{list_any}
use Rattle.std.proofs.lemmas.Bool.{false≢true, cases_eq, eqb-true, eq-eqb, or_cases}
use Rattle.std.proofs.lemmas.List.Elements.{All-head, All-contains}
use Rattle.nested_cycles.specs.GoodWords.{next_digit, AreInOneCopy, AreInTwoCopies}
use Rattle.nested_cycles.proofs.CopyRests.{each_of, contains_here, contains_later, contains_cases, contains_none}

-- ---- whether a copy has a word

is_in : (f : ℕ → ℕ) (digit : ℕ) (xs : List ℕ) → list_any (λ x. f x == digit) xs ≡ true → Contains (map f xs) digit
is_in f digit [] any = absurd (false≢true any)
is_in f digit (x ∷ xs) any = elim (or_cases (f x == digit) (list_any (λ y. f y == digit) xs) any) [
  | inl here ↦ subst (λ d. Contains (f x ∷ map f xs) d) (eqb-true (f x) digit here) (contains_here (f x) (map f xs))
  | inr later ↦ contains_later (f x) (map f xs) digit (is_in f digit xs later)
]

or_true : (b : Bool) → (b || true) ≡ true
or_true true = refl
or_true false = refl

any_in : (f : ℕ → ℕ) (digit : ℕ) (xs : List ℕ) → Contains (map f xs) digit → list_any (λ x. f x == digit) xs ≡ true
any_in f digit [] has = absurd (contains_none digit has)
any_in f digit (x ∷ xs) has = elim (contains_cases (f x) (map f xs) digit has) [
  | inl here ↦ ap (λ b. b || list_any (λ y. f y == digit) xs) (eq-eqb (f x) digit here)
  | inr later ↦ ap (λ b. (f x == digit) || b) (any_in f digit xs later) ∙ or_true (f x == digit)
]

pub some_is_in : (f : ℕ → ℕ) (digit : ℕ) (xs : List ℕ) (r : Bool) → r ≡ list_any (λ x. f x == digit) xs
    → IsTrue r ↔ Contains (map f xs) digit
some_is_in f digit xs r is = (λ yes. is_in f digit xs (sym is ∙ yes), λ has. is ∙ any_in f digit xs has)

-- ---- words in one copy or in two

-- the copy has a word, or has none
abbrev pub Has : List ℕ → ℕ → Type 0
Has firsts digit = IsTrue true ↔ Contains firsts digit

abbrev pub Lacks : List ℕ → ℕ → Type 0
Lacks firsts digit = IsTrue false ↔ Contains firsts digit

lacks : (firsts : List ℕ) (digit : ℕ) → Lacks firsts digit → Contains firsts digit → ⊥
lacks firsts digit h has = false≢true (h.1 has)

apart : (firsts : List ℕ) (digit first : ℕ) → Lacks firsts digit → Contains firsts first → first ≡ digit → ⊥
apart firsts digit first h has same = lacks firsts digit h (subst (Contains firsts) same has)

abbrev pub AreDigits : List ℕ → Type 0
AreDigits firsts = All (λ first. first < 3) firsts

pub one_copy : (firsts : List ℕ) (digit : ℕ) → digit < 3 → AreDigits firsts → Has firsts digit
    → Lacks firsts (next_digit digit) → Lacks firsts (next_digit (next_digit digit))
    → (digit < 3) × AreInOneCopy digit firsts × Contains firsts digit
one_copy firsts digit low digits here next last = (
  low,
  each_of (λ first. first ≡ digit) firsts (λ first has.
      let below = All-contains (λ f. f < 3) firsts first digits has in
      let not_next = apart firsts (next_digit digit) first next has in
      let not_last = apart firsts (next_digit (next_digit digit)) first last has in
      omega (arith, not_next, not_last)),
  here.0 refl,
)

pub two_copies : (firsts : List ℕ) (digit : ℕ) → digit < 3 → AreDigits firsts → Has firsts digit
    → Has firsts (next_digit digit) → Lacks firsts (next_digit (next_digit digit))
    → (digit < 3) × AreInTwoCopies digit firsts
two_copies firsts digit low digits here next last = (
  low,
  record {
    each = each_of (λ first. (first ≡ digit) ⊎ (first ≡ next_digit digit)) firsts (λ first has.
        let below = All-contains (λ f. f < 3) firsts first digits has in
        let not_last = apart firsts (next_digit (next_digit digit)) first last has in
        elim (cases_eq first digit) [ inl same ↦ inl same | inr not ↦ inr (omega (arith, not, not_last)) ]);
    some_here = here.0 refl;
    some_next = next.0 refl;
  },
)

pub no_copy : (firsts : List ℕ) → AreDigits firsts → Lacks firsts 0 → Lacks firsts 1 → Lacks firsts 2 → firsts ≡ []
no_copy [] digits none one two = refl
no_copy (first ∷ firsts) digits none one two =
    let has = contains_here first firsts in
    let below = All-head (λ f. f < 3) first firsts digits in
    let not_none = apart (first ∷ firsts) 0 first none has in
    let not_one = apart (first ∷ firsts) 1 first one has in
    let not_two = apart (first ∷ firsts) 2 first two has in
    absurd (omega (arith, not_none, not_one, not_two))

pub three_copies : (firsts : List ℕ) → Has firsts 0 → Has firsts 1 → Has firsts 2 → (digit : ℕ) → digit < 3
    → Contains firsts digit
three_copies firsts none one two zero low = none.0 refl
three_copies firsts none one two (suc zero) low = one.0 refl
three_copies firsts none one two (suc (suc zero)) low = two.0 refl
three_copies firsts none one two (suc (suc (suc digit))) low = absurd (omega arith)
