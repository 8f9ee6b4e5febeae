-- If no two rows are for one configuration, the first row of a configuration is the row.
use Rattle.std.proofs.Common.{◌≡◌, ◌≢◌, ℕ, ◌<◌, Bool, true, true≢false, nat_eq, List, length, get_or, Some, IsSome}
use Rattle.std.proofs.Common.{is_some, slice_get, sym, ap, ◌∙◌, arith, inl, inr}
use Rattle.std.specs.List.{AllPairs, Contains, find, position_or_len}
use Rattle.std.proofs.lemmas.Bool.{false_from_ne_true}
use Rattle.std.proofs.lemmas.List.Folds.{find_at}
use Rattle.std.proofs.lemmas.List.Sums.{position_or_len_is, passes_at_first}
use Rattle.std.proofs.lemmas.Option.{slice_get-get_or, slice_get_cases}
use lib.Pointwise.{pointwise, bytes_decides}

-- no two rows are for one configuration
abbrev pub AreApart : {X : Type 0} → (X → List ℕ) → List X → Type 0
AreApart at rows = AllPairs (λ first second. at first ≢ at second) rows

-- if `find` gives an element, some element passes
pub some_passes : {X : Type 0} (p : X → Bool) (xs : List X) → IsSome (find p xs)
    → (x : X) × Contains xs x × (p x ≡ true)
some_passes p xs some = elim (slice_get_cases xs (position_or_len p xs)).1 [
  | inl (x, inside, is, same) ↦ (
    x,
    (position_or_len p xs, inside, same),
    ap p (sym same) ∙ passes_at_first p xs x inside,
  )
  | inr (past, none) ↦ absurd (true≢false (sym some ∙ ap is_some (find_at p xs ∙ none)))
]

-- a row is found by its configuration
pub find-the : {X : Type 0} (at : X → List ℕ) (xs : List X) (x : X) → AreApart at xs → Contains xs x
    → find (λ y. pointwise nat_eq (at y) (at x)) xs ≡ Some x
find-the {X} at xs x apart (place, inside, is) =
    let passes : X → Bool = λ y. pointwise nat_eq (at y) (at x) in
    let before = λ (k : ℕ) (low : k < place). false_from_ne_true (passes (get_or xs k x)) (λ same.
    apart k place x low inside ((bytes_decides (at (get_or xs k x)) (at x)).0 same ∙ ap at (sym is))) in
    let here = λ (_ : place < length xs). (bytes_decides (at (get_or xs place x)) (at x)).1 (ap at is) in
    let first = position_or_len_is passes xs place x (omega (arith, inside)) before here in
    find_at passes xs ∙ ap (slice_get xs) first ∙ slice_get-get_or xs place x inside ∙ ap Some is
