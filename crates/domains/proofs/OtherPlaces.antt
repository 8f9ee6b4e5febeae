-- The places of all pebbles but one, and a label that some of them leave free.
use Rattle.std.proofs.Common.{◌≡◌, ◌≢◌, ℕ, suc, ◌+◌, ◌-◌, ◌<◌, ◌⊎◌, List, [], ◌∷◌, ◌++◌, length, get_or, take, drop}
use Rattle.std.proofs.Common.{All, Contains, refl, sym, ◌∙◌, ap, subst, arith, inl, inr}
use Rattle.std.specs.List.{remove}
use Rattle.std.proofs.lemmas.Bool.{cases_lt, cases_eq}
use Rattle.std.proofs.lemmas.List.{get_or_default}
use Rattle.std.proofs.lemmas.List.Edits.{get_or-remove_above, get_or-remove_below, length-remove}
use Rattle.std.proofs.lemmas.List.Elements.{All-contains, All-contains_itself, All-from_get_or}
use Rattle.classes.proofs.Cited.{all-remove}
use Rattle.nested_cycles.proofs.Cited.{contains_cases, contains_here, contains_later, in_others}
use Rattle.domains.proofs.Circles.{contains_or_not}

-- ---- one removed

-- a fact of the element at each other index holds of all that is left
pub all_others : (P : ℕ → Type 0) (xs : List ℕ) (place : ℕ) → place < length xs
    → ((other : ℕ) → other < length xs → other ≢ place → P (get_or xs other 0)) → All P (remove xs place)
all_others P xs place inside each =
    All-from_get_or P (remove xs place) 0 (λ other below.
    let long = length-remove xs place inside in
    elim (cases_lt other place) [
      | inl before ↦ subst P (sym (get_or-remove_below xs place 0 other before inside))
          (each other (omega (arith, before, inside)) (λ is. omega (arith, before, is)))
      | inr behind ↦ subst P (sym (get_or-remove_above xs place 0 other behind inside))
          (each (other + 1) (omega (arith, below, long)) (λ is. omega (arith, behind, is)))
    ])

pub contains_left : (xs : List ℕ) (place x : ℕ) → Contains (remove xs place) x → Contains xs x
contains_left xs place x has =
    All-contains (Contains xs) (remove xs place) x
    (all-remove (Contains xs) xs place (All-contains_itself xs)) has

pub others_left : (xs : List ℕ) (place other : ℕ) → other < length xs → other ≢ place
    → Contains (remove xs place) (get_or xs other 0)
others_left xs place other inside differs =
    let same : place + 1 ≡ suc place = omega arith in
    subst (λ n. Contains (take place xs ++ drop n xs) (get_or xs other 0)) same
    (in_others xs place other inside differs)

-- an element is the removed one or is left
pub removed_or_left : (xs : List ℕ) (place x : ℕ) → Contains xs x
    → (get_or xs place 0 ≡ x) ⊎ Contains (remove xs place) x
removed_or_left xs place x has =
    let at : get_or xs has.0 0 ≡ x = get_or_default xs has.0 0 x has.1 ∙ has.2 in
    elim (cases_eq has.0 place) [
      | inl is ↦ inl (subst (λ n. get_or xs n 0 ≡ x) is at)
      | inr differs ↦ inr (subst (Contains (remove xs place)) at (others_left xs place has.0 has.1 differs))
    ]

-- the index at which the element of another index is left
pub left_at : (xs : List ℕ) (place other : ℕ) → place < length xs → other < length xs → other ≢ place
    → (index : ℕ) × (index < length (remove xs place)) × (get_or (remove xs place) index 0 ≡ get_or xs other 0)
    × (((other < place) × (index ≡ other)) ⊎ ((place < other) × (index + 1 ≡ other)))
left_at xs place other inside other_inside differs =
    let long = length-remove xs place inside in
    elim (cases_lt other place) [
      | inl before ↦ (
        other,
        omega (arith, before, inside, long),
        get_or-remove_below xs place 0 other before inside,
        inl (before, refl),
      )
      | inr behind ↦
          let index : ℕ = other - 1 in
          let is : index + 1 ≡ other = omega (arith, behind, differs) in (
            index,
            omega (arith, is, other_inside, long),
            get_or-remove_above xs place 0 index (omega (arith, behind, differs)) inside
                ∙ ap (λ n. get_or xs n 0) is,
            inr (omega (arith, behind, differs), is),
          )
    ]

-- ---- a label that is free

-- Of more elements than there are in a second list, one can go, and each of the second list that was
-- there or in a third one still is.
pub spare : (xs done ys : List ℕ) → length ys < length xs
    → ((y : ℕ) → Contains ys y → Contains xs y ⊎ Contains done y)
    → (index : ℕ) × (index < length xs)
    × ((y : ℕ) → Contains ys y → Contains (remove xs index) y ⊎ Contains done y)
spare [] done ys less each = absurd (omega (arith, less))
spare (x ∷ xs) done ys less each =
    elim (contains_or_not ys x) [
      | inr not ↦ (
        0,
        omega arith,
        λ y has. elim (each y has) [
          | inr is_done ↦ inr is_done
          | inl there ↦ elim (contains_cases x xs y there) [
            | inl same ↦ absurd (not (subst (Contains ys) (sym same) has))
            | inr later ↦ inl later
          ]
        ],
      )
      | inl here ↦
          let rest = spare xs (x ∷ done) (remove ys here.0) (omega (arith, less, length-remove ys here.0 here.1))
          (λ y has. elim (each y (contains_left ys here.0 y has)) [
            | inr is_done ↦ inr (contains_later x done y is_done)
            | inl there ↦ elim (contains_cases x xs y there) [
              | inl same ↦ inr (subst (Contains (x ∷ done)) same (contains_here x done))
              | inr later ↦ inl later
            ]
          ]) in (
            suc rest.0,
            omega (arith, rest.1),
            λ y has. elim (removed_or_left ys here.0 y has) [
              | inl is ↦
                  let same : x ≡ y = sym (get_or_default ys here.0 0 x here.1 ∙ here.2) ∙ is in
                  inl (subst (Contains (x ∷ remove xs rest.0)) same (contains_here x (remove xs rest.0)))
              | inr left ↦ elim (rest.2 y left) [
                | inl there ↦ inl (contains_later x (remove xs rest.0) y there)
                | inr is_done ↦ elim (contains_cases x done y is_done) [
                  | inl same ↦ inl (subst (Contains (x ∷ remove xs rest.0)) same
                      (contains_here x (remove xs rest.0)))
                  | inr before ↦ inr before
                ]
              ]
            ],
          )
    ]
