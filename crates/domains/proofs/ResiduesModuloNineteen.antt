-- On the residues modulo nineteen each three labels are dominated by one, found by a search for each two distances.
use Rattle.std.proofs.Common.{◌≡◌, ℕ, zero, suc, ◌+◌, ◌-◌, ◌%◌, ◌<◌, Bool, true, false, List, [], ◌∷◌, refl, sym}
use Rattle.std.proofs.Common.{subst, arith, inl, inr}
use Rattle.std.specs.Prelude.{Contains, cond, eqb}
use Rattle.std.proofs.lemmas.Bool.{cases_eq, both_ways, eqb-false, eqb-true}
use Rattle.std.proofs.lemmas.List.Elements.{All-cons, All-head, All-nil, All-tail}
use Rattle.board_text.specs.PlainBoard.{PlainBoard, Dominates}
use Rattle.nested_cycles.proofs.Cited.{contains_cases, contains_here, contains_later, contains_none}
use Rattle.domains.specs.Circles.{IsCircle}
use Rattle.domains.specs.Dominated.{AreDominated}
use Rattle.domains.proofs.FewestLabels.{Ahead}

-- ---- searches that compute

abbrev pub is_among : List ℕ → ℕ → Bool
is_among [] n = false
is_among (step ∷ steps) n = cond (eqb step n) true (is_among steps n)

abbrev some_below : (ℕ → Bool) → ℕ → Bool
some_below test zero = false
some_below test (suc n) = cond (test n) true (some_below test n)

abbrev pub all_below : (ℕ → Bool) → ℕ → Bool
all_below test zero = true
all_below test (suc n) = cond (test n) (all_below test n) false

abbrev all_three : Bool → Bool → Bool → Bool
all_three one two three = cond one (cond two three false) false

-- the label at this distance is ahead of all three by squares
abbrev serves : List ℕ → ℕ → ℕ → ℕ → Bool
serves steps first second to =
    all_three (is_among steps to) (is_among steps ((to + 19 - first) % 19)) (is_among steps ((to + 19 - second) % 19))

all_served : all_below
    (λ first. all_below (λ second. some_below
    (serves (1 ∷ 4 ∷ 5 ∷ 6 ∷ 7 ∷ 9 ∷ 11 ∷ 16 ∷ 17 ∷ []) first second) 19) 19) 19 ≡ true
all_served = refl

-- ---- what a search that says true has found

pub first_is : (one two : Bool) → cond one two false ≡ true → (one ≡ true) × (two ≡ true)
first_is true two says = (refl, says)
first_is false two says = absurd (both_ways false refl says)

all_three_are : (one two three : Bool) → all_three one two three ≡ true
    → (one ≡ true) × (two ≡ true) × (three ≡ true)
all_three_are one two three says =
    let outer = first_is one (cond two three false) says in
    let inner = first_is two three outer.1 in
    (outer.0, inner.0, inner.1)

pub among : (steps : List ℕ) (n : ℕ) → is_among steps n ≡ true → Contains steps n
among [] n says = absurd (both_ways false refl says)
among (step ∷ steps) n says = by (eqb step n) refl (among steps n) says
  where
    by : (same : Bool) → eqb step n ≡ same → (is_among steps n ≡ true → Contains steps n)
        → cond same true (is_among steps n) ≡ true → Contains (step ∷ steps) n
    by true is later found = subst (Contains (step ∷ steps)) (eqb-true step n is) (contains_here step steps)
    by false is later found = contains_later step steps n (later found)

found_below : (test : ℕ → Bool) (count : ℕ) → some_below test count ≡ true
    → (n : ℕ) × (n < count) × (test n ≡ true)
found_below test zero says = absurd (both_ways false refl says)
found_below test (suc count) says = by (test count) refl (found_below test count) says
  where
    by : (here : Bool) → test count ≡ here
        → (some_below test count ≡ true → (n : ℕ) × (n < count) × (test n ≡ true))
        → cond here true (some_below test count) ≡ true → (n : ℕ) × (n < suc count) × (test n ≡ true)
    by true is below found = (count, omega arith, is)
    by false is below found =
        let before = below found in
        (before.0, omega (arith, before.1), before.2)

pub each_below : (test : ℕ → Bool) (count n : ℕ) → all_below test count ≡ true → n < count → test n ≡ true
each_below test zero n says low = absurd (omega (arith, low))
each_below test (suc count) n says low =
    let both = first_is (test count) (all_below test count) says in
    elim (cases_eq n count) [
      | inl same ↦ subst (λ m. test m ≡ true) (sym same) both.0
      | inr differs ↦ each_below test count n both.1 (omega (arith, low, differs))
    ]

pub is_found : (steps : List ℕ) (n : ℕ) → Contains steps n → is_among steps n ≡ true
is_found [] n has = absurd (contains_none n has)
is_found (step ∷ steps) n has = by (eqb step n) refl (is_found steps n)
  where
    by : (same : Bool) → eqb step n ≡ same → (Contains steps n → is_among steps n ≡ true)
        → cond same true (is_among steps n) ≡ true
    by true is among_rest = refl
    by false is among_rest = elim (contains_cases step steps n has) [
      | inl same ↦ absurd (eqb-false step n is same)
      | inr later ↦ among_rest later
    ]

-- ---- no two labels dominate each other

-- at most one of the distances there and back is a square
one_square : all_below
    (λ n. cond (is_among (1 ∷ 4 ∷ 5 ∷ 6 ∷ 7 ∷ 9 ∷ 11 ∷ 16 ∷ 17 ∷ []) n)
    (cond (is_among (1 ∷ 4 ∷ 5 ∷ 6 ∷ 7 ∷ 9 ∷ 11 ∷ 16 ∷ 17 ∷ []) (19 - n)) false true) true) 20 ≡ true
one_square = refl

zero_is_none : is_among (1 ∷ 4 ∷ 5 ∷ 6 ∷ 7 ∷ 9 ∷ 11 ∷ 16 ∷ 17 ∷ []) 0 ≡ false
zero_is_none = refl

some_distance : (n : ℕ) → is_among (1 ∷ 4 ∷ 5 ∷ 6 ∷ 7 ∷ 9 ∷ 11 ∷ 16 ∷ 17 ∷ []) n ≡ true → 0 < n
some_distance zero says = absurd (both_ways (is_among (1 ∷ 4 ∷ 5 ∷ 6 ∷ 7 ∷ 9 ∷ 11 ∷ 16 ∷ 17 ∷ []) 0) zero_is_none says)
some_distance (suc n) says = omega arith

round : (x y : ℕ) → 0 < (x + 19 - y) % 19 → 0 < (y + 19 - x) % 19 → (y + 19 - x) % 19 ≡ 19 - (x + 19 - y) % 19
round x y there back = omega (arith, there, back)

pub not_both : (here back : Bool) → here ≡ true → back ≡ true → cond here (cond back false true) true ≡ true → ⊥
not_both true true here_is back_is says = both_ways false refl says
not_both true false here_is back_is says = both_ways false refl back_is
not_both false back here_is back_is says = both_ways false refl here_is

pub nineteen_one_way : (x y : ℕ) → Ahead 19 (1 ∷ 4 ∷ 5 ∷ 6 ∷ 7 ∷ 9 ∷ 11 ∷ 16 ∷ 17 ∷ []) x y
    → Ahead 19 (1 ∷ 4 ∷ 5 ∷ 6 ∷ 7 ∷ 9 ∷ 11 ∷ 16 ∷ 17 ∷ []) y x → ⊥
nineteen_one_way x y there back =
    let squares : List ℕ = 1 ∷ 4 ∷ 5 ∷ 6 ∷ 7 ∷ 9 ∷ 11 ∷ 16 ∷ 17 ∷ [] in
    let first = is_found squares ((x + 19 - y) % 19) there in
    let second = is_found squares ((y + 19 - x) % 19) back in
    let is = round x y (some_distance ((x + 19 - y) % 19) first) (some_distance ((y + 19 - x) % 19) second) in
    not_both (is_among squares ((x + 19 - y) % 19)) (is_among squares (19 - (x + 19 - y) % 19)) first
    (subst (λ n. is_among squares n ≡ true) is second)
    (each_below (λ n. cond (is_among squares n) (cond (is_among squares (19 - n)) false true) true) 20
    ((x + 19 - y) % 19) one_square (omega arith))

-- ---- each three labels

pub nineteen_dominated : (board : PlainBoard) → IsCircle 19 (1 ∷ 4 ∷ 5 ∷ 6 ∷ 7 ∷ 9 ∷ 11 ∷ 16 ∷ 17 ∷ []) board
    → AreDominated board 3
nineteen_dominated board circle [] long all = absurd (omega (arith, long))
nineteen_dominated board circle (x ∷ []) long all = absurd (omega (arith, long))
nineteen_dominated board circle (x ∷ y ∷ []) long all = absurd (omega (arith, long))
nineteen_dominated board circle (x ∷ y ∷ z ∷ []) long all =
    let squares : List ℕ = 1 ∷ 4 ∷ 5 ∷ 6 ∷ 7 ∷ 9 ∷ 11 ∷ 16 ∷ 17 ∷ [] in
    let rest = All-tail (λ n. n < board.labels) x (y ∷ z ∷ []) all in
    let x_low : x < 19 = omega (arith, All-head (λ n. n < board.labels) x (y ∷ z ∷ []) all, circle.labels_are) in
    let y_low : y < 19 = omega (arith, All-head (λ n. n < board.labels) y (z ∷ []) rest, circle.labels_are) in
    let z_low : z < 19
    = omega (
      arith,
      All-head (λ n. n < board.labels) z [] (All-tail (λ n. n < board.labels) y (z ∷ []) rest),
      circle.labels_are,
    ) in
    let first = (x + 19 - z) % 19 in
    let second = (y + 19 - z) % 19 in
    let found = found_below (serves squares first second) 19
    (each_below (λ second. some_below (serves squares first second) 19) 19 second
    (each_below (λ first. all_below (λ second. some_below (serves squares first second) 19) 19) 19 first all_served
    (omega arith)) (omega arith)) in
    let three = all_three_are (is_among squares found.0) (is_among squares ((found.0 + 19 - first) % 19))
    (is_among squares ((found.0 + 19 - second) % 19)) found.2 in
    let label = (z + found.0) % 19 in
    let low : label < 19 = omega arith in
    let from_x : (found.0 + 19 - first) % 19 ≡ (label + 19 - x) % 19 = omega (arith, x_low, z_low, found.1) in
    let from_y : (found.0 + 19 - second) % 19 ≡ (label + 19 - y) % 19 = omega (arith, y_low, z_low, found.1) in
    let from_z : found.0 ≡ (label + 19 - z) % 19 = omega (arith, z_low, found.1) in
    let beats : (other : ℕ) → other < 19 → Contains squares ((label + 19 - other) % 19) → Dominates board label other
    = λ other other_low has. (circle.beats label other low other_low).1 has in (
      label,
      omega (arith, low, circle.labels_are),
      All-cons (λ other. Dominates board label other) x (y ∷ z ∷ [])
          (beats x x_low (subst (Contains squares) from_x (among squares ((found.0 + 19 - first) % 19) three.1)))
          (All-cons (λ other. Dominates board label other) y (z ∷ [])
          (beats y y_low (subst (Contains squares) from_y (among squares ((found.0 + 19 - second) % 19) three.2)))
          (All-cons (λ other. Dominates board label other) z []
          (beats z z_low (subst (Contains squares) from_z (among squares found.0 three.0)))
          (All-nil (λ other. Dominates board label other)))),
    )
nineteen_dominated board circle (x ∷ y ∷ z ∷ fourth ∷ labels) long all = absurd (omega (arith, long))
