-- The three-cycle and the residues modulo seven: each short list of labels is dominated.
use Rattle.std.proofs.Common.{◌≡◌, ℕ, zero, suc, ◌+◌, ◌-◌, ◌%◌, ◌<◌, ◌⊎◌, List, [], ◌∷◌, refl, subst, arith, inl, inr}
use Rattle.std.specs.Prelude.{Contains}
use Rattle.std.proofs.lemmas.Bool.{cases_eq}
use Rattle.std.proofs.lemmas.List.Elements.{All-cons, All-head, All-nil, All-tail}
use Rattle.board_text.specs.PlainBoard.{PlainBoard, Dominates}
use Rattle.domains.specs.Circles.{IsCircle}
use Rattle.domains.specs.Dominated.{AreDominated}
use Rattle.domains.proofs.ProductData.{rule_board}
use Rattle.nested_cycles.proofs.Cited.{contains_cases, contains_here, contains_later, contains_none}

pub cycle_dominated : (board : PlainBoard) → IsCircle 3 (1 ∷ []) board → AreDominated board 1
cycle_dominated board circle [] long all = absurd (omega (arith, long))
cycle_dominated board circle (label ∷ []) long all =
    let low : label < 3 = omega (arith, All-head (λ n. n < board.labels) label [] all, circle.labels_are) in
    let answer = (label + 1) % 3 in
    let is_label : answer < 3 = omega arith in
    let step : 1 ≡ (answer + 3 - label) % 3 = omega (arith, low) in (
      answer,
      omega (arith, is_label, circle.labels_are),
      All-cons (λ other. Dominates board answer other) label []
          ((circle.beats answer label is_label low).1 (subst (Contains (1 ∷ [])) step (contains_here 1 [])))
          (All-nil (λ other. Dominates board answer other)),
    )
cycle_dominated board circle (label ∷ second ∷ labels) long all = absurd (omega (arith, long))

-- ---- residues modulo seven

squares : List ℕ
squares = 1 ∷ 2 ∷ 4 ∷ []

-- a label that is ahead of both by squares
record Ahead (x y : ℕ) : Type 0 where
  label : ℕ
  low : label < 7
  of_first : Contains squares ((label + 7 - x) % 7)
  of_second : Contains squares ((label + 7 - y) % 7)

ahead : (x y first second : ℕ) → x < 7 → y < 7 → first < 7 → second ≡ (first + (x + 7 - y) % 7) % 7
    → Contains squares first → Contains squares second → Ahead x y
ahead x y first second x_low y_low low second_is has_first has_second =
    let label = (x + first) % 7 in
    let from_first : first ≡ (label + 7 - x) % 7 = omega (arith, x_low, low) in
    let from_second : second ≡ (label + 7 - y) % 7 = omega (arith, x_low, y_low, low, second_is) in
    record {
      label = label;
      low = omega arith;
      of_first = subst (Contains squares) from_first has_first;
      of_second = subst (Contains squares) from_second has_second;
    }

one_is : Contains squares 1
unfolding squares
one_is = contains_here 1 (2 ∷ 4 ∷ [])

two_is : Contains squares 2
unfolding squares
two_is = contains_later 1 (2 ∷ 4 ∷ []) 2 (contains_here 2 (4 ∷ []))

four_is : Contains squares 4
unfolding squares
four_is = contains_later 1 (2 ∷ 4 ∷ []) 4 (contains_later 2 (4 ∷ []) 4 (contains_here 4 []))

by_distance : (x y distance : ℕ) → x < 7 → y < 7 → distance ≡ (x + 7 - y) % 7 → Ahead x y
by_distance x y zero x_low y_low is = ahead x y 1 1 x_low y_low (omega arith) (omega (arith, is)) one_is one_is
by_distance x y (suc zero) x_low y_low is =
    ahead x y 1 2 x_low y_low (omega arith) (omega (arith, is)) one_is two_is
by_distance x y (suc (suc zero)) x_low y_low is =
    ahead x y 2 4 x_low y_low (omega arith) (omega (arith, is)) two_is four_is
by_distance x y (suc (suc (suc zero))) x_low y_low is =
    ahead x y 1 4 x_low y_low (omega arith) (omega (arith, is)) one_is four_is
by_distance x y (suc (suc (suc (suc zero)))) x_low y_low is =
    ahead x y 4 1 x_low y_low (omega arith) (omega (arith, is)) four_is one_is
by_distance x y (suc (suc (suc (suc (suc zero))))) x_low y_low is =
    ahead x y 4 2 x_low y_low (omega arith) (omega (arith, is)) four_is two_is
by_distance x y (suc (suc (suc (suc (suc (suc zero)))))) x_low y_low is =
    ahead x y 2 1 x_low y_low (omega arith) (omega (arith, is)) two_is one_is
by_distance x y (suc (suc (suc (suc (suc (suc (suc more))))))) x_low y_low is = absurd (omega (arith, is))

pub residues_dominated : (board : PlainBoard) → IsCircle 7 (1 ∷ 2 ∷ 4 ∷ []) board → AreDominated board 2
unfolding squares
residues_dominated board circle [] long all = absurd (omega (arith, long))
residues_dominated board circle (x ∷ []) long all = absurd (omega (arith, long))
residues_dominated board circle (x ∷ y ∷ []) long all =
    let x_label = All-head (λ n. n < board.labels) x (y ∷ []) all in
    let y_label = All-head (λ n. n < board.labels) y [] (All-tail (λ n. n < board.labels) x (y ∷ []) all) in
    let x_low : x < 7 = omega (arith, x_label, circle.labels_are) in
    let y_low : y < 7 = omega (arith, y_label, circle.labels_are) in
    let found = by_distance x y ((x + 7 - y) % 7) x_low y_low refl in
    let label = found.label in (
      label,
      omega (arith, found.low, circle.labels_are),
      All-cons (λ other. Dominates board label other) x (y ∷ [])
          ((circle.beats label x found.low x_low).1 found.of_first)
          (All-cons (λ other. Dominates board label other) y []
          ((circle.beats label y found.low y_low).1 found.of_second) (All-nil (λ other. Dominates board label other))),
    )
residues_dominated board circle (x ∷ y ∷ third ∷ labels) long all = absurd (omega (arith, long))

-- ---- each circle is a board

pub contains_or_not : (steps : List ℕ) (step : ℕ) → Contains steps step ⊎ (Contains steps step → ⊥)
contains_or_not [] step = inr (λ has. contains_none step has)
contains_or_not (first ∷ steps) step =
    elim (cases_eq first step) [
      | inl same ↦ inl (subst (Contains (first ∷ steps)) same (contains_here first steps))
      | inr differs ↦ elim (contains_or_not steps step) [
        | inl has ↦ inl (contains_later first steps step has)
        | inr not ↦ inr (λ has. elim (contains_cases first steps step has) [
          | inl same ↦ differs same
          | inr later ↦ not later
        ])
      ]
    ]

pub circle_exists : (labels pebbles : ℕ) (steps start : List ℕ)
    → (board : PlainBoard) × IsCircle labels steps board × (board.pebbles ≡ pebbles) × (board.start ≡ start)
circle_exists labels pebbles steps start =
    let found = rule_board labels (λ x y. Contains steps ((x + labels - y) % labels)) pebbles start
    (λ x y both. contains_or_not steps ((x + labels - y) % labels)) in (
      found.0,
      record { labels_are = found.1.labels_are; beats = found.1.beats },
      found.1.pebbles_are,
      found.1.start_is,
    )
