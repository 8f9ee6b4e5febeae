-- On the residues modulo 47 each chain of four labels is dominated by one, found by a search that goes up the chains.
use Rattle.std.proofs.Common.{◌≡◌, ◌↔◌, ℕ, zero, suc, ◌+◌, ◌-◌, ◌%◌, ◌<◌, ◌≤◌, ◌⊎◌, Bool, true, false, List, [], ◌∷◌}
use Rattle.std.proofs.Common.{◌++◌, length, All, refl, sym, ap, subst, arith, inl, inr}
use Rattle.std.specs.Prelude.{Contains, cond, eqb, filter}
use Rattle.std.proofs.lemmas.Bool.{both_ways, eqb-true}
use Rattle.std.proofs.lemmas.List.{length-append}
use Rattle.std.proofs.lemmas.List.Elements.{All-contains, All-contains_itself, All-filter, All-nil}
use Rattle.std.proofs.lemmas.List.Elements.{Contains-append_left, Contains-append_right, filter_passes}
use Rattle.board_text.specs.PlainBoard.{PlainBoard, Dominates}
use Rattle.nested_cycles.proofs.Cited.{contains_cases, contains_here, contains_later, contains_none, each_of}
use Rattle.chains.specs.Chains.{AreChained, AreChainsDominated}
use Rattle.domains.specs.Circles.{IsCircle}
use Rattle.domains.proofs.FewestLabels.{Ahead}
use Rattle.domains.proofs.LastingChains.{chained_rest, first_beats, oldest_of}
use Rattle.domains.proofs.ProductBoards.{kept}
use Rattle.domains.proofs.ResiduesModuloNineteen.{all_below, among, each_below, first_is, is_among, is_found, not_both}

squares : List ℕ
squares =
    1 ∷ 2 ∷ 3 ∷ 4 ∷ 6 ∷ 7 ∷ 8 ∷ 9 ∷ 12 ∷ 14 ∷ 16 ∷ 17 ∷ 18 ∷ 21 ∷ 24 ∷ 25 ∷ 27 ∷ 28 ∷ 32 ∷ 34 ∷ 36 ∷ 37 ∷ 42 ∷ []

-- ---- a search that computes

abbrev all_of : (ℕ → Bool) → List ℕ → Bool
all_of test [] = true
all_of test (x ∷ xs) = cond (test x) (all_of test xs) false

-- how far the first label is ahead of the second
abbrev distance : ℕ → ℕ → ℕ
distance x y = (x + 47 - y) % 47

-- the labels at these distances from the oldest label of a chain beat all of it: there are some, and
-- so it is with each of them put on the chain, so many times
abbrev are_fine : List ℕ → ℕ → List ℕ → Bool
are_fine steps count [] = false
are_fine steps zero (first ∷ above) = true
are_fine steps (suc count) (first ∷ above) =
    all_of (λ next. are_fine steps count (filter (λ to. is_among steps (distance to next)) (first ∷ above)))
    (first ∷ above)

all_fine : are_fine squares 3 squares ≡ true
unfolding squares
all_fine = refl

-- ---- what it has found

each_in : (test : ℕ → Bool) (xs : List ℕ) (x : ℕ) → all_of test xs ≡ true → Contains xs x → test x ≡ true
each_in test [] x says has = absurd (contains_none x has)
each_in test (y ∷ xs) x says has =
    let both = first_is (test y) (all_of test xs) says in
    elim (contains_cases y xs x has) [
      | inl same ↦ subst (λ n. test n ≡ true) same both.0
      | inr later ↦ each_in test xs x both.1 later
    ]

some_fine : (steps : List ℕ) (count : ℕ) (above : List ℕ) → are_fine steps count above ≡ true
    → (to : ℕ) × Contains above to
some_fine steps count [] says = absurd (both_ways false refl says)
some_fine steps zero (first ∷ above) says = (first, contains_here first above)
some_fine steps (suc count) (first ∷ above) says = (first, contains_here first above)

next_fine : (steps : List ℕ) (count : ℕ) (above : List ℕ) (next : ℕ) → are_fine steps (suc count) above ≡ true
    → Contains above next
    → are_fine steps count (filter (λ to. is_among steps (distance to next)) above) ≡ true
next_fine steps count [] next says has = absurd (contains_none next has)
next_fine steps count (first ∷ above) next says has =
    each_in (λ n. are_fine steps count (filter (λ to. is_among steps (distance to n)) (first ∷ above))) (first ∷ above)
    next says has

-- ---- distances

square_low : (to : ℕ) → Contains squares to → to < 47
unfolding squares
square_low to has =
    let same : to % 47 ≡ to
    = eqb-true (to % 47) to (each_in (λ n. eqb (n % 47) n) squares to refl has) in
    omega (arith, same)

-- at most one of the distances there and back is a square
one_square : all_below (λ n. cond (is_among squares n) (cond (is_among squares (47 - n)) false true) true) 48 ≡ true
unfolding squares
one_square = refl

some_distance : (n : ℕ) → is_among squares n ≡ true → 0 < n
unfolding squares
some_distance zero says = absurd (both_ways (is_among squares 0) refl says)
some_distance (suc n) says = omega arith

round : (x y : ℕ) → 0 < distance x y → 0 < distance y x → distance y x ≡ 47 - distance x y
round x y there back = omega (arith, there, back)

one_way : (x y : ℕ) → Contains squares (distance x y) → Contains squares (distance y x) → ⊥
one_way x y there back =
    let first = is_found squares (distance x y) there in
    let second = is_found squares (distance y x) back in
    let is = round x y (some_distance (distance x y) first) (some_distance (distance y x) second) in
    not_both (is_among squares (distance x y)) (is_among squares (47 - distance x y)) first
    (subst (λ n. is_among squares n ≡ true) is second)
    (each_below (λ n. cond (is_among squares n) (cond (is_among squares (47 - n)) false true) true) 48
    (distance x y) one_square (omega arith))

pub forty_seven_one_way : (x y : ℕ)
    → Ahead 47
    (1 ∷ 2 ∷ 3 ∷ 4 ∷ 6 ∷ 7 ∷ 8 ∷ 9 ∷ 12 ∷ 14 ∷ 16 ∷ 17 ∷ 18 ∷ 21 ∷ 24 ∷ 25 ∷ 27 ∷ 28 ∷ 32 ∷ 34 ∷ 36 ∷ 37 ∷ 42 ∷ []) x y
    → Ahead 47
    (1 ∷ 2 ∷ 3 ∷ 4 ∷ 6 ∷ 7 ∷ 8 ∷ 9 ∷ 12 ∷ 14 ∷ 16 ∷ 17 ∷ 18 ∷ 21 ∷ 24 ∷ 25 ∷ 27 ∷ 28 ∷ 32 ∷ 34 ∷ 36 ∷ 37 ∷ 42 ∷ []) y x
    → ⊥
unfolding squares
forty_seven_one_way x y there back = one_way x y there back

-- ---- chains

-- the distances from the oldest label at which labels beat all of the chain
above : ℕ → List ℕ → List ℕ
above oldest [] = squares
above oldest (label ∷ newer) =
    filter (λ to. is_among squares (distance to (distance label oldest))) (above oldest newer)

between : (x y oldest : ℕ) → x < 47 → y < 47 → oldest < 47
    → distance x y ≡ distance (distance x oldest) (distance y oldest)
between x y oldest x_low y_low low = omega (arith, x_low, y_low, low)

in_above : (oldest x : ℕ) (newer : List ℕ) → oldest < 47 → x < 47 → All (λ n. n < 47) newer
    → Contains squares (distance x oldest)
    → ((y : ℕ) → Contains newer y → Contains squares (distance x y)) → Contains (above oldest newer) (distance x oldest)
unfolding above
in_above oldest x [] low x_low all beats each = beats
in_above oldest x (label ∷ newer) low x_low all beats each =
    let label_low : label < 47 = All-contains (λ n. n < 47) (label ∷ newer) label all (contains_here label newer) in
    kept (λ to. is_among squares (distance to (distance label oldest))) (above oldest newer) (distance x oldest)
    (in_above oldest x newer low x_low
    (each_of (λ n. n < 47) newer (λ y has. All-contains (λ n. n < 47) (label ∷ newer) y all
    (contains_later label newer y has)))
    beats (λ y has. each y (contains_later label newer y has)))
    (is_found squares (distance (distance x oldest) (distance label oldest))
    (subst (Contains squares) (between x label oldest x_low label_low low) (each label (contains_here label newer))))

-- the label at such a distance beats the oldest label, and the others
of_above : (oldest to : ℕ) (newer : List ℕ) → oldest < 47 → All (λ n. n < 47) newer → Contains (above oldest newer) to
    → Contains squares to × ((y : ℕ) → Contains newer y → Contains squares (distance ((oldest + to) % 47) y))
unfolding above
of_above oldest to [] low all has = (has, λ y none. absurd (contains_none y none))
of_above oldest to (label ∷ newer) low all has =
    let test : ℕ → Bool = λ n. is_among squares (distance n (distance label oldest)) in
    let before : Contains (above oldest newer) to
    = All-contains (Contains (above oldest newer)) (filter test (above oldest newer)) to
    (All-filter test (Contains (above oldest newer)) (above oldest newer) (All-contains_itself (above oldest newer)))
    has in
    let passes : test to ≡ true
    = All-contains (λ n. test n ≡ true) (filter test (above oldest newer)) to (filter_passes test (above oldest newer))
    has in
    let rest = of_above oldest to newer low
    (each_of (λ n. n < 47) newer (λ y later. All-contains (λ n. n < 47) (label ∷ newer) y all
    (contains_later label newer y later))) before in
    let label_low : label < 47 = All-contains (λ n. n < 47) (label ∷ newer) label all (contains_here label newer) in
    let to_low = square_low to rest.0 in (
      rest.0,
      λ y there. elim (contains_cases label newer y there) [
        | inl same ↦
            let ahead : distance to (distance label oldest) ≡ distance ((oldest + to) % 47) label
            = omega (arith, low, label_low, to_low) in
            subst (λ n. Contains squares (distance ((oldest + to) % 47) n)) same
            (subst (Contains squares) ahead (among squares (distance to (distance label oldest)) passes))
        | inr later ↦ rest.1 y later
      ],
    )

module _ (board : PlainBoard) (labels_are : board.labels ≡ 47)
    (beats : (x y : ℕ) → x < 47 → y < 47
    → Dominates board x y ↔ Contains squares (distance x y)) where
  low_of : (chain : List ℕ) → AreChained board chain → (y : ℕ) → Contains chain y → y < 47
  low_of chain chained y has =
      subst (λ n. y < n) labels_are (All-contains (λ n. n < board.labels) chain y chained.are_labels has)

  reached : (oldest : ℕ) (newer : List ℕ) (count : ℕ) → length newer + count ≡ 3
      → AreChained board (newer ++ oldest ∷ []) → are_fine squares count (above oldest newer) ≡ true
  unfolding above
  reached oldest [] count three chained =
      let same : 3 ≡ count = omega (arith, three) in
      subst (λ n. are_fine squares n squares ≡ true) same all_fine
  reached oldest (label ∷ newer) count three chained =
      let older = newer ++ oldest ∷ [] in
      let rest = chained_rest board label older chained in
      let low = low_of (label ∷ older) chained in
      let label_low = low label (contains_here label older) in
      let last : Contains older oldest = Contains-append_right newer (oldest ∷ []) oldest (contains_here oldest []) in
      let oldest_low = low oldest (contains_later label older oldest last) in
      let ahead : (y : ℕ) → Contains older y → Contains squares (distance label y)
      = λ y has. (beats label y label_low (low y (contains_later label older y has))).0
      (first_beats board label y older chained has) in
      next_fine squares count (above oldest newer) (distance label oldest)
      (reached oldest newer (suc count) (omega (arith, three)) rest)
      (in_above oldest label newer oldest_low label_low
      (each_of (λ n. n < 47) newer (λ y has. low y (contains_later label older y
      (Contains-append_left newer (oldest ∷ []) y has))))
      (ahead oldest last)
      (λ y has. ahead y (Contains-append_left newer (oldest ∷ []) y has)))

  dominated_above : (oldest : ℕ) (newer : List ℕ) → length newer ≤ 3 → AreChained board (newer ++ oldest ∷ [])
      → (label : ℕ) × (label < board.labels) × All (λ other. Dominates board label other) (newer ++ oldest ∷ [])
  dominated_above oldest newer short chained =
      let chain = newer ++ oldest ∷ [] in
      let low = low_of chain chained in
      let last : Contains chain oldest = Contains-append_right newer (oldest ∷ []) oldest (contains_here oldest []) in
      let oldest_low = low oldest last in
      let found = some_fine squares (3 - length newer) (above oldest newer)
      (reached oldest newer (3 - length newer) (omega (arith, short)) chained) in
      let all_low : All (λ n. n < 47) newer
      = each_of (λ n. n < 47) newer (λ y has. low y (Contains-append_left newer (oldest ∷ []) y has)) in
      let its = of_above oldest found.0 newer oldest_low all_low found.1 in
      let to_low = square_low found.0 its.0 in
      let label = (oldest + found.0) % 47 in
      let label_low : label < 47 = omega arith in
      let ahead : (y : ℕ) → y < 47 → Contains squares (distance label y) → Dominates board label y
      = λ y y_low has. (beats label y label_low y_low).1 has in
      let of_oldest : found.0 ≡ distance label oldest = omega (arith, oldest_low, to_low) in (
        label,
        subst (λ n. label < n) (sym labels_are) label_low,
        each_of (λ other. Dominates board label other) chain (λ y has.
            elim (in_two newer oldest y has) [
              | inl newer_has ↦ ahead y (low y has) (its.1 y newer_has)
              | inr same ↦ subst (Dominates board label) same
                  (ahead oldest oldest_low (subst (Contains squares) of_oldest its.0))
            ]),
      )
    where
      in_two : (xs : List ℕ) (x y : ℕ) → Contains (xs ++ x ∷ []) y → Contains xs y ⊎ (x ≡ y)
      in_two [] x y has = elim (contains_cases x [] y has) [
        | inl same ↦ inr same
        | inr none ↦ let no : ⊥ = contains_none y none in absurd no
      ]
      in_two (first ∷ xs) x y has = elim (contains_cases first (xs ++ x ∷ []) y has) [
        | inl same ↦ inl (subst (Contains (first ∷ xs)) same (contains_here first xs))
        | inr later ↦ elim (in_two xs x y later) [
          | inl there ↦ inl (contains_later first xs y there)
          | inr last ↦ inr last
        ]
      ]

  all_chains : AreChainsDominated board 4
  all_chains [] short chained =
      (0, subst (λ n. 0 < n) (sym labels_are) (omega arith), All-nil (λ other. Dominates board 0 other))
  all_chains (label ∷ chain) short chained =
      let its = oldest_of label chain in
      let long : length (its.0 ++ its.1 ∷ []) ≡ suc (length chain) = ap length (sym its.2) in
      let found = dominated_above its.1 its.0
      (omega (arith, short, long, length-append its.0 (its.1 ∷ []))) (subst (AreChained board) its.2 chained) in
      (found.0, found.1, subst (All (λ other. Dominates board found.0 other)) (sym its.2) found.2)

pub forty_seven_dominated : (board : PlainBoard)
    → IsCircle 47
    (1 ∷ 2 ∷ 3 ∷ 4 ∷ 6 ∷ 7 ∷ 8 ∷ 9 ∷ 12 ∷ 14 ∷ 16 ∷ 17 ∷ 18 ∷ 21 ∷ 24 ∷ 25 ∷ 27 ∷ 28 ∷ 32 ∷ 34 ∷ 36 ∷ 37 ∷ 42 ∷ [])
    board
    → AreChainsDominated board 4
unfolding squares
forty_seven_dominated board circle =
    all_chains board circle.labels_are (λ x y x_low y_low. circle.beats x y x_low y_low)
