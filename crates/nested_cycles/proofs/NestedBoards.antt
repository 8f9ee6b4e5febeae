-- The nested board, from its parts.
use Rattle.std.proofs.Common.{◌≡◌, ◌⊎◌, ℕ, zero, suc, ◌+◌, ◌-◌, ◌*◌, ◌^◌, ◌<◌, ◌≤◌, List, [], ◌∷◌, take, replicate}
use Rattle.std.proofs.Common.{AllPairs, Contains, refl, sym, ap, ◌∙◌, subst, arith, inl, inr}
use Rattle.std.proofs.Math.Nat.{pow-le-pow_right, one-le-pow}
use Rattle.std.proofs.lemmas.List.{length-replicate, take-replicate}
use Rattle.std.proofs.lemmas.List.Elements.{All-replicate, All-contains}
use Rattle.board_text.specs.Ranges.{InRange}
use Rattle.board_text.specs.PlainBoard.{PlainBoard, plain_board, IsBoard, AreLabels, Precedes}
use Rattle.board_text.specs.declared.board.TheConstants.{MAX_PEBBLES}
use Rattle.board_text.proofs.Cited.{board_from_parts}
use Rattle.nested_cycles.specs.Domination.{labels_of}
use Rattle.nested_cycles.specs.Inside.Pairs.{AreNestedPairs}
use Rattle.nested_cycles.specs.NestedBoard.{IsNestedBoard}
use Rattle.nested_cycles.specs.declared.nested_boards.TheConstants.{MAX_BOARD_LEVELS}
use Rattle.nested_cycles.proofs.NestedPairs.{are_pairs, beats_exactly}

-- words of at most 6 digits have numbers of 16 bits
pub few_words : (count : ℕ) → count ≤ 6 → 3 ^ count < 65536
few_words count few =
    let most : 3 ^ count ≤ 3 ^ 6 = pow-le-pow_right {n = 3} (omega arith) {i = count} {j = 6} few in omega arith

pub few_labels : (levels : ℕ) → levels ≤ MAX_BOARD_LEVELS → labels_of levels ≤ 243
few_labels levels few = pow-le-pow_right {n = 3} (omega arith) {i = levels - 1} {j = 5} (omega arith)

pub some_labels : (levels : ℕ) → 1 ≤ labels_of levels
some_labels levels = one-le-pow (levels - 1) 3 (omega arith)

-- as many zeros as there are pebbles
pub zeros : (pebbles : ℕ) → pebbles ≤ MAX_PEBBLES
    → take {A = ℕ} pebbles (0 ∷ 0 ∷ 0 ∷ 0 ∷ 0 ∷ 0 ∷ []) ≡ replicate pebbles 0
zeros pebbles few = take-replicate {X = ℕ} pebbles 6 0 few

-- the parts of the nested board
pub record Parts (levels pebbles labels : ℕ) (start : List ℕ) (pairs : List (ℕ × ℕ)) : Type 0 where
  pub level : InRange 1 MAX_BOARD_LEVELS levels
  pub pebbles_in_range : InRange 1 MAX_PEBBLES pebbles
  pub labels_are : labels ≡ labels_of levels
  pub start_is : start ≡ replicate pebbles 0
  pub pairs_are : AreNestedPairs levels (labels * labels) pairs

abbrev pub six_zeros : List ℕ
six_zeros = 0 ∷ 0 ∷ 0 ∷ 0 ∷ 0 ∷ 0 ∷ []

-- the results of the calls are such parts
pub parts_from : (levels pebbles wide count labels : ℕ) (pairs made : List (ℕ × ℕ)) → InRange 1 MAX_BOARD_LEVELS levels
    → InRange 1 MAX_PEBBLES pebbles → wide ≡ levels → labels ≡ 3 ^ (wide - 1) → count ≡ pebbles
    → AreNestedPairs levels (labels * labels) made → pairs ≡ made
    → Parts levels pebbles labels (take count six_zeros) pairs
parts_from levels pebbles wide count labels pairs made level in_range is_wide is_labels is_count are is_pairs = record {
  level = level;
  pebbles_in_range = in_range;
  labels_are = is_labels ∙ ap (λ (n : ℕ). 3 ^ (n - 1)) is_wide;
  start_is = ap (λ (n : ℕ). take n six_zeros) is_count ∙ zeros pebbles in_range.1;
  pairs_are = rw is_pairs are;
}

pub parts_are : (levels pebbles labels : ℕ) (start : List ℕ) (pairs : List (ℕ × ℕ))
    → Parts levels pebbles labels start pairs → IsBoard (plain_board labels pebbles start pairs)
parts_are levels pebbles labels start pairs parts =
    let few = few_labels levels parts.level.1 in
    let some = some_labels levels in
    board_from_parts labels pebbles start pairs
    (omega (arith, parts.labels_are, some), omega (arith, parts.labels_are, few)) parts.pebbles_in_range (
      rw parts.start_is (length-replicate pebbles 0),
      rw parts.start_is (All-replicate (λ place. place < labels + 1) pebbles 0 (omega arith)),
    )
    (rw parts.labels_are (are_pairs levels (labels * labels) pairs parts.pairs_are))

pub is_nested : (levels pebbles labels : ℕ) (start : List ℕ) (pairs : List (ℕ × ℕ))
    → Parts levels pebbles labels start pairs → IsNestedBoard levels pebbles (plain_board labels pebbles start pairs)
is_nested levels pebbles labels start pairs parts = record {
  is_board = parts_are levels pebbles labels start pairs parts;
  labels = parts.labels_are;
  pebbles = refl;
  start = parts.start_is;
  beats = λ x y are. beats_exactly levels pairs
      (subst (λ (n : ℕ). AreNestedPairs levels (n * n) pairs) parts.labels_are parts.pairs_are) x y
      (rw parts.labels_are at are);
}

-- ---- there is one nested board

-- the first of ascending pairs comes before the others
pub first_before : (p : ℕ × ℕ) (pairs : List (ℕ × ℕ)) (q : ℕ × ℕ) → AllPairs Precedes (p ∷ pairs) → Contains pairs q
    → Precedes p q
first_before p pairs q ascending c = rw c.2 at (ascending 0 (suc c.0) q (omega arith) (omega (arith, c.1)))

pub rest_ascends : (p : ℕ × ℕ) (pairs : List (ℕ × ℕ)) → AllPairs Precedes (p ∷ pairs) → AllPairs Precedes pairs
rest_ascends p pairs ascending i j d lt in_list = ascending (suc i) (suc j) d (omega arith) (omega arith)

not_both : (p q : ℕ × ℕ) → Precedes p q → Precedes q p → ⊥
not_both p q (inl a) (inl b) = omega arith
not_both p q (inl a) (inr b) = omega (arith, b.0)
not_both p q (inr a) (inl b) = omega (arith, a.0)
not_both p q (inr a) (inr b) = omega (arith, a.1, b.1)

pub not_itself : (p : ℕ × ℕ) → Precedes p p → ⊥
not_itself p before = not_both p p before before

pub in_cons : (p : ℕ × ℕ) (pairs : List (ℕ × ℕ)) (q : ℕ × ℕ) → Contains (p ∷ pairs) q → (p ≡ q) ⊎ Contains pairs q
in_cons p pairs q (zero, lt, is) = inl is
in_cons p pairs q (suc k, lt, is) = inr (k, omega arith, is)

same_first : (p q : ℕ × ℕ) (ps qs : List (ℕ × ℕ)) → AllPairs Precedes (p ∷ ps) → AllPairs Precedes (q ∷ qs)
    → Contains (q ∷ qs) p → Contains (p ∷ ps) q → p ≡ q
same_first p q ps qs ascending other_ascending in_other in_first =
    elim (in_cons q qs p in_other) [
      | inl same ↦ sym same
      | inr later ↦ elim (in_cons p ps q in_first) [
        | inl same ↦ same
        | inr above ↦ absurd (not_both p q (first_before p ps q ascending above)
            (first_before q qs p other_ascending later))
      ]
    ]

-- if two lists begin with the same pair and one is within the other, so are their rests
rest_in : (p : ℕ × ℕ) (ps qs : List (ℕ × ℕ)) → AllPairs Precedes (p ∷ ps)
    → ((r : ℕ × ℕ) → Contains (p ∷ ps) r → Contains (p ∷ qs) r) → (r : ℕ × ℕ) → Contains ps r → Contains qs r
rest_in p ps qs ascending among r has =
    elim (in_cons p qs r (among r (suc has.0, omega (arith, has.1), has.2))) [
      | inl same ↦ absurd (not_itself p (rw (← same) at (first_before p ps r ascending has)))
      | inr later ↦ later
    ]

pub same_pairs : (ps qs : List (ℕ × ℕ)) → AllPairs Precedes ps → AllPairs Precedes qs
    → ((r : ℕ × ℕ) → Contains ps r → Contains qs r) → ((r : ℕ × ℕ) → Contains qs r → Contains ps r) → ps ≡ qs
same_pairs [] [] up other_up among back = refl
same_pairs [] (q ∷ qs) up other_up among back = let h = back q (0, omega arith, refl) in absurd (omega (arith, h.1))
same_pairs (p ∷ ps) [] up other_up among back = let h = among p (0, omega arith, refl) in absurd (omega (arith, h.1))
same_pairs (p ∷ ps) (q ∷ qs) up other_up among back =
    let first : p ≡ q = same_first p q ps qs up other_up (among p (0, omega arith, refl))
    (back q (0, omega arith, refl)) in
    let up' : AllPairs Precedes (p ∷ qs) = rw (← first) at other_up in
    let among' : (r : ℕ × ℕ) → Contains (p ∷ ps) r → Contains (p ∷ qs) r = rw (← first) at among in
    let back' : (r : ℕ × ℕ) → Contains (p ∷ qs) r → Contains (p ∷ ps) r = rw (← first) at back in
    let rest : ps ≡ qs = same_pairs ps qs (rest_ascends p ps up) (rest_ascends q qs other_up)
    (rest_in p ps qs up among') (rest_in p qs ps up' back') in
    λ i. first i ∷ rest i

beats_too : (levels pebbles : ℕ) (first second : PlainBoard) → IsNestedBoard levels pebbles first
    → IsNestedBoard levels pebbles second
    → (pair : ℕ × ℕ) → Contains first.pairs pair → Contains second.pairs pair
beats_too levels pebbles first second is is_second pair has =
    let are : AreLabels first.labels pair =
    All-contains (AreLabels first.labels) first.pairs pair is.is_board.pairs.of_labels has in
    let are_second : AreLabels second.labels pair = rw (is.labels ∙ sym is_second.labels) at are in
    (is_second.beats pair.0 pair.1 are_second).1 ((is.beats pair.0 pair.1 are).0 has)

pub one_nested_board : (levels pebbles : ℕ) (first second : PlainBoard) → IsNestedBoard levels pebbles first
    → IsNestedBoard levels pebbles second → first ≡ second
one_nested_board levels pebbles first second is is_second =
    let labels : first.labels ≡ second.labels = is.labels ∙ sym is_second.labels in
    let same_pebbles : first.pebbles ≡ second.pebbles = is.pebbles ∙ sym is_second.pebbles in
    let start : first.start ≡ second.start = is.start ∙ sym is_second.start in
    let pairs : first.pairs ≡ second.pairs =
    same_pairs first.pairs second.pairs is.is_board.pairs.ascending is_second.is_board.pairs.ascending
    (beats_too levels pebbles first second is is_second) (beats_too levels pebbles second first is_second is) in
    λ i. record { labels = labels i; pebbles = same_pebbles i; start = start i; pairs = pairs i }
