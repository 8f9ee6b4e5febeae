-- The number of pairs of a nested board.
use Rattle.std.proofs.Common.{◌≡◌, ◌≢◌, ◌⊎◌, ℕ, zero, suc, ◌+◌, ◌-◌, ◌*◌, ◌/◌, ◌%◌, ◌<◌, ◌≤◌, List, [], ◌∷◌, length}
use Rattle.std.proofs.Common.{AllPairs, Contains, refl, sym, ◌∙◌, subst, arith, inl, inr}
use Rattle.std.proofs.Math.Dec.{eqb}
use Rattle.std.specs.Cmp.{nat_eq_equiv}
use Rattle.std.proofs.lemmas.Bool.{cases_eq, eqb-true}
use Rattle.std.proofs.lemmas.Bool.Decides.{Decides-eqb}
use Rattle.std.proofs.lemmas.List.Elements.{All-weaker, All-contains_itself, All-contains, All-tail}
use Rattle.std.proofs.lemmas.List.Kept.{AllPairs-cons}
use Rattle.std.proofs.lemmas.Map.Made.{IsDistinct-from_AllPairs}
use Rattle.std.proofs.lemmas.Map.Views.{list_any-from_Contains, Contains-from_any}
use Rattle.std.proofs.lemmas.Map.Steps.{length-le_from_distinct_below, le-length_from_below}
use Rattle.std.proofs.lemmas.Nat.{same_from_place, mul-add-lt}
use Rattle.board_text.specs.PlainBoard.{PlainBoard, AreLabels, ArePairs, Precedes}
use Rattle.nested_cycles.specs.Domination.{labels_of}
use Rattle.nested_cycles.specs.NestedBoard.{IsNestedBoard}
use Rattle.nested_cycles.proofs.Dominations.{one_of_two_labels}
use Rattle.nested_cycles.proofs.NestedPairs.{PairAt, pair_at}
use Rattle.nested_cycles.proofs.NestedBoards.{first_before, rest_ascends, not_itself, in_cons}

-- ---- a list without repetitions of all numbers below a bound has as many elements

apart_cons : (n : ℕ) (ns : List ℕ) → (Contains ns n → ⊥) → AllPairs (λ a b. a ≢ b) ns → AllPairs (λ a b. a ≢ b) (n ∷ ns)
apart_cons n ns not apart =
    AllPairs-cons (λ a b. a ≢ b) n ns
    (All-weaker (Contains ns) (λ m. n ≢ m) (λ m has same. not (subst (Contains ns) (sym same) has)) ns
    (All-contains_itself ns)) apart

pub as_many : (ns : List ℕ) (bound : ℕ) → AllPairs (λ a b. a ≢ b) ns → ((n : ℕ) → Contains ns n → n < bound)
    → ((n : ℕ) → n < bound → Contains ns n) → length ns ≡ bound
as_many ns bound apart below all =
    let most : length ns ≤ bound =
    length-le_from_distinct_below ns bound (IsDistinct-from_AllPairs {eq = eqb} Decides-eqb ns apart)
    (λ n any. below n (Contains-from_any {eq = eqb} eqb-true n ns any)) in
    let least : bound ≤ length ns =
    le-length_from_below ns bound (λ n lt. list_any-from_Contains nat_eq_equiv n ns (all n lt)) in
    omega arith

-- ---- the places of the pairs, of the same pairs turned round, and of each label with itself

abbrev places : ℕ → List (ℕ × ℕ) → List ℕ → List ℕ
places labels [] others = others
places labels (p ∷ ps) others = (p.0 * labels + p.1) ∷ (p.1 * labels + p.0) ∷ places labels ps others

abbrev diagonal : ℕ → ℕ → List ℕ
diagonal labels zero = []
diagonal labels (suc x) = (x * labels + x) ∷ diagonal labels x

length-places : (labels : ℕ) (ps : List (ℕ × ℕ)) (others : List ℕ)
    → length (places labels ps others) ≡ 2 * length ps + length others
length-places labels [] others = omega arith
length-places labels (p ∷ ps) others = let rest = length-places labels ps others in omega (arith, rest)

length-diagonal : (labels count : ℕ) → length (diagonal labels count) ≡ count
length-diagonal labels zero = refl
length-diagonal labels (suc x) = let rest = length-diagonal labels x in omega (arith, rest)

first_in : {X : Type 0} (x : X) (xs : List X) → Contains (x ∷ xs) x
first_in x xs = (0, omega arith, refl)

later_in : {X : Type 0} (x : X) (xs : List X) (y : X) → Contains xs y → Contains (x ∷ xs) y
later_in x xs y has = (suc has.0, omega (arith, has.1), has.2)

in_numbers : (m : ℕ) (ns : List ℕ) (n : ℕ) → Contains (m ∷ ns) n → (m ≡ n) ⊎ Contains ns n
in_numbers m ns n (zero, lt, is) = inl is
in_numbers m ns n (suc k, lt, is) = inr (k, omega arith, is)

-- the reasons why a number is among the places
data InPlaces (labels : ℕ) (ps : List (ℕ × ℕ)) (others : List ℕ) (n : ℕ) : Type 0 where
  forth : (r : ℕ × ℕ) → Contains ps r → n ≡ r.0 * labels + r.1 → InPlaces labels ps others n
  back : (r : ℕ × ℕ) → Contains ps r → n ≡ r.1 * labels + r.0 → InPlaces labels ps others n
  other : Contains others n → InPlaces labels ps others n

later_place : (labels : ℕ) (p : ℕ × ℕ) (ps : List (ℕ × ℕ)) (others : List ℕ) (n : ℕ) → InPlaces labels ps others n
    → InPlaces labels (p ∷ ps) others n
later_place labels p ps others n (forth r has e) = forth r (later_in p ps r has) e
later_place labels p ps others n (back r has e) = back r (later_in p ps r has) e
later_place labels p ps others n (other has) = other has

in_places : (labels : ℕ) (ps : List (ℕ × ℕ)) (others : List ℕ) (n : ℕ) → Contains (places labels ps others) n
    → InPlaces labels ps others n
in_places labels [] others n has = other has
in_places labels (p ∷ ps) others n has =
    elim (in_numbers (p.0 * labels + p.1) ((p.1 * labels + p.0) ∷ places labels ps others) n has) [
      | inl same ↦ forth p (first_in p ps) (sym same)
      | inr behind ↦ elim (in_numbers (p.1 * labels + p.0) (places labels ps others) n behind) [
        | inl same ↦ back p (first_in p ps) (sym same)
        | inr later ↦ later_place labels p ps others n (in_places labels ps others n later)
      ]
    ]

in_diagonal : (labels count n : ℕ) → Contains (diagonal labels count) n → (x : ℕ) × (x < count) × (n ≡ x * labels + x)
in_diagonal labels zero n has = absurd (omega (arith, has.1))
in_diagonal labels (suc x) n has =
    elim (in_numbers (x * labels + x) (diagonal labels x) n has) [
      | inl same ↦ (x, omega arith, sym same)
      | inr later ↦ let h = in_diagonal labels x n later in (h.0, omega (arith, h.1), h.2)
    ]

-- ---- no place is there twice

-- a pair differs from the pairs after it and from these turned round, and its labels differ
record Alone (labels : ℕ) (p : ℕ × ℕ) (ps : List (ℕ × ℕ)) : Type 0 where
  labels_are : AreLabels labels p
  labels_of_others : (r : ℕ × ℕ) → Contains ps r → AreLabels labels r
  none_same : (r : ℕ × ℕ) → Contains ps r → p.0 ≡ r.0 → p.1 ≡ r.1 → ⊥
  none_back : (r : ℕ × ℕ) → Contains ps r → p.0 ≡ r.1 → p.1 ≡ r.0 → ⊥
  differ : p.0 ≢ p.1

same_pair : (p r : ℕ × ℕ) → p.0 ≡ r.0 → p.1 ≡ r.1 → r ≡ p
same_pair p r e f = λ i. (sym e i, sym f i)

alone : (labels : ℕ) (p : ℕ × ℕ) (ps : List (ℕ × ℕ)) → ArePairs labels (p ∷ ps) → Alone labels p ps
alone labels p ps are = record {
  labels_are = All-contains (AreLabels labels) (p ∷ ps) p are.of_labels (first_in p ps);
  labels_of_others = λ r has. All-contains (AreLabels labels) (p ∷ ps) r are.of_labels (later_in p ps r has);
  none_same = λ r has e f. not_itself p
      (subst (λ (q : ℕ × ℕ). Precedes p q) (same_pair p r e f) (first_before p ps r are.ascending has));
  none_back = λ r has e f. are.one_way p.0 p.1 (first_in p ps)
      (subst (Contains (p ∷ ps)) (same_pair (p.1, p.0) r f e) (later_in p ps r has));
  differ = λ e. let here : Contains (p ∷ ps) (p.0, p.0) =
      subst (λ (y : ℕ). Contains (p ∷ ps) (p.0, y)) (sym e) (first_in p ps) in are.one_way p.0 p.0 here here;
}

not_forth : (labels : ℕ) (p : ℕ × ℕ) (ps : List (ℕ × ℕ)) → Alone labels p ps
    → InPlaces labels ps (diagonal labels labels) (p.0 * labels + p.1) → ⊥
not_forth labels p ps is (forth r has e) =
    let same = same_from_place p.0 p.1 r.0 r.1 labels is.labels_are.1 (is.labels_of_others r has).1 e in
    is.none_same r has same.0 same.1
not_forth labels p ps is (back r has e) =
    let same = same_from_place p.0 p.1 r.1 r.0 labels is.labels_are.1 (is.labels_of_others r has).0 e in
    is.none_back r has same.0 same.1
not_forth labels p ps is (other has) =
    let h = in_diagonal labels labels (p.0 * labels + p.1) has in
    let same = same_from_place p.0 p.1 h.0 h.0 labels is.labels_are.1 h.1 h.2 in is.differ (same.0 ∙ sym same.1)

not_back : (labels : ℕ) (p : ℕ × ℕ) (ps : List (ℕ × ℕ)) → Alone labels p ps
    → InPlaces labels ps (diagonal labels labels) (p.1 * labels + p.0) → ⊥
not_back labels p ps is (forth r has e) =
    let same = same_from_place p.1 p.0 r.0 r.1 labels is.labels_are.0 (is.labels_of_others r has).1 e in
    is.none_back r has same.1 same.0
not_back labels p ps is (back r has e) =
    let same = same_from_place p.1 p.0 r.1 r.0 labels is.labels_are.0 (is.labels_of_others r has).0 e in
    is.none_same r has same.1 same.0
not_back labels p ps is (other has) =
    let h = in_diagonal labels labels (p.1 * labels + p.0) has in
    let same = same_from_place p.1 p.0 h.0 h.0 labels is.labels_are.0 h.1 h.2 in is.differ (same.1 ∙ sym same.0)

rest_are : (labels : ℕ) (p : ℕ × ℕ) (ps : List (ℕ × ℕ)) → ArePairs labels (p ∷ ps) → ArePairs labels ps
rest_are labels p ps are = record {
  of_labels = All-tail (AreLabels labels) p ps are.of_labels;
  ascending = rest_ascends p ps are.ascending;
  one_way = λ x y one two. are.one_way x y (later_in p ps (x, y) one) (later_in p ps (y, x) two);
}

apart_diagonal : (labels count : ℕ) → count ≤ labels → AllPairs (λ a b. a ≢ b) (diagonal labels count)
apart_diagonal labels zero few = λ i j d lt in_list. absurd (omega (arith, in_list))
apart_diagonal labels (suc x) few =
    apart_cons (x * labels + x) (diagonal labels x) (
    λ has. let h = in_diagonal labels x (x * labels + x) has in
    let same = same_from_place x x h.0 h.0 labels (omega arith) (omega (arith, h.1)) h.2 in omega (arith, h.1, same.0)
    ) (apart_diagonal labels x (omega arith))

apart_places : (labels : ℕ) (ps : List (ℕ × ℕ)) → ArePairs labels ps
    → AllPairs (λ a b. a ≢ b) (places labels ps (diagonal labels labels))
apart_places labels [] are = apart_diagonal labels labels (omega arith)
apart_places labels (p ∷ ps) are =
    let is = alone labels p ps are in
    let rest = places labels ps (diagonal labels labels) in
    apart_cons (p.0 * labels + p.1) ((p.1 * labels + p.0) ∷ rest) (
    λ has. elim (in_numbers (p.1 * labels + p.0) rest (p.0 * labels + p.1) has) [
      | inl same ↦ let turned = same_from_place p.1 p.0 p.0 p.1 labels is.labels_are.0 is.labels_are.1 same in
          is.differ turned.1
      | inr later ↦ not_forth labels p ps is (in_places labels ps (diagonal labels labels) (p.0 * labels + p.1) later)
    ]
    ) (apart_cons (p.1 * labels + p.0) rest
    (λ has. not_back labels p ps is (in_places labels ps (diagonal labels labels) (p.1 * labels + p.0) has))
    (apart_places labels ps (rest_are labels p ps are)))

-- ---- each place is there

behind : (labels : ℕ) (p : ℕ × ℕ) (ps : List (ℕ × ℕ)) (others : List ℕ) (n : ℕ) → Contains (places labels ps others) n
    → Contains (places labels (p ∷ ps) others) n
behind labels p ps others n has =
    later_in (p.0 * labels + p.1) ((p.1 * labels + p.0) ∷ places labels ps others) n
    (later_in (p.1 * labels + p.0) (places labels ps others) n has)

has_other : (labels : ℕ) (ps : List (ℕ × ℕ)) (others : List ℕ) (n : ℕ) → Contains others n
    → Contains (places labels ps others) n
has_other labels [] others n has = has
has_other labels (p ∷ ps) others n has = behind labels p ps others n (has_other labels ps others n has)

has_both : (labels : ℕ) (ps : List (ℕ × ℕ)) (others : List ℕ) (r : ℕ × ℕ) → Contains ps r
    → Contains (places labels ps others) (r.0 * labels + r.1) × Contains (places labels ps others) (r.1 * labels + r.0)
has_both labels [] others r has = absurd (omega (arith, has.1))
has_both labels (p ∷ ps) others r has =
    let rest = (p.1 * labels + p.0) ∷ places labels ps others in
    elim (in_cons p ps r has) [
      | inl same ↦ subst (λ (q : ℕ × ℕ). Contains (places labels (p ∷ ps) others) (q.0 * labels + q.1)
          × Contains (places labels (p ∷ ps) others) (q.1 * labels + q.0)) same (
            first_in (p.0 * labels + p.1) rest,
            later_in (p.0 * labels + p.1) rest (p.1 * labels + p.0)
                (first_in (p.1 * labels + p.0) (places labels ps others)),
          )
      | inr later ↦
          let h = has_both labels ps others r later in
          (behind labels p ps others (r.0 * labels + r.1) h.0, behind labels p ps others (r.1 * labels + r.0) h.1)
    ]

has_diagonal : (labels count x : ℕ) → x < count → Contains (diagonal labels count) (x * labels + x)
has_diagonal labels zero x lt = absurd (omega arith)
has_diagonal labels (suc y) x lt =
    elim (cases_eq x y) [
      | inl same ↦ subst (λ (z : ℕ). Contains (diagonal labels (suc y)) (z * labels + z)) (sym same)
          (first_in (y * labels + y) (diagonal labels y))
      | inr differ ↦ later_in (y * labels + y) (diagonal labels y) (x * labels + x)
          (has_diagonal labels y x (omega arith))
    ]

has_place : (labels : ℕ) (ps : List (ℕ × ℕ)) (n : ℕ)
    → ((x y : ℕ) → AreLabels labels (x, y) → x ≢ y → Contains ps (x, y) ⊎ Contains ps (y, x)) → n < labels * labels
    → Contains (places labels ps (diagonal labels labels)) n
has_place labels ps n each lt =
    let at : PairAt labels n = pair_at labels n lt in
    subst (Contains (places labels ps (diagonal labels labels))) at.here (
    elim (cases_eq (n / labels) (n % labels)) [
      | inl same ↦ has_other labels ps (diagonal labels labels) (n / labels * labels + n % labels) (
          subst (λ (y : ℕ). Contains (diagonal labels labels) (n / labels * labels + y)) same
          (has_diagonal labels labels (n / labels) at.are.0)
          )
      | inr differ ↦ elim (each (n / labels) (n % labels) at.are differ) [
        | inl one ↦ (has_both labels ps (diagonal labels labels) (n / labels, n % labels) one).0
        | inr two ↦ (has_both labels ps (diagonal labels labels) (n % labels, n / labels) two).1
      ]
    ]
    )

place_below : (labels : ℕ) (ps : List (ℕ × ℕ)) (n : ℕ) → ArePairs labels ps
    → InPlaces labels ps (diagonal labels labels) n → n < labels * labels
place_below labels ps n are (forth r has e) =
    let is : AreLabels labels r = All-contains (AreLabels labels) ps r are.of_labels has in
    rw e (mul-add-lt r.0 labels r.1 labels is.0 is.1)
place_below labels ps n are (back r has e) =
    let is : AreLabels labels r = All-contains (AreLabels labels) ps r are.of_labels has in
    rw e (mul-add-lt r.1 labels r.0 labels is.1 is.0)
place_below labels ps n are (other has) =
    let h = in_diagonal labels labels n has in rw h.2 (mul-add-lt h.0 labels h.0 labels h.1 h.1)

half_of_all : (labels : ℕ) (ps : List (ℕ × ℕ)) → ArePairs labels ps
    → ((x y : ℕ) → AreLabels labels (x, y) → x ≢ y → Contains ps (x, y) ⊎ Contains ps (y, x))
    → 2 * length ps + labels ≡ labels * labels
half_of_all labels ps are each =
    let whole : length (places labels ps (diagonal labels labels)) ≡ labels * labels =
    as_many (places labels ps (diagonal labels labels)) (labels * labels) (apart_places labels ps are)
    (λ n has. place_below labels ps n are (in_places labels ps (diagonal labels labels) n has))
    (λ n lt. has_place labels ps n each lt) in
    let long : length (places labels ps (diagonal labels labels)) ≡ 2 * length ps + length (diagonal labels labels) =
    length-places labels ps (diagonal labels labels) in
    let square : length (diagonal labels labels) ≡ labels = length-diagonal labels labels in
    omega arith

pub count_of_pairs : (levels pebbles : ℕ) (board : PlainBoard) → IsNestedBoard levels pebbles board
    → 2 * length board.pairs + board.labels ≡ board.labels * board.labels
count_of_pairs levels pebbles board is =
    half_of_all board.labels board.pairs is.is_board.pairs (
    λ x y are differ.
    let labels : AreLabels (labels_of levels) (x, y) = rw is.labels at are in
    elim (one_of_two_labels (levels - 1) x y labels.0 labels.1 differ) [
      | inl one ↦ inl ((is.beats x y are).1 one)
      | inr two ↦ inr ((is.beats y x (are.1, are.0)).1 two)
    ]
    )
