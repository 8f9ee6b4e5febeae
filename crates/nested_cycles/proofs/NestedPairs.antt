-- The pairs of a nested board.
use Rattle.std.proofs.Common.{◌≡◌, ℕ, zero, suc, ◌+◌, ◌*◌, ◌/◌, ◌%◌, ◌<◌, ◌↔◌, List, [], ◌∷◌, ◌++◌, get_or, All}
use Rattle.std.proofs.Common.{Contains, refl, ap, subst, arith, inl, inr}
use Rattle.std.proofs.lemmas.Bool.{cases_order, cases_lt}
use Rattle.std.proofs.lemmas.List.Elements.{All-nil, All-push, All-weaker, All-contains, Contains-push}
use Rattle.std.proofs.lemmas.List.Elements.{Contains-append_left}
use Rattle.std.proofs.lemmas.List.Quantifiers.{all_pairs_push}
use Rattle.std.proofs.lemmas.Nat.{row_fits, same_from_place, div_below, mod_below, div-add-mod'}
use Rattle.board_text.specs.PlainBoard.{AreLabels, Precedes, ArePairs}
use Rattle.nested_cycles.specs.Domination.{labels_of, label_word, NestedDominates}
use Rattle.nested_cycles.specs.Inside.Pairs.{IsAmong, AreNestedPairs}
use Rattle.nested_cycles.proofs.Dominations.{each_other}

precedes_from_place : (labels : ℕ) (p q : ℕ × ℕ) → q.1 < labels → p.0 * labels + p.1 < q.0 * labels + q.1 → Precedes p q
precedes_from_place labels p q small lt =
    elim (cases_order p.0 q.0) [
      | inl same ↦ inr (same, omega (arith, lt, ap (λ (a : ℕ). a * labels) same))
      | inr differ ↦ elim differ [
        | inl less ↦ inl less
        | inr more ↦ absurd (omega (arith, lt, row_fits q.0 labels p.0 labels more (omega arith)))
      ]
    ]

-- a pair of labels below the bound of which the first dominates the second
abbrev Fits : ℕ → ℕ → ℕ × ℕ → Type 0
Fits levels places pair =
    AreLabels (labels_of levels) pair × IsAmong (labels_of levels) places pair × NestedDominates levels pair.0 pair.1

pub pairs_none : (levels : ℕ) → AreNestedPairs levels 0 []
pairs_none levels = record {
  ascending = λ i j d lt in_list. absurd (omega (arith, in_list));
  only = All-nil (Fits levels 0);
  all = λ x y are among beats. absurd (omega (arith, among));
}

still : (levels places : ℕ) (pairs : List (ℕ × ℕ)) → All (Fits levels places) pairs
    → All (Fits levels (places + 1)) pairs
still levels places pairs only =
    All-weaker (Fits levels places) (Fits levels (places + 1)) (λ pair h. (h.0, omega (arith, h.1), h.2)) pairs only

-- the pair of the next place is not among the pairs
pub pairs_skip : (levels places x y : ℕ) (pairs : List (ℕ × ℕ)) → AreNestedPairs levels places pairs
    → AreLabels (labels_of levels) (x, y) → x * labels_of levels + y ≡ places
    → (NestedDominates levels x y → ⊥) → AreNestedPairs levels (places + 1) pairs
pairs_skip levels places x y pairs are labels here not = record {
  ascending = are.ascending;
  only = still levels places pairs are.only;
  all = λ v w labels_vw among beats. elim (cases_lt (v * labels_of levels + w) places) [
    | inl before ↦ are.all v w labels_vw before beats
    | inr at ↦
        let same = same_from_place v w x y (labels_of levels) labels_vw.1 labels.1 (omega arith) in
        absurd (not (subst (λ (n : ℕ). NestedDominates levels n y) same.0
        (subst (λ (n : ℕ). NestedDominates levels v n) same.1 beats)))
  ];
}

-- the pair of the next place is among them
pub pairs_push : (levels places x y : ℕ) (pairs : List (ℕ × ℕ)) → AreNestedPairs levels places pairs
    → AreLabels (labels_of levels) (x, y) → x * labels_of levels + y ≡ places
    → NestedDominates levels x y → AreNestedPairs levels (places + 1) (pairs ++ (x, y) ∷ [])
pairs_push levels places x y pairs are labels here beats = record {
  ascending = all_pairs_push Precedes pairs (x, y) are.ascending
      (λ k d lt. precedes_from_place (labels_of levels) (get_or pairs k d) (x, y) labels.1
      (omega (arith, are.only k d lt)));
  only = All-push (Fits levels (places + 1)) pairs (x, y) (still levels places pairs are.only)
      (labels, omega arith, beats);
  all = λ v w labels_vw among beats_vw. elim (cases_lt (v * labels_of levels + w) places) [
    | inl before ↦ Contains-append_left pairs ((x, y) ∷ []) (v, w) (are.all v w labels_vw before beats_vw)
    | inr at ↦
        let same = same_from_place v w x y (labels_of levels) labels_vw.1 labels.1 (omega arith) in
        let pair : ◌≡◌ {A = ℕ × ℕ} (x, y) (v, w) = rw (same.0, same.1) refl in
        subst (λ (p : ℕ × ℕ). Contains (pairs ++ (x, y) ∷ []) p) pair (Contains-push pairs (x, y))
  ];
}

-- they are the pairs of a board
pub are_pairs : (levels places : ℕ) (pairs : List (ℕ × ℕ)) → AreNestedPairs levels places pairs
    → ArePairs (labels_of levels) pairs
are_pairs levels places pairs are = record {
  of_labels = All-weaker (Fits levels places) (AreLabels (labels_of levels)) (λ pair h. h.0) pairs are.only;
  ascending = are.ascending;
  one_way = λ x y one back. each_other (label_word levels x) (label_word levels y)
      (All-contains (Fits levels places) pairs (x, y) are.only one).2
      (All-contains (Fits levels places) pairs (y, x) are.only back).2;
}

all_places : (labels : ℕ) (pair : ℕ × ℕ) → AreLabels labels pair → IsAmong labels (labels * labels) pair
all_places labels pair are = omega (arith, row_fits pair.0 labels labels labels are.0 (omega arith), are.1)

-- the pairs are those of all labels of which the first dominates the second
pub beats_exactly : (levels : ℕ) (pairs : List (ℕ × ℕ))
    → AreNestedPairs levels (labels_of levels * labels_of levels) pairs → (x y : ℕ)
    → AreLabels (labels_of levels) (x, y)
    → Contains pairs (x, y) ↔ NestedDominates levels x y
beats_exactly levels pairs are x y labels = (
  λ one. (All-contains (Fits levels (labels_of levels * labels_of levels)) pairs (x, y) are.only one).2,
  λ beats. are.all x y labels (all_places (labels_of levels) (x, y) labels) beats,
)

-- a place is that of two labels
pub record PairAt (labels place : ℕ) : Type 0 where
  pub are : AreLabels labels (place / labels, place % labels)
  pub here : place / labels * labels + place % labels ≡ place

pub pair_at : (labels place : ℕ) → place < labels * labels → PairAt labels place
pair_at zero place lt = absurd (omega arith)
pair_at (suc n) place lt = record {
  are = (div_below place (suc n) (suc n) (omega arith) lt, mod_below place (suc n) (omega arith));
  here = div-add-mod' place (suc n);
}

pub next_pair : (levels labels place x y : ℕ) (pairs new : List (ℕ × ℕ)) → labels ≡ labels_of levels
    → place < labels * labels → x ≡ place / labels → y ≡ place % labels
    → AreNestedPairs levels place pairs → NestedDominates levels x y
    → new ≡ pairs ++ (place / labels, place % labels) ∷ []
    → AreNestedPairs levels (place + 1) new
next_pair levels labels place x y pairs new e lt is_x is_y are beats is_new =
    let at : PairAt (labels_of levels) place = rw e at (pair_at labels place lt) in
    rw (is_new, e) (pairs_push levels place (place / labels_of levels)
    (place % labels_of levels) pairs are at.are at.here (rw (is_x, is_y, e) at beats))

pub no_pair : (levels labels place x y : ℕ) (pairs new : List (ℕ × ℕ)) → labels ≡ labels_of levels
    → place < labels * labels → x ≡ place / labels → y ≡ place % labels
    → AreNestedPairs levels place pairs → (NestedDominates levels x y → ⊥) → new ≡ pairs
    → AreNestedPairs levels (place + 1) new
no_pair levels labels place x y pairs new e lt is_x is_y are not is_new =
    let at : PairAt (labels_of levels) place = rw e at (pair_at labels place lt) in
    rw is_new (pairs_skip levels place (place / labels_of levels) (place % labels_of levels) pairs are at.are at.here
    (λ beats. not (rw (is_x, is_y, e) beats)))
