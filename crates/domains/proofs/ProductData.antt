-- The board of a product, as plain data.
use Rattle.std.proofs.Common.{◌≡◌, ℕ, ◌+◌, ◌*◌, ◌/◌, ◌%◌, ◌<◌, ◌⊎◌, List, refl, subst, arith, inl, inr, ◌↔◌}
use Rattle.std.specs.Prelude.{Contains}
use Rattle.std.proofs.lemmas.Bool.{cases_eq}
use Rattle.std.proofs.lemmas.List.Elements.{All-contains, All-weaker}
use Rattle.std.proofs.lemmas.Nat.{row_fits}
use Rattle.board_text.specs.PlainBoard.{PlainBoard, plain_board, AreLabels, ArePairs, Dominates, IsAntisymmetric}
use Rattle.nested_cycles.proofs.Cited.{same_pairs}
use Rattle.positions.proofs.Cited.{beats_or_not}
use Rattle.domains.specs.Products.{IsProduct}
use Rattle.domains.proofs.PairLists.{Obeys, rule_pairs}

-- ---- a board of a rule

-- the labels, the pebbles and the start, with exactly the pairs of the rule
pub record HasRule (labels : ℕ) (Rule : ℕ → ℕ → Type 0) (pebbles : ℕ) (start : List ℕ)
    (board : PlainBoard) : Type 0 where
  pub labels_are : board.labels ≡ labels
  pub pebbles_are : board.pebbles ≡ pebbles
  pub start_is : board.start ≡ start
  pub beats : (x y : ℕ) → x < labels → y < labels → Dominates board x y ↔ Rule x y
  pub pairs : ((x y : ℕ) → Rule x y → Rule y x → ⊥) → ArePairs board.labels board.pairs

all_places : (labels : ℕ) (pair : ℕ × ℕ) → AreLabels labels pair → pair.0 * labels + pair.1 < labels * labels
all_places labels pair are = omega (arith, row_fits pair.0 labels labels labels are.0 (omega arith), are.1)

pub rule_board : (labels : ℕ) (Rule : ℕ → ℕ → Type 0) (pebbles : ℕ) (start : List ℕ)
    → ((x y : ℕ) → AreLabels labels (x, y) → Rule x y ⊎ (Rule x y → ⊥))
    → (board : PlainBoard) × HasRule labels Rule pebbles start board
rule_board labels Rule pebbles start decided =
    let found = rule_pairs labels Rule decided (labels * labels) (omega arith) in
    let rules = All-contains (Obeys labels Rule (labels * labels)) found.0 in (
      plain_board labels pebbles start found.0,
      record {
        labels_are = refl;
        pebbles_are = refl;
        start_is = refl;
        beats = λ x y x_low y_low. (
          λ beats. (rules (x, y) found.1.only beats).2,
          λ rule. found.1.all x y (x_low, y_low) (all_places labels (x, y) (x_low, y_low)) rule,
        );
        pairs = λ one_way. record {
          of_labels = All-weaker (Obeys labels Rule (labels * labels)) (AreLabels labels)
              (λ pair h. h.0) found.0 found.1.only;
          ascending = found.1.ascending;
          one_way = λ x y there back. one_way x y (rules (x, y) found.1.only there).2
              (rules (y, x) found.1.only back).2;
        };
      },
    )

-- ---- products

abbrev pub Wins : PlainBoard → PlainBoard → ℕ → ℕ → Type 0
Wins outer inner x y =
    Dominates outer (x / inner.labels) (y / inner.labels)
    ⊎ ((x / inner.labels ≡ y / inner.labels) × Dominates inner (x % inner.labels) (y % inner.labels))

wins_or_not : (outer inner : PlainBoard) (x y : ℕ) → Wins outer inner x y ⊎ (Wins outer inner x y → ⊥)
wins_or_not outer inner x y =
    elim (beats_or_not outer (x / inner.labels) (y / inner.labels)) [
      | inl beats ↦ inl (inl beats)
      | inr loses ↦ elim (cases_eq (x / inner.labels) (y / inner.labels)) [
        | inr differs ↦ inr (λ wins. elim wins [ inl beats ↦ loses beats | inr part ↦ differs part.0 ])
        | inl same ↦ elim (beats_or_not inner (x % inner.labels) (y % inner.labels)) [
          | inl beats ↦ inl (inr (same, beats))
          | inr less ↦ inr (λ wins. elim wins [ inl beats ↦ loses beats | inr part ↦ less part.1 ])
        ]
      ]
    ]

-- if no two labels of a factor beat each other, no two labels of the product do
one_way : (outer inner : PlainBoard) → IsAntisymmetric outer → IsAntisymmetric inner → (x y : ℕ)
    → Wins outer inner x y → Wins outer inner y x → ⊥
one_way outer inner outer_one inner_one x y (inl there) (inl back) =
    outer_one (x / inner.labels) (y / inner.labels) there back
one_way outer inner outer_one inner_one x y (inl there) (inr back) =
    let itself = subst (λ n. Dominates outer (x / inner.labels) n) back.0 there in
    outer_one (x / inner.labels) (x / inner.labels) itself itself
one_way outer inner outer_one inner_one x y (inr there) (inl back) =
    let itself = subst (λ n. Dominates outer (y / inner.labels) n) there.0 back in
    outer_one (y / inner.labels) (y / inner.labels) itself itself
one_way outer inner outer_one inner_one x y (inr there) (inr back) =
    inner_one (x % inner.labels) (y % inner.labels) there.1 back.1

pub product_board : (outer inner : PlainBoard) (pebbles : ℕ) (start : List ℕ) → 0 < inner.labels
    → (board : PlainBoard) × IsProduct outer inner board × (board.pebbles ≡ pebbles) × (board.start ≡ start)
    × ((IsAntisymmetric outer → IsAntisymmetric inner → ArePairs board.labels board.pairs))
product_board outer inner pebbles start some =
    let labels = outer.labels * inner.labels in
    let found = rule_board labels (Wins outer inner) pebbles start (λ x y _. wins_or_not outer inner x y) in (
      found.0,
      record {
        labels = found.1.labels_are;
        some = some;
        beats = λ x y x_low y_low. found.1.beats x y (subst (λ n. x < n) found.1.labels_are x_low)
            (subst (λ n. y < n) found.1.labels_are y_low);
      },
      found.1.pebbles_are,
      found.1.start_is,
      λ outer_one inner_one. found.1.pairs (one_way outer inner outer_one inner_one),
    )

pub product_exists : (outer inner : PlainBoard) (pebbles : ℕ) (start : List ℕ) → 0 < inner.labels
    → IsAntisymmetric outer → IsAntisymmetric inner
    → (board : PlainBoard) × IsProduct outer inner board × ArePairs board.labels board.pairs
    × (board.pebbles ≡ pebbles) × (board.start ≡ start)
product_exists outer inner pebbles start some outer_one inner_one =
    let found = product_board outer inner pebbles start some in
    (found.0, found.1, found.4 outer_one inner_one, found.2, found.3)

pub products_agree : (outer inner first second : PlainBoard) → IsProduct outer inner first
    → IsProduct outer inner second
    → (first.labels ≡ second.labels)
    × ((x y : ℕ) → x < first.labels → y < first.labels → Dominates first x y ↔ Dominates second x y)
products_agree outer inner first second one other =
    let labels : first.labels ≡ second.labels = omega (arith, one.labels, other.labels) in (
      labels,
      λ x y x_low y_low.
          let x_there : x < second.labels = omega (arith, labels, x_low) in
          let y_there : y < second.labels = omega (arith, labels, y_low) in (
            λ beats. (other.beats x y x_there y_there).1 ((one.beats x y x_low y_low).0 beats),
            λ beats. (one.beats x y x_low y_low).1 ((other.beats x y x_there y_there).0 beats),
          ),
    )

-- two products with the same pebbles and start are one board
among_too : (outer inner first second : PlainBoard) → IsProduct outer inner first → IsProduct outer inner second
    → ArePairs first.labels first.pairs → (pair : ℕ × ℕ) → Contains first.pairs pair → Contains second.pairs pair
among_too outer inner first second one other are pair has =
    let both = All-contains (AreLabels first.labels) first.pairs pair are.of_labels has in
    ((products_agree outer inner first second one other).1 pair.0 pair.1 both.0 both.1).0 has

pub one_product : (outer inner first second : PlainBoard) → IsProduct outer inner first → IsProduct outer inner second
    → ArePairs first.labels first.pairs → ArePairs second.labels second.pairs → first.pebbles ≡ second.pebbles
    → first.start ≡ second.start → first ≡ second
one_product outer inner first second one other are are_second pebbles start =
    let labels = (products_agree outer inner first second one other).0 in
    let pairs : first.pairs ≡ second.pairs = same_pairs first.pairs second.pairs are.ascending are_second.ascending
    (among_too outer inner first second one other are) (among_too outer inner second first other one are_second) in
    λ i. record { labels = labels i; pebbles = pebbles i; start = start i; pairs = pairs i }
