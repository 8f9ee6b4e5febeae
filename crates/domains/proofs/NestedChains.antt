-- On nested boards short chains are dominated, and from the fourth level on short lists aren't.
use Rattle.std.proofs.Common.{◌≡◌, ℕ, zero, suc, ◌+◌, ◌*◌, ◌/◌, ◌%◌, ◌<◌, ◌⊎◌, [], ◌∷◌, length, replicate}
use Rattle.std.proofs.Common.{Contains, ◌∙◌, subst, arith, inl, inr, div-lt_iff_lt-mul}
use Rattle.std.proofs.lemmas.Nat.{div-mul-add}
use Rattle.std.proofs.lemmas.List.{length-replicate}
use Rattle.std.proofs.lemmas.List.Elements.{All-contains, All-cons, All-nil, All-replicate}
use Rattle.nested_cycles.proofs.Cited.{contains_here, contains_later}
use Rattle.board_text.specs.PlainBoard.{PlainBoard, Dominates}
use Rattle.positions.specs.Value.{HasValue}
use Rattle.positions.specs.declared.value.Value.TheVariants.{Forever}
use Rattle.player.specs.NestedPlay.{IsNestedPlay}
use Rattle.chains.specs.Chains.{AreChainsDominated}
use Rattle.domains.specs.Circles.{IsCircle}
use Rattle.domains.specs.Dominated.{AreDominated}
use Rattle.domains.specs.Products.{IsProduct}
use Rattle.domains.proofs.Circles.{cycle_dominated}
use Rattle.domains.proofs.DominatedChains.{chains_of_dominated, dominated_chains_last}
use Rattle.domains.proofs.FewestLabels.{circle_board, cycle_one_way}
use Rattle.domains.proofs.NestedProducts.{exists, nested_is_product, one_step}
use Rattle.domains.proofs.ProductBoards.{label_in}
use Rattle.domains.proofs.ProductChains.{product_chains}

pub nested_chains : (count : ℕ) (board : PlainBoard) → IsNestedPlay (suc count) board → AreChainsDominated board count
nested_chains zero board nested [] short chained =
    (0, omega (arith, nested.labels), All-nil (λ other. Dominates board 0 other))
nested_chains zero board nested (label ∷ chain) short chained = absurd (omega (arith, short))
nested_chains (suc count) board nested chain short chained =
    let cycle = circle_board 3 2 (1 ∷ []) cycle_one_way in
    let inner = exists count in
    product_chains cycle.0 inner.board board
    (nested_is_product count cycle.0 inner.board board cycle.1 inner.nested nested)
    1 count
    (chains_of_dominated cycle.0 1 (omega (arith, cycle.1.labels_are)) (cycle_dominated cycle.0 cycle.1))
    (nested_chains count inner.board inner.nested) chain (omega (arith, short)) chained

-- so each level carries as many pebbles
pub nested_carries : (count : ℕ) (board : PlainBoard) → IsNestedPlay (suc count) board → board.pebbles ≡ suc count
    → HasValue board (replicate board.pebbles 0) Forever
nested_carries count board nested pebbles =
    dominated_chains_last board count pebbles (nested_chains count board nested) 0

-- ---- no label beats three in the three copies

module _ (cycle inner board : PlainBoard) (circle : IsCircle 3 (1 ∷ []) cycle)
    (product : IsProduct cycle inner board) where
  first_of : ℕ → ℕ
  first_of copy = copy * inner.labels + 0

  first_low : (copy : ℕ) → copy < 3 → first_of copy < board.labels
  unfolding first_of
  first_low copy low = label_in cycle inner board copy 0 product (omega (arith, low, circle.labels_are)) product.some

  beats_copy : (copy label : ℕ) → copy < 3 → label < board.labels → Dominates board label (first_of copy)
      → (label / inner.labels ≡ (copy + 1) % 3) ⊎ (label / inner.labels ≡ copy)
  unfolding first_of
  beats_copy copy label low label_low beats =
      let place = label / inner.labels in
      let place_low : place < cycle.labels
      = (div-lt_iff_lt-mul product.some).1 (subst (λ n. label < n) product.labels label_low) in
      let at : first_of copy / inner.labels ≡ copy = div-mul-add copy inner.labels 0 product.some in
      elim ((product.beats label (first_of copy) label_low (first_low copy low)).0 beats) [
        | inl over ↦ inl ((one_step cycle circle place copy (omega (arith, place_low, circle.labels_are)) low).0
            (subst (Dominates cycle place) at over))
        | inr same ↦ inr (same.0 ∙ at)
      ]

  pub three_copies : (count : ℕ) → AreDominated board (suc (suc (suc count))) → ⊥
  three_copies count dominated =
      let rest = replicate count (first_of 0) in
      let labels = first_of 0 ∷ first_of 1 ∷ first_of 2 ∷ rest in
      let low = λ (n : ℕ). n < board.labels in
      let many : length rest ≡ count = length-replicate {A = ℕ} count (first_of 0) in
      let found = dominated labels (omega (arith, many))
      (All-cons low (first_of 0) (first_of 1 ∷ first_of 2 ∷ rest) (first_low 0 (omega arith))
      (All-cons low (first_of 1) (first_of 2 ∷ rest) (first_low 1 (omega arith))
      (All-cons low (first_of 2) rest (first_low 2 (omega arith))
      (All-replicate low count (first_of 0) (first_low 0 (omega arith)))))) in
      let beats : (other : ℕ) → Contains labels other → Dominates board found.0 other
      = λ other has. All-contains (λ n. Dominates board found.0 n) labels other found.2 has in
      let first = beats_copy 0 found.0 (omega arith) found.1
      (beats (first_of 0) (contains_here (first_of 0) (first_of 1 ∷ first_of 2 ∷ rest))) in
      let second = beats_copy 1 found.0 (omega arith) found.1
      (beats (first_of 1) (contains_later (first_of 0) (first_of 1 ∷ first_of 2 ∷ rest) (first_of 1)
      (contains_here (first_of 1) (first_of 2 ∷ rest)))) in
      let third = beats_copy 2 found.0 (omega arith) found.1
      (beats (first_of 2) (contains_later (first_of 0) (first_of 1 ∷ first_of 2 ∷ rest) (first_of 2)
      (contains_later (first_of 1) (first_of 2 ∷ rest) (first_of 2) (contains_here (first_of 2) rest)))) in
      elim first [
        | inl one ↦ elim third [
          | inl none ↦ omega (arith, one, none)
          | inr two ↦ omega (arith, one, two)
        ]
        | inr none ↦ elim second [
          | inl two ↦ omega (arith, none, two)
          | inr one ↦ omega (arith, none, one)
        ]
      ]

pub nested_lists : (count : ℕ) (board : PlainBoard) → IsNestedPlay (suc (suc (suc (suc count)))) board
    → AreDominated board (suc (suc (suc count))) → ⊥
nested_lists count board nested dominated =
    let cycle = circle_board 3 2 (1 ∷ []) cycle_one_way in
    let inner = exists (suc (suc count)) in
    three_copies cycle.0 inner.board board cycle.1
    (nested_is_product (suc (suc count)) cycle.0 inner.board board cycle.1 inner.nested nested) count dominated
