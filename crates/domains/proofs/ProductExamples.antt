-- Products that no run can reach.
use Rattle.std.proofs.Common.{◌≡◌, ℕ, suc, ◌*◌, ◌<◌, [], ◌∷◌, replicate, refl, ◌∙◌, ap, arith}
use Rattle.std.proofs.lemmas.List.{length-replicate}
use Rattle.std.proofs.lemmas.List.Elements.{All-cons, All-nil, All-replicate}
use Rattle.board_text.specs.PlainBoard.{PlainBoard, ArePairs, plain_board}
use Rattle.nested_cycles.proofs.Cited.{contains_none}
use Rattle.positions.specs.Game.{LabellerTree}
use Rattle.positions.specs.Value.{HasValue}
use Rattle.positions.specs.declared.value.Value.TheVariants.{Forever}
use Rattle.domains.specs.Circles.{IsCircle}
use Rattle.domains.specs.Dominated.{AreDominated}
use Rattle.domains.specs.Orders.{IsChain}
use Rattle.domains.specs.Products.{IsProductOf}
use Rattle.domains.proofs.Circles.{residues_dominated}
use Rattle.domains.proofs.DominatedLists.{dominated_last}
use Rattle.domains.proofs.FewestLabels.{circle_board, residues_one_way}
use Rattle.domains.proofs.Heights.{chain_has}
use Rattle.domains.proofs.ProductData.{product_exists}
use Rattle.domains.proofs.SeveralProducts.{LastsFromZero, several_last}

from_zero : (factor : PlainBoard) (count depth : ℕ) → factor.pebbles ≡ suc count → 0 < factor.labels
    → AreDominated factor count → LastsFromZero depth factor
from_zero factor count depth more some dominated = (
  omega (arith, more),
  dominated_last factor count depth (replicate factor.pebbles 0) more dominated (
    length-replicate {A = ℕ} factor.pebbles 0,
    All-replicate
        (λ place. place < factor.labels) factor.pebbles 0 some,
  ),
)

module _ (residues : PlainBoard) (are_residues : IsCircle 7 (1 ∷ 2 ∷ 4 ∷ []) residues)
    (three : residues.pebbles ≡ 3) where
  residues_last : (depth : ℕ) → LastsFromZero depth residues
  residues_last depth =
      from_zero residues 2 depth three (omega (arith, are_residues.labels_are))
      (residues_dominated residues are_residues)

  pub forty_nine : (board : PlainBoard) → IsProductOf (residues ∷ residues ∷ []) board
      → (board.labels ≡ 49) × (board.pebbles ≡ 5) × HasValue board (replicate board.pebbles 0) Forever
  forty_nine board product =
      let inner = product.1 in
      let one : inner.0.labels ≡ 1 = inner.1.0 in
      let labels_inner : product.0.labels ≡ 7 = inner.2.labels
      ∙ (ap (λ (n : ℕ). n * inner.0.labels) are_residues.labels_are ∙ ap (λ (n : ℕ). 7 * n) one) in
      let labels_are : board.labels ≡ 49 = product.2.labels
      ∙ (ap (λ (n : ℕ). n * product.0.labels) are_residues.labels_are ∙ ap (λ (n : ℕ). 7 * n) labels_inner) in (
        labels_are,
        omega (arith, product.3, inner.3, inner.1.1, three),
        λ depth. several_last (residues ∷ residues ∷ []) board depth product
            (All-cons (LastsFromZero depth) residues (residues ∷ []) (residues_last depth)
            (All-cons (LastsFromZero depth) residues [] (residues_last depth) (All-nil (LastsFromZero depth)))),
      )

  pub fourteen_hundred : (chain board : PlainBoard) → IsChain chain → chain.labels ≡ 200 → chain.pebbles ≡ 2
      → IsProductOf (chain ∷ residues ∷ []) board
      → (board.labels ≡ 1400) × (board.pebbles ≡ 4) × LabellerTree board 199 (replicate board.pebbles 0)
  fourteen_hundred chain board is_chain long pair product =
      let inner = product.1 in
      let one : inner.0.labels ≡ 1 = inner.1.0 in
      let labels_inner : product.0.labels ≡ 7 = inner.2.labels
      ∙ (ap (λ (n : ℕ). n * inner.0.labels) are_residues.labels_are ∙ ap (λ (n : ℕ). 7 * n) one) in
      let labels_are : board.labels ≡ 1400 = product.2.labels
      ∙ (ap (λ (n : ℕ). n * product.0.labels) long ∙ ap (λ (n : ℕ). 200 * n) labels_inner) in
      let chain_lasts = chain_has chain 199 is_chain long (omega (arith, pair)) in (
        labels_are,
        omega (arith, product.3, inner.3, inner.1.1, pair, three),
        several_last (chain ∷ residues ∷ []) board 199 product
            (All-cons (LastsFromZero 199) chain (residues ∷ []) (omega (arith, pair), chain_lasts.0)
            (All-cons (LastsFromZero 199) residues [] (residues_last 199) (All-nil (LastsFromZero 199)))),
      )

-- the factors and the product exist
pub forty_nine_exists : (residues : PlainBoard) × (board : PlainBoard) × IsCircle 7 (1 ∷ 2 ∷ 4 ∷ []) residues
    × (residues.pebbles ≡ 3) × IsProductOf (residues ∷ residues ∷ []) board × ArePairs board.labels board.pairs
forty_nine_exists =
    let residues = circle_board 7 3 (1 ∷ 2 ∷ 4 ∷ []) residues_one_way in
    let one = plain_board 1 1 [] [] in
    let inner = product_exists residues.0 one 3 [] (omega arith) residues.3.one_way
    (λ x y beats _. contains_none (x, y) beats) in
    let inner_labels : inner.0.labels ≡ 7 = inner.1.labels ∙ ap (λ (n : ℕ). n * 1) residues.1.labels_are in
    let board = product_exists residues.0 inner.0 5 [] (omega (arith, inner_labels)) residues.3.one_way
    inner.2.one_way in (
      residues.0,
      board.0,
      residues.1,
      residues.2,
      (
        inner.0,
        (one, (refl, refl, contains_none (0, 0)), inner.1, omega (arith, inner.3, residues.2)),
        board.1,
        omega (arith, board.3, residues.2, inner.3),
      ),
      board.2,
    )
