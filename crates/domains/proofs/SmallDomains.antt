-- Circles of few labels, and their products.
use Rattle.std.proofs.Common.{ℕ, suc, ◌+◌, ◌*◌, ◌^◌, ◌<◌, List, [], ◌∷◌, ◌∙◌, ap, inl, inr, subst, sym, arith}
use Rattle.std.proofs.lemmas.List.Elements.{All-cons, All-head, All-nil, All-tail}
use Rattle.std.specs.Prelude.{All}
use Rattle.board_text.specs.PlainBoard.{PlainBoard, IsAntisymmetric}
use Rattle.domains.specs.Carried.{CarriesExactly, SomeCarries}
use Rattle.chains.specs.Chains.{AreChainsDominated}
use Rattle.domains.specs.Circles.{AreResidues, IsCircle}
use Rattle.domains.specs.Products.{IsProductOf}
use Rattle.domains.proofs.Circles.{cycle_dominated, residues_dominated}
use Rattle.domains.proofs.DominatedChains.{chains_of_dominated}
use Rattle.domains.proofs.ExactCounts.{chains_exactly, product_carries_exactly, several_carry_exactly}
use Rattle.domains.proofs.FewestLabels.{Ahead, circle_board, cycle_one_way, residues_one_way}
use Rattle.domains.proofs.ProductData.{product_exists}
use Rattle.domains.proofs.ResiduesModuloFortySeven.{forty_seven_dominated}
use Rattle.domains.proofs.ResiduesModuloNineteen.{nineteen_dominated}

-- a circle whose short chains of labels are dominated
circle_exactly : (labels count : ℕ) (steps : List ℕ) → 0 < labels → suc labels < 2 ^ suc (suc count)
    → ((board : PlainBoard) → IsCircle labels steps board → AreChainsDominated board count)
    → (board : PlainBoard) → IsAntisymmetric board → IsCircle labels steps board → CarriesExactly board (suc count)
circle_exactly labels count steps some few dominated board one_way circle =
    let same = circle.labels_are in
    chains_exactly board count (subst (λ n. 0 < n) (sym same) some) one_way (dominated board circle)
    (subst (λ n. suc n < 2 ^ suc (suc count)) (sym same) few)

circle_carries : (labels count : ℕ) (steps : List ℕ) → 0 < labels → suc labels < 2 ^ suc (suc count)
    → ((x y : ℕ) → Ahead labels steps x y → Ahead labels steps y x → ⊥)
    → ((board : PlainBoard) → IsCircle labels steps board → AreChainsDominated board count)
    → SomeCarries labels (suc count)
circle_carries labels count steps some few one_way dominated =
    let found = circle_board labels 0 steps one_way in
    let same = found.1.labels_are in (
      found.0,
      same,
      found.3,
      circle_exactly labels count steps some few dominated found.0 found.3.one_way found.1,
    )

pub product_carries : (labels more count others : ℕ) → 0 < labels → 0 < more → SomeCarries labels (suc count)
    → SomeCarries more (suc others) → SomeCarries (labels * more) (suc (count + others))
product_carries labels more count others some some_more outer inner =
    let found = product_exists outer.0 inner.0 0 [] (subst (λ n. 0 < n) (sym inner.1) some_more) outer.2.one_way
    inner.2.one_way in (
      found.0,
      found.1.labels ∙ (ap (λ (n : ℕ). n * inner.0.labels) outer.1 ∙ ap (λ (n : ℕ). labels * n) inner.1),
      found.2,
      product_carries_exactly outer.0 inner.0 found.0 (suc count) (suc others) (suc (count + others)) outer.2.one_way
          found.1 (subst (λ n. 0 < n) (sym outer.1) some) (omega arith) outer.3 inner.3,
    )

cycle_chains : (board : PlainBoard) → IsCircle 3 (1 ∷ []) board → AreChainsDominated board 1
cycle_chains board circle =
    chains_of_dominated board 1 (omega (arith, circle.labels_are)) (cycle_dominated board circle)

pub residues_chains : (board : PlainBoard) → IsCircle 7 (1 ∷ 2 ∷ 4 ∷ []) board → AreChainsDominated board 2
residues_chains board circle =
    chains_of_dominated board 2 (omega (arith, circle.labels_are)) (residues_dominated board circle)

pub nineteen_chains : (board : PlainBoard) → IsCircle 19 (1 ∷ 4 ∷ 5 ∷ 6 ∷ 7 ∷ 9 ∷ 11 ∷ 16 ∷ 17 ∷ []) board
    → AreChainsDominated board 3
nineteen_chains board circle =
    chains_of_dominated board 3 (omega (arith, circle.labels_are)) (nineteen_dominated board circle)

pub two_carried : SomeCarries 3 2
two_carried = circle_carries 3 1 (1 ∷ []) (omega arith) (omega arith) cycle_one_way cycle_chains

pub three_carried : SomeCarries 7 3
three_carried = circle_carries 7 2 (1 ∷ 2 ∷ 4 ∷ []) (omega arith) (omega arith) residues_one_way residues_chains

-- ---- which domains they are

pub cycle_exactly : (board : PlainBoard) → IsAntisymmetric board → IsCircle 3 (1 ∷ []) board → CarriesExactly board 2
cycle_exactly = circle_exactly 3 1 (1 ∷ []) (omega arith) (omega arith) cycle_chains

pub residues_exactly : (board : PlainBoard) → IsAntisymmetric board → AreResidues board
    → CarriesExactly board board.pebbles
residues_exactly board one_way (inl (circle, three)) =
    subst (CarriesExactly board) (sym three)
    (circle_exactly 7 2 (1 ∷ 2 ∷ 4 ∷ []) (omega arith) (omega arith) residues_chains board one_way circle)
residues_exactly board one_way (inr (inl (circle, four))) =
    subst (CarriesExactly board) (sym four)
    (circle_exactly 19 3 (1 ∷ 4 ∷ 5 ∷ 6 ∷ 7 ∷ 9 ∷ 11 ∷ 16 ∷ 17 ∷ []) (omega arith) (omega arith) nineteen_chains
    board one_way circle)
residues_exactly board one_way (inr (inr (circle, five))) =
    subst (CarriesExactly board) (sym five)
    (circle_exactly 47 4
    (1 ∷ 2 ∷ 3 ∷ 4 ∷ 6 ∷ 7 ∷ 8 ∷ 9 ∷ 12 ∷ 14 ∷ 16 ∷ 17 ∷ 18 ∷ 21 ∷ 24 ∷ 25 ∷ 27 ∷ 28 ∷ 32 ∷ 34 ∷ 36 ∷ 37 ∷ 42 ∷ [])
    (omega arith) (omega arith) forty_seven_dominated board one_way circle)

some_residues : (board : PlainBoard) → AreResidues board → 0 < board.labels
some_residues board (inl (circle, three)) = omega (arith, circle.labels_are)
some_residues board (inr (inl (circle, four))) = omega (arith, circle.labels_are)
some_residues board (inr (inr (circle, five))) = omega (arith, circle.labels_are)

abbrev IsFactor : PlainBoard → Type 0
IsFactor factor = IsAntisymmetric factor × AreResidues factor

abbrev FitsExactly : PlainBoard → Type 0
FitsExactly factor = IsAntisymmetric factor × (0 < factor.labels) × CarriesExactly factor factor.pebbles

all_fit : (factors : List PlainBoard) → All IsFactor factors → All FitsExactly factors
all_fit [] all = All-nil FitsExactly
all_fit (factor ∷ factors) all =
    let here = All-head IsFactor factor factors all in
    All-cons FitsExactly factor factors
    (here.0, some_residues factor here.1, residues_exactly factor here.0 here.1)
    (all_fit factors (All-tail IsFactor factor factors all))

pub products_exactly : (factors : List PlainBoard) (board : PlainBoard)
    → All (λ factor. IsAntisymmetric factor × AreResidues factor) factors → IsProductOf factors board
    → CarriesExactly board board.pebbles
products_exactly factors board all product = several_carry_exactly factors board product (all_fit factors all)
