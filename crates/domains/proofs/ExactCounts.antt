-- Products and nested boards carry exactly as many pebbles for ever as their factors together, less one.
use Rattle.std.proofs.Common.{◌≡◌, ◌↔◌, ℕ, zero, suc, ◌+◌, ◌*◌, ◌/◌, ◌^◌, ◌<◌, ◌≤◌, List, [], ◌∷◌, length, replicate}
use Rattle.std.proofs.Common.{get_or, refl, sym, ◌∙◌, ap, subst, arith, inl, inr, div-lt_iff_lt-mul}
use Rattle.std.specs.Prelude.{All}
use Rattle.std.proofs.lemmas.List.{get_or-set_same, length-replicate}
use Rattle.std.proofs.lemmas.List.Elements.{All-cons, All-head, All-nil, All-tail}
use Rattle.board_text.specs.PlainBoard.{PlainBoard, Dominates, IsAntisymmetric}
use Rattle.positions.specs.Game.{moved}
use Rattle.nested_cycles.specs.Words.{word_of}
use Rattle.player.specs.NestedPlay.{IsNestedPlay}
use Rattle.domains.specs.Carried.{with_pebbles, Carries, CarriesExactly}
use Rattle.chains.specs.Chains.{AreChainsDominated}
use Rattle.domains.specs.Circles.{IsCircle}
use Rattle.domains.specs.Dominated.{AreDominated}
use Rattle.domains.specs.Products.{IsProduct, IsProductOf}
use Rattle.domains.proofs.Circles.{cycle_dominated, residues_dominated}
use Rattle.domains.proofs.DominatedChains.{chains_of_dominated, dominated_chains_last}
use Rattle.domains.proofs.FewestLabels.{circle_board, cycle_one_way, residues_one_way}
use Rattle.domains.proofs.LastingProducts.{factors_last}
use Rattle.domains.proofs.NeededLabels.{labels_needed}
use Rattle.domains.proofs.NestedChains.{nested_carries}
use Rattle.domains.proofs.NestedProducts.{exists, nested_is_product}
use Rattle.domains.proofs.ProductExamples.{forty_nine}
use Rattle.domains.proofs.ProductLimits.{one_lasts, outer_lasts_too}
use Rattle.domains.proofs.SharedLabels.{lasting_start}

-- a product is one with any numbers of pebbles
any_pebbles : (outer inner board : PlainBoard) (outer_count inner_count count : ℕ) → IsProduct outer inner board
    → IsProduct (with_pebbles outer outer_count) (with_pebbles inner inner_count) (with_pebbles board count)
any_pebbles outer inner board outer_count inner_count count product =
    record { labels = product.labels; some = product.some; beats = product.beats }

-- a domain with labels carries one pebble
some_carried : (board : PlainBoard) (count : ℕ) → 0 < board.labels → (Carries board (suc count) → ⊥) → 0 < count
some_carried board zero some no_more =
    let start : List ℕ = replicate 1 0 in
    let long : length start ≡ 1 = length-replicate {A = ℕ} 1 0 in
    absurd (no_more (start, long, one_lasts (with_pebbles board 1) some (omega arith) start long))
some_carried board (suc count) some no_more = omega arith

-- one more than both together, less one, is more than the product carries
product_no_more : (outer inner board : PlainBoard) (outer_count inner_count count : ℕ) → IsAntisymmetric outer
    → IsProduct outer inner board → suc count ≡ outer_count + inner_count
    → (Carries outer (suc outer_count) → ⊥) → (Carries inner (suc inner_count) → ⊥)
    → Carries board (suc count) → ⊥
product_no_more outer inner board outer_count inner_count count one_way product sum outer_ends inner_ends carried =
    outer_ends
    (outer_lasts_too (with_pebbles outer (suc outer_count)) (with_pebbles inner (suc inner_count))
    (with_pebbles board (suc count)) carried.0 one_way
    (any_pebbles outer inner board (suc outer_count) (suc inner_count) (suc count) product) (omega (arith, sum))
    carried.1 carried.2 (λ start long lasts. inner_ends (start, long, lasts)))

pub product_carries_exactly : (outer inner board : PlainBoard) (outer_count inner_count count : ℕ)
    → IsAntisymmetric outer → IsProduct outer inner board → 0 < outer.labels
    → suc count ≡ outer_count + inner_count
    → CarriesExactly outer outer_count → CarriesExactly inner inner_count → CarriesExactly board count
product_carries_exactly outer inner board outer_count inner_count count one_way product some sum of_outer of_inner =
    let outer_some = some_carried outer outer_count some of_outer.no_more in
    let inner_some = some_carried inner inner_count product.some of_inner.no_more in
    let first = (lasting_start (with_pebbles outer outer_count) outer_some).0 of_outer.carries in
    let second = (lasting_start (with_pebbles inner inner_count) inner_some).0 of_inner.carries in
    record {
      carries = (
        replicate count (first.0 * inner.labels + second.0),
        length-replicate {A = ℕ} count (first.0 * inner.labels + second.0),
        λ depth.
            factors_last (with_pebbles outer outer_count) (with_pebbles inner inner_count) (with_pebbles board count)
            depth first.0 second.0 (any_pebbles outer inner board outer_count inner_count count product) sum
            first.1 second.1 (first.2 depth) (second.2 depth),
      );
      no_more = product_no_more outer inner board outer_count inner_count count one_way product sum of_outer.no_more
          of_inner.no_more;
    }

-- ---- products of several domains

-- two pebbles need more than one label that doesn't beat itself
lone_no_more : (board : PlainBoard) → board.labels ≡ 1 → ((x : ℕ) → x < board.labels → Dominates board x x → ⊥)
    → Carries board 2 → ⊥
lone_no_more board one no_loop carried =
    let first = carried.2 2 0 (omega arith) in
    let second = first.2 1 (omega arith) in
    let place = get_or (moved carried.0 0 first.0) 0 0 in
    let here : place ≡ first.0 = get_or-set_same carried.0 0 first.0 0 (omega (arith, carried.1)) in
    let low : place < board.labels = subst (λ n. n < board.labels) (sym here) first.1.is_label in
    let same : second.0 ≡ place = omega (arith, second.1.is_label, low, one) in
    no_loop place low
    (subst (λ n. Dominates board n place) same
    (second.1.dominates 0 (omega arith) (λ zero_is. omega (arith, zero_is)) low))

abbrev FitsExactly : PlainBoard → Type 0
FitsExactly factor = IsAntisymmetric factor × (0 < factor.labels) × CarriesExactly factor factor.pebbles

pub several_carry_exactly : (factors : List PlainBoard) (board : PlainBoard) → IsProductOf factors board
    → All (λ factor. IsAntisymmetric factor × (0 < factor.labels) × CarriesExactly factor factor.pebbles) factors
    → CarriesExactly board board.pebbles
several_carry_exactly [] board product all =
    let start : List ℕ = replicate board.pebbles 0 in
    let long : length start ≡ board.pebbles = length-replicate {A = ℕ} board.pebbles 0 in
    record {
      carries = (
        start,
        long,
        one_lasts (with_pebbles board board.pebbles) (omega (arith, product.0)) (omega (arith, product.1)) start long,
      );
      no_more = λ carried. lone_no_more board product.0
          (λ x low beats.
          let zero_is : x ≡ 0 = omega (arith, low, product.0) in
          product.2 (subst (λ n. Dominates board n n) zero_is beats))
          (subst (λ n. Carries board (suc n)) product.1 carried);
    }
several_carry_exactly (factor ∷ factors) board product all =
    let here = All-head FitsExactly factor factors all in
    product_carries_exactly factor product.0 board factor.pebbles product.0.pebbles board.pebbles here.0 product.2
    here.1 product.3 here.2
    (several_carry_exactly factors product.0 product.1 (All-tail FitsExactly factor factors all))

-- ---- domains with few labels

-- if each list of this many labels is dominated, and the labels are too few for two pebbles more, one more is carried
pub chains_exactly : (board : PlainBoard) (count : ℕ) → 0 < board.labels → IsAntisymmetric board
    → AreChainsDominated board count → suc board.labels < 2 ^ suc (suc count) → CarriesExactly board (suc count)
chains_exactly board count some one_way dominated few = record {
  carries = (
    replicate (suc count) 0,
    length-replicate {A = ℕ} (suc count) 0,
    dominated_chains_last (with_pebbles board (suc count)) count refl (λ chain short chained. dominated chain short
        (record { are_labels = chained.are_labels; beat = chained.beat })) 0,
  );
  no_more = λ carried.
      let needed : 2 ^ suc (suc count) ≤ suc board.labels
      = labels_needed (with_pebbles board (suc (suc count))) carried.0 one_way carried.1 carried.2 in
      omega (arith, needed, few);
}

pub dominated_exactly : (board : PlainBoard) (count : ℕ) → 0 < board.labels → IsAntisymmetric board
    → AreDominated board count → suc board.labels < 2 ^ suc (suc count) → CarriesExactly board (suc count)
dominated_exactly board count some one_way dominated few =
    chains_exactly board count some one_way (chains_of_dominated board count some dominated) few

-- ---- the residues modulo seven and themselves

-- another outer domain with the same labels has the same product
same_outer : (outer other inner board : PlainBoard) → outer.labels ≡ other.labels
    → ((x y : ℕ) → x < outer.labels → y < outer.labels → Dominates outer x y ↔ Dominates other x y)
    → IsProduct outer inner board → IsProduct other inner board
same_outer outer other inner board same agree product =
    let copy_low : (label : ℕ) → label < board.labels → label / inner.labels < outer.labels
    = λ label low. (div-lt_iff_lt-mul product.some).1 (subst (λ n. label < n) product.labels low) in
    record {
      labels = product.labels ∙ ap (λ (n : ℕ). n * inner.labels) same;
      some = product.some;
      beats = λ x y x_low y_low.
          let copies = agree (x / inner.labels) (y / inner.labels) (copy_low x x_low) (copy_low y y_low) in (
            λ beats. elim ((product.beats x y x_low y_low).0 beats) [
              | inl over ↦ inl (copies.0 over)
              | inr part ↦ inr part
            ],
            λ wins. (product.beats x y x_low y_low).1 (elim wins [
              | inl over ↦ inl (copies.1 over)
              | inr part ↦ inr part
            ]),
          );
    }

-- of two labels one beats the other on both circles or on neither
one_circle : (labels : ℕ) (steps : List ℕ) (board other : PlainBoard) → IsCircle labels steps board
    → IsCircle labels steps other
    → (x y : ℕ) → x < board.labels → y < board.labels → Dominates board x y ↔ Dominates other x y
one_circle labels steps board other circle other_circle x y x_low y_low =
    let x_label : x < labels = omega (arith, x_low, circle.labels_are) in
    let y_label : y < labels = omega (arith, y_low, circle.labels_are) in (
      λ beats. (other_circle.beats x y x_label y_label).1 ((circle.beats x y x_label y_label).0 beats),
      λ beats. (circle.beats x y x_label y_label).1 ((other_circle.beats x y x_label y_label).0 beats),
    )

pub forty_nine_exactly : (residues board : PlainBoard) → IsCircle 7 (1 ∷ 2 ∷ 4 ∷ []) residues
    → residues.pebbles ≡ 3 → IsProductOf (residues ∷ residues ∷ []) board → CarriesExactly board 5
forty_nine_exactly residues board are_residues three product =
    let found = circle_board 7 3 (1 ∷ 2 ∷ 4 ∷ []) residues_one_way in
    let same : residues.labels ≡ found.0.labels = omega (arith, are_residues.labels_are, found.1.labels_are) in
    let agree = one_circle 7 (1 ∷ 2 ∷ 4 ∷ []) residues found.0 are_residues found.1 in
    let some : 0 < found.0.labels = omega (arith, found.1.labels_are) in
    let fits : FitsExactly found.0 = (
      found.3.one_way,
      some,
      subst (CarriesExactly found.0) (sym found.2)
          (dominated_exactly found.0 2 some found.3.one_way (residues_dominated found.0 found.1)
          (omega (arith, found.1.labels_are))),
    ) in
    let five : board.pebbles ≡ 5 = (forty_nine residues are_residues three board product).1 in
    subst (CarriesExactly board) five
    (several_carry_exactly (found.0 ∷ found.0 ∷ []) board (
      product.0,
      (
        product.1.0,
        product.1.1,
        same_outer residues found.0 product.1.0 product.0 same agree product.1.2,
        omega (arith, product.1.3, three, found.2),
      ),
      same_outer residues found.0 product.0 board same agree product.2,
      omega (arith, product.3, three, found.2),
    ) (All-cons FitsExactly found.0 (found.0 ∷ []) fits
    (All-cons FitsExactly found.0 [] fits (All-nil FitsExactly))))

-- ---- the nested boards

-- the one label of the first level doesn't beat itself
lone_beats_none : (board : PlainBoard) → IsNestedPlay 1 board → (x : ℕ) → x < board.labels → Dominates board x x → ⊥
unfolding word_of
lone_beats_none board nested x low beats =
    let says = (nested.beats x x (low, low)).0 beats in
    omega (arith, says.inside)

nested_no_more : (count : ℕ) (board : PlainBoard) → IsNestedPlay (suc count) board → Carries board (suc (suc count)) → ⊥
nested_no_more zero board nested = lone_no_more board nested.labels (lone_beats_none board nested)
nested_no_more (suc count) board nested =
    let cycle = circle_board 3 2 (1 ∷ []) cycle_one_way in
    let inner = exists count in
    product_no_more cycle.0 inner.board board 2 (suc count) (suc (suc count)) cycle.3.one_way
    (nested_is_product count cycle.0 inner.board board cycle.1 inner.nested nested) (omega arith)
    (dominated_exactly cycle.0 1 (omega (arith, cycle.1.labels_are)) cycle.3.one_way (cycle_dominated cycle.0 cycle.1)
    (omega (arith, cycle.1.labels_are))).no_more (nested_no_more count inner.board inner.nested)

pub nested_carries_exactly : (count : ℕ) (board : PlainBoard) → IsNestedPlay (suc count) board
    → CarriesExactly board (suc count)
nested_carries_exactly count board nested = record {
  carries = (
    replicate (suc count) 0,
    length-replicate {A = ℕ} (suc count) 0,
    nested_carries count (with_pebbles board (suc count))
        (record { labels = nested.labels; pebbles = omega arith; beats = nested.beats }) refl,
  );
  no_more = nested_no_more count board nested;
}
