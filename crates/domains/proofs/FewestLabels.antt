-- The three-cycle and the residues modulo seven have as few labels as their processes need.
use Rattle.std.proofs.Common.{◌≡◌, ℕ, suc, ◌+◌, ◌-◌, ◌%◌, ◌<◌, ◌⊎◌, List, [], ◌∷◌}
use Rattle.std.proofs.Common.{replicate, refl, sym, arith, inl, inr}
use Rattle.std.specs.Prelude.{Contains}
use Rattle.std.proofs.lemmas.List.{length-replicate}
use Rattle.std.proofs.lemmas.List.Elements.{All-replicate}
use Rattle.board_text.specs.PlainBoard.{PlainBoard, ArePairs}
use Rattle.nested_cycles.proofs.Cited.{contains_cases, contains_none}
use Rattle.positions.specs.Value.{HasValue}
use Rattle.positions.specs.declared.value.Value.TheVariants.{Forever}
use Rattle.domains.specs.Circles.{IsCircle}
use Rattle.domains.specs.Dominated.{AreDominated}
use Rattle.domains.proofs.Circles.{contains_or_not, cycle_dominated, residues_dominated}
use Rattle.domains.proofs.DominatedLists.{dominated_last}
use Rattle.domains.proofs.ProductData.{rule_board}

abbrev pub Ahead : ℕ → List ℕ → ℕ → ℕ → Type 0
Ahead labels steps x y = Contains steps ((x + labels - y) % labels)

-- a board that carries its processes for ever from all on the label 0
pub record LastsOnZero (labels pebbles : ℕ) (board : PlainBoard) : Type 0 where
  pub labels_are : board.labels ≡ labels
  pub pebbles_are : board.pebbles ≡ pebbles
  pub are_pairs : ArePairs board.labels board.pairs
  pub lasts : HasValue board (replicate board.pebbles 0) Forever

-- a circle as a board, if no two labels are ahead of each other
pub circle_board : (labels pebbles : ℕ) (steps : List ℕ)
    → ((x y : ℕ) → Ahead labels steps x y → Ahead labels steps y x → ⊥)
    → (board : PlainBoard) × IsCircle labels steps board × (board.pebbles ≡ pebbles)
    × ArePairs board.labels board.pairs
circle_board labels pebbles steps one_way =
    let found = rule_board labels (Ahead labels steps) pebbles []
    (λ x y both. contains_or_not steps ((x + labels - y) % labels)) in (
      found.0,
      record { labels_are = found.1.labels_are; beats = found.1.beats },
      found.1.pebbles_are,
      found.1.pairs one_way,
    )

circle_carries : (labels count : ℕ) (steps : List ℕ) → 0 < labels
    → ((x y : ℕ) → Ahead labels steps x y → Ahead labels steps y x → ⊥)
    → ((board : PlainBoard) → IsCircle labels steps board → AreDominated board count)
    → (board : PlainBoard) × LastsOnZero labels (suc count) board
circle_carries labels count steps some one_way dominated =
    let found = circle_board labels (suc count) steps one_way in (
      found.0,
      record {
        labels_are = found.1.labels_are;
        pebbles_are = found.2;
        are_pairs = found.3;
        lasts = λ depth.
            dominated_last found.0 count depth (replicate found.0.pebbles 0) found.2 (dominated found.0 found.1) (
              length-replicate {A = ℕ} found.0.pebbles 0,
              All-replicate (λ place. place < found.0.labels) found.0.pebbles 0
                  (omega (arith, some, found.1.labels_are)),
            );
      },
    )

-- ---- the three-cycle

one_of : (n : ℕ) → Contains (1 ∷ []) n → n ≡ 1
one_of n has =
    elim (contains_cases 1 [] n has) [
      | inl same ↦ sym same
      | inr later ↦ absurd (contains_none n later)
    ]

pub cycle_one_way : (x y : ℕ) → Ahead 3 (1 ∷ []) x y → Ahead 3 (1 ∷ []) y x → ⊥
cycle_one_way x y there back =
    let first : (x + 3 - y) % 3 ≡ 1 = one_of ((x + 3 - y) % 3) there in
    let second : (y + 3 - x) % 3 ≡ 1 = one_of ((y + 3 - x) % 3) back in
    omega (arith, first, second)

pub three_for_two : (board : PlainBoard) × LastsOnZero 3 2 board
three_for_two = circle_carries 3 1 (1 ∷ []) (omega arith) cycle_one_way cycle_dominated

-- ---- the residues modulo seven

square_of : (n : ℕ) → Contains (1 ∷ 2 ∷ 4 ∷ []) n → (n ≡ 1) ⊎ ((n ≡ 2) ⊎ (n ≡ 4))
square_of n has =
    elim (contains_cases 1 (2 ∷ 4 ∷ []) n has) [
      | inl same ↦ inl (sym same)
      | inr more ↦ elim (contains_cases 2 (4 ∷ []) n more) [
        | inl same ↦ inr (inl (sym same))
        | inr last ↦ elim (contains_cases 4 [] n last) [
          | inl same ↦ inr (inr (sym same))
          | inr none ↦ absurd (contains_none n none)
        ]
      ]
    ]

some_ahead : (n : ℕ) → (n ≡ 1) ⊎ ((n ≡ 2) ⊎ (n ≡ 4)) → 0 < n
some_ahead n (inl is) = omega (arith, is)
some_ahead n (inr (inl is)) = omega (arith, is)
some_ahead n (inr (inr is)) = omega (arith, is)

-- steps there and back go once round
round : (x y there back : ℕ) → (x + 7 - y) % 7 ≡ there → (y + 7 - x) % 7 ≡ back → 0 < there → 0 < back
    → there + back ≡ 7
round x y there back is back_is some back_some = omega (arith, is, back_is, some, back_some)

not_round : (there back : ℕ) → (there ≡ 1) ⊎ ((there ≡ 2) ⊎ (there ≡ 4)) → (back ≡ 1) ⊎ ((back ≡ 2) ⊎ (back ≡ 4))
    → there + back ≡ 7 → ⊥
not_round there back (inl is) (inl back_is) sum = omega (arith, is, back_is, sum)
not_round there back (inl is) (inr (inl back_is)) sum = omega (arith, is, back_is, sum)
not_round there back (inl is) (inr (inr back_is)) sum = omega (arith, is, back_is, sum)
not_round there back (inr (inl is)) (inl back_is) sum = omega (arith, is, back_is, sum)
not_round there back (inr (inl is)) (inr (inl back_is)) sum = omega (arith, is, back_is, sum)
not_round there back (inr (inl is)) (inr (inr back_is)) sum = omega (arith, is, back_is, sum)
not_round there back (inr (inr is)) (inl back_is) sum = omega (arith, is, back_is, sum)
not_round there back (inr (inr is)) (inr (inl back_is)) sum = omega (arith, is, back_is, sum)
not_round there back (inr (inr is)) (inr (inr back_is)) sum = omega (arith, is, back_is, sum)

pub residues_one_way : (x y : ℕ) → Ahead 7 (1 ∷ 2 ∷ 4 ∷ []) x y → Ahead 7 (1 ∷ 2 ∷ 4 ∷ []) y x → ⊥
residues_one_way x y there back =
    let first = square_of ((x + 7 - y) % 7) there in
    let second = square_of ((y + 7 - x) % 7) back in
    not_round ((x + 7 - y) % 7) ((y + 7 - x) % 7) first second
    (round x y ((x + 7 - y) % 7) ((y + 7 - x) % 7) refl refl (some_ahead ((x + 7 - y) % 7) first)
    (some_ahead ((y + 7 - x) % 7) second))

pub seven_for_three : (board : PlainBoard) × LastsOnZero 7 3 board
seven_for_three = circle_carries 7 2 (1 ∷ 2 ∷ 4 ∷ []) (omega arith) residues_one_way residues_dominated
