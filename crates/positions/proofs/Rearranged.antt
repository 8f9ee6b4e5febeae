-- Configurations with the same places in another order: pebbles are alike, so the values are the same.
use Rattle.std.proofs.Common.{◌≡◌, ◌≢◌, ℕ, zero, suc, ◌+◌, ◌-◌, ◌%◌, ◌<◌, ◌≤◌, ◌⊎◌, cond, nat_eq, inl, inr}
use Rattle.std.proofs.Common.{List, length, get_or, set, sym, ap, ◌∙◌, subst, arith}
use Rattle.std.specs.List.{insert}
use Rattle.std.proofs.lemmas.Bool.{cases_eq, cases_lt, eq-eqb, ne_eqb}
use Rattle.std.proofs.lemmas.List.{get_or-set_same, get_or-set_other, length-set}
use Rattle.std.proofs.lemmas.List.Edits.{length-insert, get_or-insert_at, get_or-insert_below, get_or-insert_above}
use Rattle.board_text.specs.PlainBoard.{PlainBoard, DominatesPlace, places}
use Rattle.positions.specs.declared.value.Value.{Value}
use Rattle.positions.specs.declared.value.Value.TheVariants.{Finite, Forever}
use Rattle.positions.specs.Game.{Legal, LabellerTree, AdversaryTree, moved}
use Rattle.positions.specs.Value.{HasValue}
use Rattle.positions.specs.Ranks.{digits_of}
use Rattle.positions.specs.Gaps.{gaps, gaps_each, pebble_of, others_of, member_of, AnswersGap, IsAnswer}
use Rattle.positions.specs.Tuples.{tuple_of}
use Rattle.positions.proofs.Digits.{length-digits_of}
use Rattle.positions.proofs.GapLaws.{pebble_below}

-- each pebble of the second configuration has the place that `to` of it has at the first, and
-- `from` is the inverse of `to`
pub record AreRearranged (board : PlainBoard) (to from : ℕ → ℕ) (first second : List ℕ) : Type 0 where
  pub first_size : length first ≡ board.pebbles
  pub second_size : length second ≡ board.pebbles
  pub to_in : (pebble : ℕ) → pebble < board.pebbles → to pebble < board.pebbles
  pub from_in : (pebble : ℕ) → pebble < board.pebbles → from pebble < board.pebbles
  pub from_to : (pebble : ℕ) → pebble < board.pebbles → from (to pebble) ≡ pebble
  pub to_from : (pebble : ℕ) → pebble < board.pebbles → to (from pebble) ≡ pebble
  pub places_are : (pebble : ℕ) → pebble < board.pebbles → get_or second pebble 0 ≡ get_or first (to pebble) 0

module _ (board : PlainBoard) (to from : ℕ → ℕ) where
  abbrev Are : List ℕ → List ℕ → Type 0
  Are first second = AreRearranged board to from first second

  module _ (first second : List ℕ) (are : Are first second) (pebble label : ℕ) (inside : pebble < board.pebbles) where
    to_other : (other : ℕ) → other < board.pebbles → other ≢ pebble → to other ≢ to pebble
    to_other other low differs same = differs (sym (are.from_to other low) ∙ ap from same ∙ are.from_to pebble inside)

    -- a label is legal for a pebble exactly if it is legal for the pebble that has its place at the first
    legal_there : Legal board first (to pebble) label → Legal board second pebble label
    legal_there legal = record {
      is_label = legal.is_label;
      dominates = λ other low differs.
          subst (DominatesPlace board label) (sym (are.places_are other low))
          (legal.dominates (to other) (are.to_in other low) (to_other other low differs));
    }

    legal_here : Legal board second pebble label → Legal board first (to pebble) label
    legal_here legal = record {
      is_label = legal.is_label;
      dominates = λ other low differs.
          let back : from other < board.pebbles = are.from_in other low in
          subst (λ p. DominatesPlace board label (get_or first p 0)) (are.to_from other low)
          (subst (DominatesPlace board label) (are.places_are (from other) back)
          (legal.dominates (from other) back (λ same. differs (sym (are.to_from other low) ∙ ap to same))));
    }

    there_inside : to pebble < length first
    there_inside = let size = are.first_size in let low = are.to_in pebble inside in omega arith

    moved_both : Are (moved first (to pebble) label) (moved second pebble label)
    moved_both = record {
      first_size = length-set first (to pebble) label ∙ are.first_size;
      second_size = length-set second pebble label ∙ are.second_size;
      to_in = are.to_in;
      from_in = are.from_in;
      from_to = are.from_to;
      to_from = are.to_from;
      places_are = λ other low. elim (cases_eq other pebble) [
        | inl same ↦
            ap (λ p. get_or (set second pebble label) p 0) same
            ∙ get_or-set_same second pebble label 0 (let size = are.second_size in omega arith)
            ∙ sym (get_or-set_same first (to pebble) label 0 there_inside)
            ∙ ap (λ p. get_or (set first (to pebble) label) (to p) 0) (sym same)
        | inr differs ↦
            get_or-set_other second pebble other label 0 differs
            ∙ are.places_are other low
            ∙ sym (get_or-set_other first (to pebble) (to other) label 0 (to_other other low differs))
      ];
    }

  labeller_too : (depth : ℕ) (first second : List ℕ) → Are first second
      → LabellerTree board depth first → LabellerTree board depth second
  labeller_too zero first second are tree = tt
  labeller_too (suc depth) first second are tree = λ pebble inside.
      let answer = tree (to pebble) (are.to_in pebble inside) in (
        answer.0,
        legal_there first second are pebble answer.0 inside answer.1,
        labeller_too depth (moved first (to pebble) answer.0) (moved second pebble answer.0)
            (moved_both first second are pebble answer.0 inside) answer.2,
      )

  adversary_too : (depth : ℕ) (first second : List ℕ) → Are first second
      → AdversaryTree board depth first → AdversaryTree board depth second
  adversary_too zero first second are tree = absurd tree
  adversary_too (suc depth) first second are tree =
      let request = tree.0 in
      let pebble = from request in
      let inside : pebble < board.pebbles = are.from_in request tree.1 in
      let same : to pebble ≡ request = are.to_from request tree.1 in (
        pebble,
        inside,
        λ label legal.
            let both = moved_both first second are pebble label inside in
            let there = legal_here first second are pebble label inside legal in
            adversary_too depth (moved first request label) (moved second pebble label)
            (subst (λ p. Are (moved first p label) (moved second pebble label)) same both)
            (tree.2 label (subst (λ p. Legal board first p label) same there)),
      )

  value_too : (first second : List ℕ) → Are first second → (value : Value)
      → HasValue board first value → HasValue board second value
  value_too first second are (Finite depth) has =
      (labeller_too depth first second are has.0, adversary_too (suc depth) first second are has.1)
  value_too first second are Forever has = λ depth. labeller_too depth first second are (has depth)

-- ---- one more place, inserted among others at two places

-- the place of the k-th of the others, if one more is inserted at p
abbrev place_beside : ℕ → ℕ → ℕ
place_beside p k = k + (1 - (p - k))

-- the number of the other at the place i, if one more is inserted at p
abbrev index_beside : ℕ → ℕ → ℕ
index_beside p i = i - (1 - (p - i))

-- the place of the one at i, if the inserted one moves from q to p
abbrev shifted : ℕ → ℕ → ℕ → ℕ
shifted p q i = cond (nat_eq i q) p (place_beside p (index_beside q i))

shifted_is : (p q i : ℕ)
    → ((i ≡ q) × (shifted p q i ≡ p)) ⊎ ((i ≢ q) × (shifted p q i ≡ place_beside p (index_beside q i)))
shifted_is p q i =
    let beside : ℕ = place_beside p (index_beside q i) in
    elim (cases_eq i q) [
      | inl same ↦ inl (same, ap (λ t. cond {A = ℕ} t p beside) (eq-eqb i q same))
      | inr differs ↦ inr (differs, ap (λ t. cond {A = ℕ} t p beside) (ne_eqb i q differs))
    ]

beside_and_back : (p q i : ℕ) → i ≢ q → place_beside q (index_beside p (place_beside p (index_beside q i))) ≡ i
beside_and_back p q i differs = omega (arith, differs)

shifted_back : (p q i : ℕ) → shifted q p (shifted p q i) ≡ i
shifted_back p q i = elim (shifted_is p q i) [
  | inl at ↦ elim (shifted_is q p (shifted p q i)) [
    | inl back ↦ omega (arith, at, back)
    | inr other ↦ absurd (other.0 at.1)
  ]
  | inr at ↦ elim (shifted_is q p (shifted p q i)) [
    | inl back ↦ absurd (let is : place_beside p (index_beside q i) ≡ p = sym at.1 ∙ back.0 in omega (arith, is))
    | inr back ↦ back.1 ∙ ap (λ n. place_beside q (index_beside p n)) at.1 ∙ beside_and_back p q i at.0
  ]
]

shifted_in : (n p q i : ℕ) → p < n → q < n → i < n → shifted p q i < n
shifted_in n p q i first second low = elim (shifted_is p q i) [
  | inl at ↦ omega (arith, at.1)
  | inr at ↦
      let differs : i ≢ q = at.0 in
      let is : shifted p q i ≡ place_beside p (index_beside q i) = at.1 in
      omega (arith, is, differs)
]

other_place : (others : List ℕ) (p x k : ℕ) → p ≤ length others
    → get_or (insert others p x) (place_beside p k) 0 ≡ get_or others k 0
other_place others p x k inside = elim (cases_lt k p) [
  | inl before ↦
      let same : place_beside p k ≡ k = omega arith in
      ap (λ n. get_or (insert others p x) n 0) same ∙ get_or-insert_below others p x 0 k before inside
  | inr late ↦
      let next : place_beside p k ≡ k + 1 = omega arith in
      ap (λ n. get_or (insert others p x) n 0) next ∙ get_or-insert_above others p x 0 k late inside
]

inserted_rearranged : (board : PlainBoard) (others : List ℕ) (p q x : ℕ) → length others + 1 ≡ board.pebbles
    → p < board.pebbles → q < board.pebbles
    → AreRearranged board (shifted p q) (shifted q p) (insert others p x) (insert others q x)
inserted_rearranged board others p q x size first second = record {
  first_size = length-insert others p x (omega arith) ∙ size;
  second_size = length-insert others q x (omega arith) ∙ size;
  to_in = λ i low. shifted_in board.pebbles p q i first second low;
  from_in = λ i low. shifted_in board.pebbles q p i second first low;
  from_to = λ i low. shifted_back p q i;
  to_from = λ i low. shifted_back q p i;
  places_are = λ i low. elim (shifted_is p q i) [
    | inl at ↦
        ap (λ n. get_or (insert others q x) n 0) at.0
        ∙ get_or-insert_at others q x 0 (omega arith)
        ∙ sym (get_or-insert_at others p x 0 (omega arith))
        ∙ ap (λ n. get_or (insert others p x) n 0) (sym at.1)
    | inr at ↦
        let differs : i ≢ q = at.0 in
        let here : i ≡ place_beside q (index_beside q i) = omega (arith, differs) in
        ap (λ n. get_or (insert others q x) n 0) here
        ∙ other_place others q x (index_beside q i) (omega arith)
        ∙ sym (other_place others p x (index_beside q i) (omega arith))
        ∙ ap (λ n. get_or (insert others p x) n 0) (sym at.1)
  ];
}

-- ---- gaps of one tuple

module _ (board : PlainBoard) (first second : ℕ) (first_in : first < gaps board) (second_in : second < gaps board)
    (same : tuple_of board first ≡ tuple_of board second) where
  others_size : length (others_of board first) + 1 ≡ board.pebbles
  others_size =
      let long = length-digits_of (places board) (board.pebbles - 1) (first % gaps_each board) in
      omega (arith, long, pebble_below board first first_in)

  others_same : others_of board first ≡ others_of board second
  others_same = ap (digits_of (places board) (board.pebbles - 1)) same

  pub same_values : (place : ℕ) (value : Value)
      → HasValue board (member_of board first place) value → HasValue board (member_of board second place) value
  same_values place value has =
      let others : List ℕ = others_of board first in
      let p : ℕ = pebble_of board first in
      let q : ℕ = pebble_of board second in
      let are = inserted_rearranged board others p q place others_size
      (pebble_below board first first_in) (pebble_below board second second_in) in
      subst (λ l. HasValue board (insert l q place) value) others_same
      (value_too board (shifted p q) (shifted q p) (insert others p place) (insert others q place) are value has)

  pub same_answers : (label : ℕ) → IsAnswer board first label → IsAnswer board second label
  same_answers label answer = subst (λ l. AnswersGap board l label) others_same answer
