-- The value of a configuration is the least of what the best answers there leave.
use Rattle.std.proofs.Common.{◌≡◌, ℕ, zero, suc, ◌+◌, ◌<◌, ◌≤◌, ◌⊎◌, List, Option, None, Some, inl, inr, refl, sym}
use Rattle.std.proofs.Common.{subst, arith}
use Rattle.std.proofs.lemmas.Bool.{cases_lt}
use Rattle.board_text.specs.PlainBoard.{PlainBoard, IsConfiguration}
use Rattle.positions.specs.declared.value.Value.{Value}
use Rattle.positions.specs.declared.value.Value.TheVariants.{Finite, Forever}
use Rattle.positions.specs.declared.space.TheConstants.{MAX_CONFIGURATIONS}
use Rattle.positions.specs.Game.{LabellerTree, AdversaryTree, Legal, moved}
use Rattle.positions.specs.Ranks.{configurations}
use Rattle.positions.specs.Value.{HasValue}
use Rattle.positions.proofs.Cited.{forever_from_count, lasts_at_most, moved_is_configuration, same_value, some_tree}
use Rattle.gap_values.specs.declared.value_table.Best.{Best}
use Rattle.strategies.specs.Best.{IsLess, HasNoGreaterValue, IsBestFor}
use Rattle.strategies.specs.Inside.Answers.{IsLesser}
use Rattle.strategies.specs.Inside.RankMoves.{IsCountable, IsSmallValue, answered_with, one_more}
use Rattle.strategies.proofs.ValueOrder.{IsLess-irrefl, IsLess-trans, at_least}

-- what a best answer to a request of the pebble leaves is not less than the value
abbrev IsLeft : PlainBoard → List ℕ → Value → ℕ → Type 0
IsLeft board held value pebble =
    (best : Option Best) × IsBestFor board held pebble best × ¬ IsLess (answered_with best) value

-- it is the value
abbrev IsLeftBy : PlainBoard → List ℕ → Value → ℕ → Type 0
IsLeftBy board held value pebble =
    (best : Option Best) × IsBestFor board held pebble best × (value ≡ answered_with best)

-- the least that best answers to requests of the pebbles below a bound leave, or forever
pub record IsLeastBelow (board : PlainBoard) (held : List ℕ) (bound : ℕ) (value : Value) : Type 0 where
  pub least : (pebble : ℕ) → pebble < bound → IsLeft board held value pebble
  pub found : (value ≡ Forever) ⊎ ((pebble : ℕ) × (pebble < bound) × IsLeftBy board held value pebble)

module _ (board : PlainBoard) (held : List ℕ) where
  pub least-begins : IsLeastBelow board held 0 Forever
  least-begins = record { least = λ pebble low. absurd (omega arith); found = inl refl }

  -- a smaller one is the least now
  pub least-less : (pebble : ℕ) (value : Value) (best : Option Best) → IsLeastBelow board held pebble value
      → IsBestFor board held pebble best → IsLess (answered_with best) value
      → IsLeastBelow board held (pebble + 1) (answered_with best)
  least-less pebble value best was is less = record {
    least = λ other low. elim (cases_lt other pebble) [
      | inl before ↦
          let known = was.least other before in (
            known.0,
            known.1,
            λ below. known.2 (IsLess-trans (answered_with known.0) (answered_with best) value below
                less),
          )
      | inr last ↦
          let same : pebble ≡ other = omega arith in
          subst (IsLeft board held (answered_with best)) same (best, is, IsLess-irrefl (answered_with best))
    ];
    found = inr (pebble, omega arith, (best, is, refl));
  }

  pub least-kept : (pebble : ℕ) (value : Value) (best : Option Best) → IsLeastBelow board held pebble value
      → IsBestFor board held pebble best → ¬ IsLess (answered_with best) value
      → IsLeastBelow board held (pebble + 1) value
  least-kept pebble value best was is not = record {
    least = λ other low. elim (cases_lt other pebble) [
      | inl before ↦ was.least other before
      | inr last ↦
          let same : pebble ≡ other = omega arith in
          subst (IsLeft board held value) same (best, is, not)
    ];
    found = elim was.found [
      | inl none ↦ inl none
      | inr some ↦ inr (some.0, (let low : some.0 < pebble = some.1 in omega arith), some.2)
    ];
  }

  -- the same of the lesser of the values to which best answers lead
  pub least-lesser : (pebble : ℕ) (least : Value) (best : Best) (lesser : Value)
      → IsLeastBelow board held pebble (one_more least) → IsBestFor board held pebble (Some best)
      → IsLesser least best.value lesser → IsLeastBelow board held (pebble + 1) (one_more lesser)
  least-lesser pebble least best lesser was is which = elim which [
    | inl less ↦ subst (λ v. IsLeastBelow board held (pebble + 1) (one_more v)) (sym less.0)
        (least-less pebble (one_more least) (Some best) was is (more-less best.value least less.1))
    | inr not ↦ subst (λ v. IsLeastBelow board held (pebble + 1) (one_more v)) (sym not.0)
        (least-kept pebble (one_more least) (Some best) was is (λ less. not.1 (less-more best.value least less)))
  ]
    where
      more-less : (one other : Value) → IsLess one other → IsLess (one_more one) (one_more other)
      more-less (Finite one) (Finite other) less = omega (arith, less)
      more-less (Finite one) Forever less = tt
      more-less Forever other less = absurd less

      less-more : (one other : Value) → IsLess (one_more one) (one_more other) → IsLess one other
      less-more (Finite one) (Finite other) less = omega (arith, less)
      less-more (Finite one) Forever less = tt
      less-more Forever (Finite other) less = absurd less
      less-more Forever Forever less = absurd less

  -- a best answer that leaves a value of more than a number leaves a tree of that depth
  answers_left : (value : Value) (depth pebble : ℕ) → IsLeft board held value pebble
      → ¬ IsLess value (Finite (suc depth))
      → (label : ℕ) × Legal board held pebble label × LabellerTree board depth (moved held pebble label)
  answers_left value depth pebble left most = by left.0 left.1 left.2
    where
      enough : (given : Value) → ¬ IsLess given value → IsLess given (Finite (suc depth)) → ⊥
      enough given not less = by_value value most not
        where
          to_number : (number : ℕ) (given : Value) → ¬ IsLess (Finite number) (Finite (suc depth))
              → IsLess given (Finite (suc depth)) → IsLess given (Finite number)
          to_number number (Finite other) bound is = elim (cases_lt number (suc depth)) [
            | inl below ↦ absurd (bound below)
            | inr above ↦ omega (arith, is)
          ]
          to_number number Forever bound is = absurd is

          to_forever : (given : Value) → IsLess given (Finite (suc depth)) → IsLess given Forever
          to_forever (Finite number) is = tt
          to_forever Forever is = absurd is

          by_value : (value : Value) → ¬ IsLess value (Finite (suc depth)) → ¬ IsLess given value → ⊥
          by_value Forever bound no_less = no_less (to_forever given less)
          by_value (Finite number) bound no_less = no_less (to_number number given bound less)

      long : (label : ℕ) (after : Value) → HasValue board (moved held pebble label) after
          → ¬ IsLess (one_more after) value
          → LabellerTree board depth (moved held pebble label)
      long label Forever has not = has depth
      long label (Finite number) has not = elim (cases_lt number depth) [
        | inl below ↦ absurd (enough (Finite (suc number)) not (omega arith))
        | inr above ↦ lasts_at_most board (moved held pebble label) depth number above has.0
      ]

      by : (best : Option Best) → IsBestFor board held pebble best → ¬ IsLess (answered_with best) value
          → (label : ℕ) × Legal board held pebble label × LabellerTree board depth (moved held pebble label)
      by None is not = absurd (enough (Finite 0) not (omega arith))
      by (Some best) is not = (best.label, is.0.0.legal, long best.label best.value is.1 not)

  -- the labeller answers as many requests as each best answer leaves
  lasts : (value : Value) (depth : ℕ) → ((pebble : ℕ) → pebble < board.pebbles → IsLeft board held value pebble)
      → ¬ IsLess value (Finite depth) → LabellerTree board depth held
  lasts value zero each most = tt
  lasts value (suc depth) each most = λ pebble low. answers_left value depth pebble (each pebble low) most

  -- the adversary ends after one more if it asks the pebble with the least
  stops : (number pebble : ℕ) → pebble < board.pebbles → IsLeftBy board held (Finite number) pebble
      → AdversaryTree board (suc number) held
  stops number pebble low left = (pebble, low, by left.0 left.1 left.2)
    where
      by : (best : Option Best) → IsBestFor board held pebble best → Finite number ≡ answered_with best → (label : ℕ)
          → Legal board held pebble label → AdversaryTree board number (moved held pebble label)
      by None is same label legal = absurd (is label legal)
      by (Some best) is same label legal = after best.value is.1 same
        where
          to : List ℕ
          to = moved held pebble label

          most : HasNoGreaterValue board to (moved held pebble best.label)
          most = is.0.0.greatest label legal

          after : (left : Value) → HasValue board (moved held pebble best.label) left
              → Finite number ≡ one_more left
              → AdversaryTree board number to
          after Forever has is_same = absurd cc
          after (Finite less) has is_same =
              let one : number ≡ suc less = cc in
              subst (λ n. AdversaryTree board n to) (sym one) (elim (some_tree board (suc less) to) [
                | inr tree ↦ tree
                | inl tree ↦ absurd (not_more most.value most.of_first (subst (λ (v : Value). ¬ IsLess v most.value)
                    (same_value board (moved held pebble best.label) most.bound (Finite less) most.of_second has)
                    most.not_greater) tree)
              ])
            where
              not_more : (value : Value) → HasValue board to value → ¬ IsLess (Finite less) value
                  → LabellerTree board (suc less) to → ⊥
              not_more Forever has_value not tree = not tt
              not_more (Finite other) has_value not tree =
                  let enough : suc less ≤ other = at_least board (suc less) other to tree has_value in
                  not (omega arith)

  pub least-value : (value : Value) → IsLeastBelow board held board.pebbles value → HasValue board held value
  least-value Forever is = λ depth. lasts Forever depth is.least (λ less. less)
  least-value (Finite number) is = (
    lasts (Finite number) number is.least (λ less. IsLess-irrefl (Finite number) less),
    elim is.found [
      | inl same ↦ absurd cc
      | inr some ↦ stops number some.0 some.1 some.2
    ],
  )

  -- a best answer of a small board can be counted
  pub small-value : IsConfiguration board held → configurations board ≤ MAX_CONFIGURATIONS → (pebble : ℕ)
      → (best : Option Best) → IsBestFor board held pebble best → IsCountable best
  small-value is few pebble None none = tt
  small-value is few pebble (Some best) best_is = by best.value best_is.1
    where
      to : List ℕ
      to = moved held pebble best.label

      by : (value : Value) → HasValue board to value → IsSmallValue value
      by Forever has = tt
      by (Finite number) has = elim (cases_lt number (configurations board)) [
        | inl below ↦ omega (arith, few)
        | inr above ↦
            let next = moved_is_configuration board held pebble best.label best_is.0.0.legal.is_label is in
            let forever = forever_from_count board to next
            (lasts_at_most board to (configurations board) number above has.0) in
            let same = same_value board to (Finite number) Forever has forever in
            absurd cc
      ]
