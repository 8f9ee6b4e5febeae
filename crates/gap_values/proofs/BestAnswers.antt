-- The best answer of a gap, answer by answer.
use Rattle.std.proofs.Common.{◌≡◌, ℕ, suc, ◌+◌, ◌-◌, ◌<◌, ◌≤◌, ◌↔◌, List, Option, None, Some, MatchOption}
use Rattle.std.proofs.Common.{true, sym, subst, inl, inr, arith}
use Rattle.std.proofs.lemmas.Bool.{cases_lt}
use Rattle.board_text.specs.Domination.{has_bit}
use Rattle.board_text.specs.declared.board.TheConstants.{MAX_LABELS}
use Rattle.board_text.specs.PlainBoard.{PlainBoard, IsBoard, places}
use Rattle.positions.specs.Counts.{IsSmallest}
use Rattle.positions.specs.LabelWalk.{Walk, TakesSmallest}
use Rattle.positions.specs.Value.{HasValue, HasValueAtMost}
use Rattle.positions.specs.declared.value.Value.{Value}
use Rattle.positions.specs.declared.value.Value.TheVariants.{Finite, Forever}
use Rattle.positions.proofs.Cited.{AreFrom, after_step, next_of, none_left, same_value}
use Rattle.positions.proofs.Values.{at_most_from_tree}
use Rattle.classes.specs.Classes.{IsClass}
use Rattle.positions.specs.Gaps.{AnswersGap}
use Rattle.classes.specs.ClassGaps.{gap_at, member_with}
use Rattle.gap_values.specs.BestOfGap.{HasWordAfter, IsBestOfGap, IsMostAfter}
use Rattle.gap_values.specs.declared.value_table.Best.{Best}
use Rattle.gap_values.specs.GapTables.{IsClosedBefore, IsGapTable}
use Rattle.gap_values.specs.RoundWords.{round_of_word}
use Rattle.gap_values.proofs.ClosedGaps.{tree-if-closed, class-configuration}
use Rattle.gap_values.proofs.Words.{before-from, before-to, result-is}

round-later : (value : Value) (low high : ℕ) → low ≤ high → IsClosedBefore value low → IsClosedBefore value high
round-later (Finite round) low high most less = omega (arith, most, less)
round-later Forever low high most before = before

-- a value is at most a number exactly if it is before the next one
at-most-before : (board : PlainBoard) (configuration : List ℕ) (value : Value) (most : ℕ)
    → HasValue board configuration value
    → HasValueAtMost board configuration most ↔ IsClosedBefore value (suc most)
at-most-before board configuration (Finite number) most has = (
  λ few.
      let same : Finite few.0 ≡ Finite number =
      same_value board configuration (Finite few.0) (Finite number) few.2 has in
      let number_is : few.0 ≡ number = cc in
      omega (arith, number_is, few.1),
  λ before. (number, omega (arith, before), has),
)
at-most-before board configuration Forever most has = (
  λ few.
      let same : Finite few.0 ≡ Forever = same_value board configuration (Finite few.0) Forever few.2 has in
      absurd cc,
  λ before. absurd before,
)

at-most-more : (board : PlainBoard) (configuration : List ℕ) (less more : ℕ) → less ≤ more
    → HasValueAtMost board configuration less → HasValueAtMost board configuration more
at-most-more board configuration less more most few = (few.0, omega (arith, most, few.1), few.2)

-- an answer whose word is below a bound
abbrev pub IsBelow : PlainBoard → List ℕ → ℕ → ℕ → Type 0
IsBelow board gap label bound = (word : ℕ) × HasWordAfter board gap label word × (word < bound)

-- the label is the smallest of the answers with the greatest word, which is one less than the bound
pub record IsBestLabel (board : PlainBoard) (gap : List ℕ) (bound : ℕ) (best : Best) : Type 0 where
  pub answers : AnswersGap board gap best.label
  pub has : HasWordAfter board gap best.label (bound - 1)
  pub value : best.value ≡ round_of_word (bound - 1)
  pub some : 0 < bound
  pub before : (other : ℕ) → other < best.label → AnswersGap board gap other → IsBelow board gap other (bound - 1)

-- of the labels before this one the best answer, and the bound above all words; or none
pub record IsBestBefore (board : PlainBoard) (gap : List ℕ) (label : ℕ) (best : Option Best) (bound : ℕ)
    : Type 0 where
  pub all : (other : ℕ) → other < label → AnswersGap board gap other → IsBelow board gap other bound
  pub few : bound ≤ 4294967295
  pub found : MatchOption best (bound ≡ 0) (IsBestLabel board gap bound)

module _ (board : PlainBoard) (gap : List ℕ) where
  below-more : (label low high : ℕ) → low ≤ high → IsBelow board gap label low → IsBelow board gap label high
  below-more label low high less is = (is.0, is.1, omega (arith, less, is.2))

  word-most : (label word most : ℕ) → HasWordAfter board gap label word
      → HasValueAtMost board (member_with gap label) most ↔ IsClosedBefore (round_of_word word) (suc most)
  word-most label word most has = at-most-before board (member_with gap label) (round_of_word word) most has.value

  module _ (from label bound word : ℕ) (best : Option Best) (was : IsBestBefore board gap from best bound)
      (next : IsSmallest (λ l. (from ≤ l) × AnswersGap board gap l) (Some label))
      (has : HasWordAfter board gap label word) where
    -- a bound over the words of the labels up to this one
    up-to : (high : ℕ) → bound ≤ high → word < high → (other : ℕ) → other < label + 1
        → AnswersGap board gap other → IsBelow board gap other high
    up-to high most less other low answer = elim (cases_lt other from) [
      | inl early ↦ below-more other bound high most (was.all other early answer)
      | inr late ↦
          let least : label ≤ other = next.1 other (late, answer) in
          let same : label ≡ other = omega (arith, least, low) in
          subst (λ n. IsBelow board gap n high) same (word, has, less)
    ]

    -- a better answer
    pub best-more : (value : Value) → value ≡ round_of_word word → bound ≤ word → word < 4294967295
        → IsBestBefore board gap (label + 1) (Some (record { label = label; value = value })) (word + 1)
    best-more value value_is most finite =
        let one : word ≡ word + 1 - 1 = omega arith in
        record {
          all = up-to (word + 1) (omega (arith, most)) (omega arith);
          few = omega (arith, finite);
          found = record {
            answers = next.0.1;
            has = subst (HasWordAfter board gap label) one has;
            value = subst (λ n. value ≡ round_of_word n) one value_is;
            some = omega arith;
            before = λ other before answer.
                let early : other < from = elim (cases_lt other from) [
                  | inl early ↦ early
                  | inr late ↦ let least : label ≤ other = next.1 other (late, answer) in omega (arith, least, before)
                ] in
                below-more other bound (word + 1 - 1) (omega (arith, most)) (was.all other early answer);
          };
        }

    pub best-kept : word < bound → IsBestBefore board gap (label + 1) best bound
    best-kept less = record {
      all = up-to bound (omega arith) less;
      few = was.few;
      found = was.found;
    }

  -- the best of the answers before a label is the best of all if no answer is left from there on
  module _ (from bound : ℕ) (none : IsSmallest (λ l. (from ≤ l) × AnswersGap board gap l) None) where
    early : (other : ℕ) → AnswersGap board gap other → other < from
    early other answer = elim (cases_lt other from) [
      | inl before ↦ before
      | inr late ↦ absurd (none other (late, answer))
    ]

    pub best-is : (best : Option Best) → IsBestBefore board gap from best bound → IsBestOfGap board gap best
    best-is None was = λ other answer.
        let is = was.all other (early other answer) answer in
        let zero_is : bound ≡ 0 = was.found in
        omega (arith, zero_is, is.2)
    best-is (Some best) was =
        let found = was.found in
        let positive : 0 < bound = found.some in
        let top : ℕ = bound - 1 in (
          (
            record {
              answers = found.answers;
              greatest = λ other answers most value.
                  let is = was.all other (early other answers) answers in
                  let before = before-to top (suc most) ((word-most best.label top most found.has).0 value) in
                  (word-most other is.0 most is.1).1
                  (before-from is.0 (suc most) (omega (arith, is.2, before.0, positive))
                  (omega (arith, is.2, before.1, positive)));
            },
            λ other greatest. elim (cases_lt other best.label) [
              | inr least ↦ least
              | inl smaller ↦
                  let is = found.before other smaller greatest.answers in
                  let few = found.has.few in
                  let mine = greatest.greatest best.label found.answers is.0
                  ((word-most other is.0 is.0 is.1).1
                  (before-from is.0 (suc is.0) (omega arith) (omega (arith, is.2, few)))) in
                  let before = before-to top (suc is.0) ((word-most best.label top is.0 found.has).0 mine) in
                  absurd (omega (arith, is.2, before.0))
            ],
          ),
          subst (HasValue board (member_with gap best.label)) (sym found.value) found.has.value,
        )

  -- the first answer whose result lasts as long as any result can
  pub best-lasting : (from label bound word limit : ℕ) (best : Option Best) (value : Value) → limit ≤ word
      → bound ≤ limit → IsMostAfter board gap limit → IsBestBefore board gap from best bound
      → IsSmallest (λ l. (from ≤ l) × AnswersGap board gap l) (Some label) → HasWordAfter board gap label word
      → value ≡ round_of_word word
      → IsBestOfGap board gap (Some (record { label = label; value = value }))
  best-lasting from label bound word limit best value top low most was next has value_is = (
    (
      record {
        answers = next.0.1;
        greatest = λ other answers high few.
            let before = before-to word (suc high) ((word-most label word high has).0 few) in
            at-most-more board (member_with gap other) limit high (omega (arith, before.0, top))
            (most.1 other answers (omega (arith, before.1, top)));
      },
      λ other greatest. elim (cases_lt other from) [
        | inr late ↦ next.1 other (late, greatest.answers)
        | inl earlier ↦
            let is = was.all other earlier greatest.answers in
            let few = was.few in
            let mine = greatest.greatest label next.0.1 is.0
            ((word-most other is.0 is.0 is.1).1
            (before-from is.0 (suc is.0) (omega arith) (omega (arith, is.2, few)))) in
            let before = before-to word (suc is.0) ((word-most label word is.0 has).0 mine) in
            absurd (omega (arith, before.0, is.2, top, low))
      ],
    ),
    subst (HasValue board (member_with gap label)) (sym value_is) has.value,
  )

-- a walk over the answers of a gap took the next one, this label
pub record IsAnswerTaken (board : PlainBoard) (gap : List ℕ) (walk after : Walk) (label : ℕ) : Type 0 where
  pub next : IsSmallest (λ l. (walk.from ≤ l) × AnswersGap board gap l) (Some label)
  pub left : AreFrom (AnswersGap board gap) after
  pub most : after.from ≤ MAX_LABELS

-- a walk over the answers of a gap comes to the next one, or to none
module _ (board : PlainBoard) (gap : List ℕ) (is_board : IsBoard board) where
  few-answers : (label : ℕ) → AnswersGap board gap label → label < MAX_LABELS
  few-answers label answer = let few = is_board.labels.1 in let low = answer.is_label in omega (arith, few, low)

  module _ (walk : Walk) (are : AreFrom (AnswersGap board gap) walk) where
    pub answer-taken : (after : Walk) (label : ℕ) → TakesSmallest walk after label
        → IsAnswerTaken board gap walk after label
    answer-taken after label step = record {
      next = next_of (AnswersGap board gap) few-answers walk are after label step;
      left = after_step (AnswersGap board gap) few-answers walk are after label step;
      most = let small : label < MAX_LABELS = step.smallest.0.0 in omega (arith, small, step.from);
    }

    pub answers-over : ((label : ℕ) → label < MAX_LABELS → has_bit walk.left label ≡ true → ⊥)
        → IsSmallest (λ l. (walk.from ≤ l) × AnswersGap board gap l) None
    answers-over = none_left (AnswersGap board gap) few-answers walk are

-- ---- the results of a gap of a table

module _ (board : PlainBoard) (closed : List ℕ → Value) (table : IsGapTable board closed) (gap : List ℕ)
    (is_board : IsBoard board) (is_gap : IsClass (places board) (board.pebbles - 1) gap) where
  -- the results of a closed gap last less than it
  pub most-after : (own : ℕ) → closed gap ≡ round_of_word own → own < 4294967295 → IsMostAfter board gap (own - 1)
  most-after own same finite = (
    omega (arith, finite),
    λ label answer low.
        let member : List ℕ = member_with gap label in
        let mine : IsClosedBefore (closed gap) (suc own) =
        subst (λ v. IsClosedBefore v (suc own)) (sym same) (before-from own (suc own) (omega arith) finite) in
        let found = (table gap is_gap own).0 mine label answer in
        let is = class-configuration board member (result-is board gap label is_board is_gap answer.is_label) in
        at_most_from_tree board (own - 1) member
        ((tree-if-closed board closed table (suc (own - 1)) member is).1 (
          found.0,
          found.1,
          round-later (closed (gap_at member found.0)) own (suc (own - 1)) (omega arith) found.2,
        )),
  )
