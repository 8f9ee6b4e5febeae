-- Pebbles on one place are alike, and so are arranged configurations and others of their class.
use Rattle.std.proofs.Common.{◌≡◌, ℕ, ◌<◌, ◌≤◌, ◌==◌, Bool, false, true≢false, List, length, get_or, sym, ap, ◌∙◌}
use Rattle.std.proofs.Common.{subst, arith, inl, inr, eq-eqb, eqb-true}
use Rattle.std.specs.List.{Contains}
use Rattle.std.proofs.lemmas.Bool.{cases_lt}
use Rattle.std.proofs.lemmas.List.{get_or_default}
use Rattle.std.proofs.lemmas.List.Sums.{fails_before_first, passes_at_first}
use Rattle.board_text.specs.PlainBoard.{PlainBoard, IsConfiguration}
use Rattle.positions.specs.declared.value.Value.{Value}
use Rattle.positions.specs.Game.{Legal, moved}
use Rattle.positions.specs.Value.{HasValue}
use Rattle.positions.specs.Table.{RequestRow}
use Rattle.positions.proofs.Configurations.{moved_is_configuration}
use Rattle.strategies.specs.Best.{LowersValue, IsBestRequest}
use Rattle.classes.specs.Classes.{class_of, put, IsClass}
use Rattle.classes.specs.Numbers.{number_by_greatest, class_with}
use Rattle.positions.specs.Gaps.{AnswersGap}
use Rattle.classes.specs.ClassGaps.{gap_at}
use Rattle.classes.proofs.Cited.{class_of-own, class_of-set, put-cancel, legal-answers, value-of-class, with-number}
use Rattle.proof_text.specs.Arranged.{arranged}
use Rattle.proof_text.specs.Positions.{asked_pebble}
use Rattle.proof_text.proofs.Cited.{class-arranged, arranged_is, asked_below}

-- configurations of one class have one value
pub same-value : (board : PlainBoard) (one other : List ℕ) → IsConfiguration board one → IsConfiguration board other
    → class_of one ≡ class_of other → (value : Value) → HasValue board one value → HasValue board other value
same-value board one other is too same value has =
    (value-of-class board other too value).1
    (subst (λ c. HasValue board c value) same ((value-of-class board one is value).0 has))

-- an arranged configuration has the value of the configuration
pub arranged-value : (board : PlainBoard) (configuration : List ℕ) → IsConfiguration board configuration
    → (value : Value) → HasValue board configuration value → HasValue board (arranged board.labels configuration) value
arranged-value board configuration is value has =
    same-value board configuration (arranged board.labels configuration) is (arranged_is board configuration is)
    (sym (class-arranged board.labels configuration)) value has

-- a number is that of one class
pub same-number : (bound pebbles : ℕ) (one other : List ℕ) → IsClass bound pebbles one → IsClass bound pebbles other
    → number_by_greatest one ≡ number_by_greatest other → one ≡ other
same-number bound pebbles one other is too same =
    sym (with-number bound pebbles one is) ∙ ap (class_with bound pebbles) same ∙ with-number bound pebbles other too

-- moves of pebbles in one gap to one label lead to one class
pub moved-alike : (first second : List ℕ) (one other label : ℕ) → one < length first → other < length second
    → gap_at first one ≡ gap_at second other → class_of (moved first one label) ≡ class_of (moved second other label)
moved-alike first second one other label low high same =
    class_of-set first one label low ∙ ap (put label) same ∙ sym (class_of-set second other label high)

module _ (board : PlainBoard) (configuration : List ℕ) (is : IsConfiguration board configuration) (one other : ℕ)
    (inside : one < board.pebbles) (there : other < board.pebbles)
    (same : get_or configuration one 0 ≡ get_or configuration other 0) where
  same-gap : gap_at configuration one ≡ gap_at configuration other
  same-gap =
      let low : one < length configuration = omega (arith, is.each_pebble, inside) in
      let high : other < length configuration = omega (arith, is.each_pebble, there) in
      put-cancel (get_or configuration one 0) (gap_at configuration one) (gap_at configuration other)
      (sym (class_of-own configuration one low) ∙ class_of-own configuration other high
      ∙ ap (λ n. put n (gap_at configuration other)) (sym same))

  -- if a request of the one lowers the value, a request of the other does
  pub lowers-too : LowersValue board configuration one → LowersValue board configuration other
  lowers-too lowers = record {
    is_pebble = there;
    lowers = λ label legal.
        let answers : AnswersGap board (gap_at configuration one) label =
        subst (λ gap. AnswersGap board gap label) (sym same-gap)
        ((legal-answers board configuration other label is.each_pebble there).0 legal) in
        let here : Legal board configuration one label =
        (legal-answers board configuration one label is.each_pebble inside).1 answers in
        let smaller = lowers.lowers label here in
        let class : class_of (moved configuration one label) ≡ class_of (moved configuration other label) =
        moved-alike configuration configuration one other label (omega (arith, is.each_pebble, inside))
        (omega (arith, is.each_pebble, there)) same-gap in
        record {
          smaller = smaller.smaller;
          greater = smaller.greater;
          of_first =
              same-value board (moved configuration one label) (moved configuration other label)
              (moved_is_configuration board configuration one label legal.is_label is)
              (moved_is_configuration board configuration other label legal.is_label is) class smaller.smaller
              smaller.of_first;
          of_second = smaller.of_second;
          less = smaller.less;
        };
  }

-- the best request is the first pebble on its place
pub first-best : (board : PlainBoard) (row : RequestRow) (pebble : ℕ) → IsConfiguration board row.at
    → IsBestRequest board row.at pebble → row.request ≡ get_or row.at pebble 0
    → Contains row.at row.request × IsBestRequest board row.at (asked_pebble row)
first-best board row pebble is best place =
    let inside : pebble < length row.at = omega (arith, is.each_pebble, best.0.is_pebble) in
    let among : Contains row.at row.request =
    (pebble, inside, get_or_default row.at pebble row.request 0 inside ∙ sym place) in
    let first : ℕ = asked_pebble row in
    let low : first < length row.at = asked_below row among in
    let test : ℕ → Bool = λ other. other == row.request in
    let there : get_or row.at first 0 ≡ row.request =
    eqb-true (get_or row.at first 0) row.request (passes_at_first test row.at 0 low) in
    let below : first < board.pebbles = omega (arith, is.each_pebble, low) in
    let lowers : LowersValue board row.at first =
    lowers-too board row.at is pebble first best.0.is_pebble below (sym place ∙ sym there) best.0 in
    let least : pebble ≤ first = best.1 first lowers in
    let most : first ≤ pebble = elim (cases_lt pebble first) [
      | inl late ↦
          let fails : (get_or row.at pebble 0 == row.request) ≡ false =
          fails_before_first test row.at pebble 0 late in
          absurd (true≢false (sym (eq-eqb (get_or row.at pebble 0) row.request (sym place)) ∙ fails))
      | inr early ↦ early
    ] in
    let same : pebble ≡ first = omega (arith, least, most) in
    (among, subst (IsBestRequest board row.at) same best)
