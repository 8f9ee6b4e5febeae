-- The best answer of a gap of places is the best answer to each request in it.
use Rattle.std.proofs.Common.{◌≡◌, ℕ, suc, ◌+◌, ◌-◌, ◌<◌, ◌≤◌, ◌↔◌, ◌∙◌, List, ◌∷◌, length, drop, get_or}
use Rattle.std.proofs.Common.{Option, None, Some, inl, inr, sym, ap, subst, arith}
use Rattle.std.proofs.lemmas.Bool.{cases_lt}
use Rattle.std.proofs.Math.Seq.{drop-cons}
use Rattle.board_text.specs.PlainBoard.{PlainBoard, IsConfiguration, places}
use Rattle.board_text.proofs.Cited.{label_is_place}
use Rattle.positions.specs.declared.value.Value.{Value}
use Rattle.positions.specs.declared.value.Value.TheVariants.{Finite, Forever}
use Rattle.positions.specs.Counts.{IsSmallest}
use Rattle.positions.specs.Game.{Legal, moved}
use Rattle.positions.specs.Gaps.{AnswersGap}
use Rattle.positions.specs.Value.{HasValue, HasValueAtMost}
use Rattle.positions.proofs.Cited.{moved_is_configuration, same_value, some_value}
use Rattle.classes.specs.Classes.{IsClass, put, class_of}
use Rattle.classes.specs.ClassGaps.{gap_at, member_with}
use Rattle.classes.proofs.Cited.{falls-more, legal-answers, value-of-class, put-is}
use Rattle.gap_values.specs.BestOfGap.{HasGreatestMember, IsBestOfGap, LeadBelow}
use Rattle.gap_values.proofs.Cited.{class-configuration, gap-is, member-like}
use Rattle.gap_values.specs.declared.value_table.Best.{Best}
use Rattle.strategies.specs.Best.{IsLess, HasGreatestResult, IsBestAnswer, IsBestFor, LowersValue}
use Rattle.strategies.proofs.ValueOrder.{less_than_finite}

module _ (board : PlainBoard) (held : List ℕ) (is : IsConfiguration board held) (pebble : ℕ)
    (inside : pebble < board.pebbles) where
  abbrev gap : List ℕ
  gap = gap_at held pebble

  legal : (label : ℕ) → Legal board held pebble label ↔ AnswersGap board gap label
  legal label = legal-answers board held pebble label is.each_pebble inside

  result : (label : ℕ) → label < board.labels → IsConfiguration board (moved held pebble label)
  result label low = moved_is_configuration board held pebble label low is

  -- the member of the gap is a configuration
  member : (label : ℕ) → label < board.labels → IsConfiguration board (member_with gap label)
  member label low =
      let place = label_is_place board label low in
      let class = put-is (places board) (board.pebbles - 1) label gap (gap-is board held is pebble inside) place in
      class-configuration board (member_with gap label)
      (record { size = (member-like board held is pebble inside label place).other_size; falls = class.falls })

  -- a move and the member have one value
  there : (label : ℕ) → label < board.labels → (value : Value)
      → HasValue board (moved held pebble label) value ↔ HasValue board (member_with gap label) value
  there label low value =
      let like = member-like board held is pebble inside label (label_is_place board label low) in
      let one = value-of-class board (moved held pebble label) (result label low) value in
      let other = value-of-class board (member_with gap label) (member label low) value in (
        λ has. other.1 (subst (λ class. HasValue board class value) like.same (one.0 has)),
        λ has. one.1 (subst (λ class. HasValue board class value) (sym like.same) (other.0 has)),
      )

  greatest-result : (label : ℕ) → HasGreatestMember board gap label → HasGreatestResult board held pebble label
  greatest-result label most =
      let allowed = (legal label).1 most.answers in
      record {
        legal = allowed;
        greatest = λ other may.
            let theirs = some_value board (moved held pebble other) (result other may.is_label) in
            let mine = some_value board (moved held pebble label) (result label allowed.is_label) in
            record {
              value = theirs.0;
              bound = mine.0;
              of_first = theirs.1;
              of_second = mine.1;
              not_greater = λ less. not-less other may theirs.0 theirs.1 mine.0 mine.1 less;
            };
      }
    where
      not-less : (other : ℕ) → Legal board held pebble other → (theirs : Value)
          → HasValue board (moved held pebble other) theirs → (mine : Value)
          → HasValue board (moved held pebble label) mine → IsLess mine theirs → ⊥
      not-less other may theirs has_theirs Forever has_mine less = less
      not-less other may theirs has_theirs (Finite number) has_mine less =
          let allowed = (legal label).1 most.answers in
          let within = most.greatest other ((legal other).0 may) number
          (number, omega arith, (there label allowed.is_label (Finite number)).0 has_mine) in
          let low : within.0 ≤ number = within.1 in
          let same = same_value board (moved held pebble other) theirs (Finite within.0) has_theirs
          ((there other may.is_label (Finite within.0)).1 within.2) in
          let below : number < within.0 = subst (IsLess (Finite number)) same less in
          omega arith

  greatest-member : (label : ℕ) → HasGreatestResult board held pebble label → HasGreatestMember board gap label
  greatest-member label most = record {
    answers = (legal label).0 most.legal;
    greatest = λ other answers bound within.
        let may = (legal other).1 answers in
        let low : within.0 ≤ bound = within.1 in
        let no_more = most.greatest other may in
        let same = same_value board (moved held pebble label) no_more.bound (Finite within.0) no_more.of_second
        ((there label most.legal.is_label (Finite within.0)).1 within.2) in
        at-most other may bound within.0 low no_more.value no_more.of_first
        (subst (λ (v : Value). ¬ IsLess v no_more.value) same no_more.not_greater);
  }
    where
      at-most : (other : ℕ) → Legal board held pebble other → (bound number : ℕ) → number ≤ bound → (value : Value)
          → HasValue board (moved held pebble other) value → ¬ IsLess (Finite number) value
          → HasValueAtMost board (member_with gap other) bound
      at-most other may bound number low Forever has not_less = absurd (not_less tt)
      at-most other may bound number low (Finite value) has not_less = elim (cases_lt number value) [
        | inl less ↦ absurd (not_less less)
        | inr most ↦ (value, omega arith, (there other may.is_label (Finite value)).0 has)
      ]

  best-result : (label : ℕ) → IsSmallest (HasGreatestMember board gap) (Some label)
      → IsBestAnswer board held pebble label
  best-result label best =
      (greatest-result label best.0, λ other greatest. best.1 other (greatest-member other greatest))

  none-legal : ((label : ℕ) → AnswersGap board gap label → ⊥) → (label : ℕ) → Legal board held pebble label → ⊥
  none-legal none label may = none label ((legal label).0 may)

  pub best-of-gap : (best : Option Best) → IsBestFor board held pebble best → IsBestOfGap board gap best
  best-of-gap None none = λ label answers. none label ((legal label).1 answers)
  best-of-gap (Some best) is = (
    (greatest-member best.label is.0.0, λ other most. is.0.1 other (greatest-result other most)),
    (there best.label is.0.0.legal.is_label best.value).0 is.1,
  )

  pub best-of-request : (best : Option Best) → IsBestOfGap board gap best → IsBestFor board held pebble best
  best-of-request None none = none-legal none
  best-of-request (Some best) is =
      (best-result best.label is.0, (there best.label is.0.0.answers.is_label best.value).1 is.1)

  -- a request lowers a finite value exactly if all answers of its gap lead below it
  pub lowers-of-gap : (number : ℕ) → HasValue board held (Finite number) → LeadBelow board gap number
      → LowersValue board held pebble
  lowers-of-gap number has below = record {
    is_pebble = inside;
    lowers = λ label may.
        let few = below label ((legal label).0 may) in
        record {
          smaller = Finite few.0;
          greater = Finite number;
          of_first = (there label may.is_label (Finite few.0)).1 few.2;
          of_second = has;
          less = few.1;
        };
  }

  pub gap-of-lowers : (number : ℕ) → HasValue board held (Finite number) → LowersValue board held pebble
      → LeadBelow board gap number
  gap-of-lowers number has lowers label answers =
      let may = (legal label).1 answers in
      let few = less_than_finite board number (moved held pebble label) held has (lowers.lowers label may) in
      (few.0, few.1, (there label may.is_label (Finite few.0)).0 few.2)

-- one best answer for all requests in a gap
pub same-best : (board : PlainBoard) (one other : List ℕ) (pebble asked : ℕ) (best : Option Best)
    → IsConfiguration board one → IsConfiguration board other → pebble < board.pebbles → asked < board.pebbles
    → gap_at one pebble ≡ gap_at other asked → IsBestFor board one pebble best → IsBestFor board other asked best
same-best board one other pebble asked best is_one is_other inside there same is =
    best-of-request board other is_other asked there best
    (subst (λ gap. IsBestOfGap board gap best) same (best-of-gap board one is_one pebble inside best is))

-- ---- the gap of a pebble, from the last place on

-- the places from an index on, without the pebble's, are gathered
pub record AreGathered (held : List ℕ) (pebble from : ℕ) (gap : List ℕ) : Type 0 where
  pub bound : ℕ
  pub count : ℕ
  pub few : count + from ≤ length held
  pub class : IsClass bound count gap
  pub past : pebble < from → gap ≡ class_of (drop from held)
  pub before : from ≤ pebble → gap ≡ gap_at (drop from held) (pebble - from)

module _ (held : List ℕ) (pebble from : ℕ) (gap : List ℕ) (is : AreGathered held pebble (suc from) gap)
    (inside : from < length held) where
  step : drop from held ≡ get_or held from 0 ∷ drop (suc from) held
  step = drop-cons held from 0 inside

  pub gathered-more : (pebble ≡ from → ⊥) → AreGathered held pebble from (put (get_or held from 0) gap)
  gathered-more differ = record {
    bound = is.bound + suc (get_or held from 0);
    count = suc is.count;
    few = (let few = is.few in omega arith);
    class =
        let more = falls-more is.bound (is.bound + suc (get_or held from 0)) gap (omega arith) is.class.falls in
        put-is (is.bound + suc (get_or held from 0)) is.count (get_or held from 0) gap
        (record { size = is.class.size; falls = more }) (omega arith);
    past = λ late. ap (put (get_or held from 0)) (is.past (omega (arith, differ))) ∙ ap class_of (sym step);
    before = λ early.
        let later : suc from ≤ pebble = omega (arith, differ) in
        let one : suc (pebble - suc from) ≡ pebble - from = omega arith in
        ap (put (get_or held from 0)) (is.before later)
        ∙ ap (gap_at (get_or held from 0 ∷ drop (suc from) held)) one
        ∙ ap (λ rest. gap_at rest (pebble - from)) (sym step);
  }

  pub gathered-past : pebble ≡ from → AreGathered held pebble from gap
  gathered-past same = record {
    bound = is.bound;
    count = is.count;
    few = (let few = is.few in omega arith);
    class = is.class;
    past = λ late. absurd (omega (arith, same));
    before = λ early.
        let none : 0 ≡ pebble - from = omega (arith, same) in
        is.past (omega (arith, same))
        ∙ ap (gap_at (get_or held from 0 ∷ drop (suc from) held)) none
        ∙ ap (λ rest. gap_at rest (pebble - from)) (sym step);
  }
