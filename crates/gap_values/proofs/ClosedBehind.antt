-- The words before a place were passed, and none is open from there on: so all were.
use Rattle.std.proofs.Common.{◌≢◌, ℕ, ◌+◌, ◌<◌, ◌++◌, Bool, List, length, take, drop, get_or, refl, sym, ◌∙◌}
use Rattle.std.proofs.Common.{subst, inl, inr, arith}
use Rattle.std.proofs.lemmas.Bool.{cases_lt}
use Rattle.std.proofs.lemmas.List.{get_or-drop, length-drop, take-append-drop}
use Rattle.board_text.specs.PlainBoard.{PlainBoard}
use Rattle.classes.specs.ClassGaps.{member_with}
use Rattle.classes.specs.Numbers.{number_by_greatest}
use Rattle.gap_values.specs.Inside.Closing.{IsPartClosed}
use Rattle.gap_values.specs.Inside.OpenWords.{AreClosedFrom}
use Rattle.gap_values.specs.Inside.Sets.{AreFresh, ArePassed}
use Rattle.gap_values.proofs.ClosingSteps.{passed-append}
use Rattle.gap_values.proofs.TableSteps.{round-append, some-append}

module _ (b : PlainBoard) (sets : List (List ℕ)) (round : ℕ) (low : round < 4294967295) where
  -- closed words are passed as they are
  passed-closed : (first : ℕ) (words : List ℕ)
      → ((index : ℕ) → index < length words → get_or words index 0 ≢ 4294967295)
      → ArePassed b sets round first 0 (length words) words words
  passed-closed first words closed = record {
    same_length = refl;
    passed = λ index least under. record {
      shut = λ opened. absurd (closed index under opened);
      left_open = λ opened. absurd (closed index under opened);
      changed = inl refl;
    };
    before = λ index none. refl;
    behind = λ index past. refl;
  }

  closed-behind-front : (tables : ℕ) (front back part : List ℕ) (told : List (List ℕ)) (answer : Bool)
      → ((index : ℕ) → index < length back → get_or back index 0 ≢ 4294967295) → AreFresh round back
      → IsPartClosed b sets round 0 tables front part told answer
      → IsPartClosed b sets round 0 tables (front ++ back) (part ++ back) told answer
  closed-behind-front tables front back part told answer closed fresh is = record {
    passed = passed-append b sets round low 0 (length front) front part back back (omega arith) is.passed
        (passed-closed (length front) back closed);
    tell = record {
      many = is.tell.many;
      each = λ list list_is label label_low.
          let both = is.tell.each list list_is label label_low in
          let gap : ℕ = number_by_greatest (member_with list label) in
          let more = round-append round 0 (length part) part back (omega arith) gap in (
            λ has. more.0 (inl (both.0 has)),
            λ of_round. elim (more.1 of_round) [
              | inl early ↦ both.1 early
              | inr late ↦ absurd (fresh late.0 late.2 late.3)
            ],
          );
    };
    some = (
      λ yes. (some-append round part back).0 (inl (is.some.0 yes)),
      λ has. elim ((some-append round part back).1 has) [
        | inl early ↦ is.some.1 early
        | inr late ↦ absurd (fresh late.0 late.1 late.2)
      ],
    );
  }

  pub closed-behind : (tables end : ℕ) (words part : List ℕ) (told : List (List ℕ)) (answer : Bool)
      → AreClosedFrom words end → AreFresh round words
      → IsPartClosed b sets round 0 tables (take end words) part told answer
      → IsPartClosed b sets round 0 tables words (part ++ drop end words) told answer
  closed-behind tables end words part told answer shut fresh is =
      let inside : (index : ℕ) → index < length (drop end words) → end + index < length words =
      λ index under. omega (arith, under, length-drop end words) in
      subst (λ (l : List ℕ). IsPartClosed b sets round 0 tables l (part ++ drop end words) told answer)
      (take-append-drop end words)
      (closed-behind-front tables (take end words) (drop end words) part told answer
      (λ index under opened. shut.each (end + index) (omega arith) (inside index under)
      (sym (get_or-drop end words index 0) ∙ opened))
      (λ index under of_round. fresh (end + index) (inside index under)
      (sym (get_or-drop end words index 0) ∙ of_round)) is)

-- words that were closed before a round are closed after it
pub closed-kept : (b : PlainBoard) (sets : List (List ℕ)) (round count from : ℕ) (old new : List ℕ)
    → ArePassed b sets round 0 0 count old new → AreClosedFrom old from → AreClosedFrom new from
closed-kept b sets round count from old new passed shut = record {
  within = omega (arith, shut.within, passed.same_length);
  each = λ index past under opened.
      let closed : get_or old index 0 ≢ 4294967295 = shut.each index past (omega (arith, under, passed.same_length)) in
      elim (cases_lt index count) [
        | inl inside ↦ elim (passed.passed index (omega arith) inside).changed [
          | inl same ↦ closed (sym same ∙ opened)
          | inr both ↦ closed both.0
        ]
        | inr behind ↦ closed (sym (passed.behind index behind) ∙ opened)
      ];
}
