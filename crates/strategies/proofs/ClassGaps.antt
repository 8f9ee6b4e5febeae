-- Requests of one class's gap have the same answers, whose results have one class.
use Rattle.std.proofs.Common.{◌≡◌, ℕ, ◌+◌, ◌<◌, List, [], ◌∷◌, length, inl, inr, sym, ap, ◌∙◌, subst, arith}
use Rattle.std.specs.List.{remove}
use Rattle.std.proofs.lemmas.Bool.{cases_lt}
use Rattle.std.proofs.lemmas.List.Edits.{length-remove, get_or-remove_below, get_or-remove_above}
use Rattle.std.proofs.lemmas.List.Elements.{All-cons, All-from_get_or}
use Rattle.board_text.specs.PlainBoard.{PlainBoard, IsConfiguration, places}
use Rattle.positions.specs.Game.{Legal, moved}
use Rattle.positions.specs.Gaps.{AnswersGap}
use Rattle.positions.proofs.Cited.{moved_is_configuration}
use Rattle.positions.specs.declared.value.Value.{Value}
use Rattle.positions.specs.Value.{HasValue}
use Rattle.classes.specs.Classes.{class_of, put}
use Rattle.classes.specs.ClassGaps.{gap_at}
use Rattle.classes.proofs.Cited.{class_of-set, legal-answers}
use Rattle.strategies.specs.Inside.NormalForm.{IsNormalForm}
use Rattle.strategies.specs.Inside.NumberedPositions.{over_normal}
use Rattle.strategies.specs.Inside.Numbering.{class_numbered, number_of_gap}
use Rattle.strategies.proofs.AlikeRequests.{AreAlike}
use Rattle.strategies.proofs.ClassNumbers.{class_numbered-order}
use Rattle.strategies.proofs.LikePebbles.{same-value}

-- the label 0 and the other places are places
pub others_are : (board : PlainBoard) (held : List ℕ) (pebble : ℕ) → IsConfiguration board held → pebble < board.pebbles
    → IsConfiguration board (0 ∷ remove held pebble)
others_are board held pebble is inside =
    let long : length held ≡ board.pebbles = is.each_pebble in
    let fewer = length-remove held pebble (omega (arith, inside, long)) in
    record {
      each_pebble = omega (arith, fewer, long);
      each_place = All-cons (λ place. place < places board) 0 (remove held pebble)
          (let some = is.each_place pebble 0 (omega (arith, inside, long)) in omega (arith, some))
          (All-from_get_or (λ place. place < places board) (remove held pebble) 0
          (λ k low. elim (cases_lt k pebble) [
            | inl before ↦ subst (λ place. place < places board)
                (sym (get_or-remove_below held pebble 0 k before (omega (arith, inside, long))))
                (is.each_place k 0 (omega (arith, fewer, low)))
            | inr behind ↦ subst (λ place. place < places board)
                (sym (get_or-remove_above held pebble 0 k behind (omega (arith, inside, long))))
                (is.each_place (k + 1) 0 (omega (arith, fewer, low)))
          ]));
    }

-- the places after the first
abbrev after_first : List ℕ → List ℕ
after_first [] = []
after_first (place ∷ others) = others

module _ (board : PlainBoard) (one other : List ℕ) (pebble partner : ℕ) (is : IsConfiguration board one)
    (too : IsConfiguration board other) (inside : pebble < board.pebbles) (there : partner < board.pebbles)
    (same : number_of_gap board one pebble ≡ number_of_gap board other partner) where
  low : pebble < length one
  low = omega (arith, is.each_pebble, inside)

  high : partner < length other
  high = omega (arith, too.each_pebble, there)

  -- the requests have one gap
  pub same_gap : gap_at one pebble ≡ gap_at other partner
  same_gap =
      let places_are : 0 ∷ remove one pebble ≡ 0 ∷ remove other partner =
      sym (class_numbered-order board (0 ∷ remove one pebble) (others_are board one pebble is inside))
      ∙ ap (class_numbered board) same
      ∙ class_numbered-order board (0 ∷ remove other partner) (others_are board other partner too there) in
      ap (λ held. class_of (after_first held)) places_are

  -- so an answer leads to one class
  one_result : (label : ℕ) → label < board.labels
      → class_of (moved one pebble label) ≡ class_of (moved other partner label)
  one_result label is_label =
      class_of-set one pebble label low ∙ ap (put label) same_gap
      ∙ sym (class_of-set other partner label high)

  -- a legal answer to the one is one to the other
  legal_too : (label : ℕ) → Legal board one pebble label → Legal board other partner label
  legal_too label legal =
      let is_label : label < board.labels = legal.is_label in
      (legal-answers board other partner label too.each_pebble there).1
      (subst (λ g. AnswersGap board g label) same_gap
      ((legal-answers board one pebble label is.each_pebble inside).0 legal))

  value_too : (label : ℕ) → label < board.labels → (value : Value) → HasValue board (moved one pebble label) value
      → HasValue board (moved other partner label) value
  value_too label is_label =
      same-value board (moved one pebble label) (moved other partner label)
      (moved_is_configuration board one pebble label is_label is)
      (moved_is_configuration board other partner label is_label too) (one_result label is_label)

pub gaps_of_classes : (board : PlainBoard) (normal : List ℕ → List ℕ) → IsNormalForm board normal → (one other : List ℕ)
    → (pebble partner : ℕ) → IsConfiguration board one → IsConfiguration board other → pebble < board.pebbles
    → partner < board.pebbles
    → number_of_gap board one pebble ≡ number_of_gap board other partner
    → AreAlike (over_normal board normal) one other pebble partner
gaps_of_classes board normal form one other pebble partner is too inside there same = record {
  legal = λ label. (
    legal_too board one other pebble partner is too inside there same label,
    legal_too board other one partner pebble too is there inside (sym same) label,
  );
  value = λ label is_label value. (
    value_too board one other pebble partner is too inside there same label is_label value,
    value_too board other one partner pebble too is there inside (sym same) label is_label value,
  );
  normal = λ label is_label.
      form.one (moved one pebble label) (moved other partner label)
      (one_result board one other pebble partner is too inside there same label is_label);
}
