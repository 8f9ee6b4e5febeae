-- The best answers of all gaps in a table, made gap by gap.
use Rattle.std.proofs.Common.{◌≡◌, ℕ, zero, suc, ◌+◌, ◌-◌, ◌<◌, List, [], ◌∷◌, ◌++◌, length, get_or, Option, None, inl}
use Rattle.std.proofs.Common.{inr, sym, ap, ◌∙◌, subst, arith}
use Rattle.std.proofs.lemmas.Bool.{cases_lt}
use Rattle.std.proofs.lemmas.List.{get_or_append_left, get_or_push, length_push}
use Rattle.std.proofs.lemmas.List.Elements.{All-from_get_or}
use Rattle.board_text.specs.PlainBoard.{PlainBoard, IsConfiguration, places}
use Rattle.classes.specs.Classes.{IsClass}
use Rattle.classes.specs.ClassGaps.{gap_at}
use Rattle.classes.specs.Numbers.{class_with, ways}
use Rattle.classes.proofs.Cited.{class_of-class, place-below, with-is, with-number}
use Rattle.gap_values.proofs.Cited.{gap-is}
use Rattle.gap_values.specs.declared.value_table.Best.{Best}
use Rattle.strategies.specs.Best.{IsBestFor}
use Rattle.strategies.specs.Inside.RankMoves.{AreBestBelow, IsBestOfNumber, class_of_gap}
use Rattle.strategies.proofs.GapMembers.{same-best}

module _ (board : PlainBoard) (some : 0 < board.pebbles) where
  -- the gap of a number
  abbrev gap : ℕ → List ℕ
  gap number = class_with (places board) (board.pebbles - 1) number

  -- a place before a gap's is that of a pebble with the gap
  pub asked : (place number : ℕ) → place < places board → number < ways (board.pebbles - 1) (places board)
      → IsConfiguration board (place ∷ gap number)
  asked place number low inside =
      let class = (with-is (places board) (board.pebbles - 1) number inside).is in
      record {
        each_pebble = (let size = class.size in omega arith);
        each_place = All-from_get_or (λ p. p < places board) (place ∷ gap number) 0 (each class);
      }
    where
      each : IsClass (places board) (board.pebbles - 1) (gap number) → (k : ℕ) → k < length (place ∷ gap number)
          → get_or (place ∷ gap number) k 0 < places board
      each class zero under = low
      each class (suc k) under = place-below (places board) (gap number) k class.falls (omega arith)

  pub best-more : (place number : ℕ) (answers : List (Option Best)) (best : Option Best) → place < places board
      → number < ways (board.pebbles - 1) (places board)
      → AreBestBelow board number answers → IsBestFor board (place ∷ gap number) 0 best
      → AreBestBelow board (number + 1) (answers ++ best ∷ [])
  best-more place number answers best low inside are is = record {
    one_each = length_push answers best ∙ (let long = are.one_each in omega arith);
    best = λ other before. elim (cases_lt other number) [
      | inl early ↦
          let long : length answers ≡ number = are.one_each in
          subst (IsBestOfNumber class_of_gap board other)
          (sym (get_or_append_left answers (best ∷ []) None other (omega arith))) (are.best other early)
      | inr late ↦
          let long : length answers ≡ number = are.one_each in
          let last : other ≡ number = omega arith in
          subst (IsBestOfNumber class_of_gap board other)
          (sym (get_or_push answers best None other (omega (arith, last, long))))
          (λ held pebble configuration asks same. its held pebble configuration asks (same ∙ last))
    ];
  }
    where
      its : IsBestOfNumber class_of_gap board number best
      its held pebble configuration asks same =
          let class = (with-is (places board) (board.pebbles - 1) number inside).is in
          let own : gap_at held pebble ≡ gap number =
          sym (with-number (places board) (board.pebbles - 1) (gap_at held pebble)
          (gap-is board held configuration pebble asks)) ∙ ap gap same in
          let first : gap_at (place ∷ gap number) 0 ≡ gap number =
          class_of-class (places board) (gap number) class.falls in
          same-best board (place ∷ gap number) held 0 pebble best (asked place number low inside) configuration some
          asks (first ∙ sym own) is
