-- An adversary's row by classes has one reading, or one fault.
use Rattle.std.proofs.Common.{◌≡◌, ℕ, ◌^◌, ◌+◌, ◌<◌, List, [], ◌∷◌, ◌++◌, Option, Some, None, map, get_or}
use Rattle.std.proofs.Common.{refl, sym, ap, ◌∙◌, arith, inl, inr}
use Rattle.std.specs.List.{Contains}
use Rattle.std.specs.Prelude.{codes}
use Rattle.std.specs.Fmt.{decimal}
use Rattle.std.proofs.lemmas.Fmt.{decimal_is_IsNumeral, decimal_injective}
use Rattle.std.proofs.lemmas.List.{append_cancel_left, get_or-map, length-map}
use Rattle.std.proofs.lemmas.List.Elements.{All-contains, All-cons, All-nil}
use Rattle.board_text.specs.Ranges.{AreNumbers}
use Rattle.board_text.specs.Numerals.{spaced_texts, SpellsBelow}
use Rattle.board_text.specs.PlaceForms.{place_word}
use Rattle.board_text.specs.PlainBoard.{PlainBoard, IsBoard, places}
use Rattle.board_text.proofs.Cited.{texts_unique, words_are_texts, words_spell}
use Rattle.positions.specs.Table.{RequestRow}
use Rattle.proof_text.specs.declared.fault.ProofKind.{ProofKind}
use Rattle.proof_text.specs.declared.fault.ProofKind.TheVariants as kinds
use Rattle.proof_text.specs.declared.proof.TheConstants.{MAX_TURNS}
use Rattle.proof_text.specs.RowFaults.{SpellConfiguration, ClassRequestMisread, IsAskedAmong}
use Rattle.proof_text.specs.ProofFaults.{requests_read, read_by_classes}
use Rattle.proof_text.proofs.OneRow.{RowLaws, row_laws, same_places, few_all, position_texts, position_spelled}
use Rattle.proof_text.proofs.OneRow.{same_position}
use Rattle.proof_text.proofs.OneStep.{OneReading, Line, Unless, one_line, one_unless}
use Rattle.proof_text.proofs.RowWords.{no_digit_space, no_digit_lf, position_unique, numerals_unique}
use Rattle.proof_text.specs.ClassProof.{IsClassRequestRow}
use Rattle.proof_text.specs.ProofText.{class_request_line}
use Rattle.proof_text.specs.RowWords.{ClassRequestWords, AreClassRequestWords, class_request_words_line}
use Rattle.proof_text.proofs.RowWords.{class_request_parts}
use Rattle.positions.specs.declared.claim.Claim.{Claim}

one_class_request_words : (pebbles labels bound : ℕ)
    → OneReading (AreClassRequestWords pebbles labels bound) class_request_words_line
one_class_request_words pebbles labels bound first second x y p q e =
    let one = codes " ask" ++ (spaced_texts first.ask ++ 10 ∷ x) in
    let other = codes " ask" ++ (spaced_texts second.ask ++ 10 ∷ y) in
    let a = position_unique pebbles labels bound first.at second.at (first.left ++ one) (second.left ++ other) p.at q.at
    (sym (class_request_parts first x) ∙ e ∙ class_request_parts second y) in
    let t = numerals_unique first.left second.left one other p.left q.left
    (no_digit_space (codes "ask" ++ (spaced_texts first.ask ++ 10 ∷ x)))
    (no_digit_space (codes "ask" ++ (spaced_texts second.ask ++ 10 ∷ y))) a.1 in
    let s = texts_unique 1 labels bound first.ask second.ask (10 ∷ x) (10 ∷ y) p.ask q.ask (no_digit_lf x)
    (no_digit_lf y)
    (append_cancel_left (codes " ask") _ _ t.1) in
    let same : ◌≡◌ {A = ClassRequestWords} (record { at = first.at; left = first.left; ask = first.ask }) second =
    rw (a.0, t.0, s.0) refl in
    (same, append_cancel_left (10 ∷ []) x y s.1)

abbrev request_words : PlainBoard → RequestRow → ClassRequestWords
request_words board row = record {
  at = map (place_word board.labels) row.at;
  left = decimal row.left;
  ask = map (place_word board.labels) (row.request ∷ []);
}

-- The reading of an adversary's row.
abbrev RequestRead : PlainBoard → List ℕ → Option ProofKind → Type 0
RequestRead board rest found =
    Line (AreClassRequestWords board.pebbles board.labels (places board)) class_request_words_line rest
    (Some kinds.Row)
    (λ words more. Unless (Some kinds.Label) (SpellConfiguration board words.at × SpellConfiguration board words.ask)
    (Unless (Some kinds.Pebble) (IsAskedAmong words)
    (Unless (Some kinds.Number) (SpellsBelow (MAX_TURNS + 1) words.left) (λ v. v ≡ None))))
    found

request_misread : (board : PlainBoard) (rest : List ℕ) (kind : ProofKind) → ClassRequestMisread board rest kind
    → RequestRead board rest (Some kind)
request_misread board rest kinds.Row h = inl (h, refl)
request_misread board rest kinds.Label (words, (are, more, e), wrong) = inr (words, more, (are, e), inl (wrong, refl))
request_misread board rest kinds.Pebble (words, (are, more, e), at, wrong) =
    inr (words, more, (are, e), inr (at, inl (wrong, refl)))
request_misread board rest kinds.Number (words, (are, more, e), at, ask, wrong) =
    inr (words, more, (are, e), inr (at, inr (ask, inl (wrong, refl))))
request_misread board rest kind h = absurd h

-- the word of a place among others is among their words
pub word_among : (labels : ℕ) (at : List ℕ) (place : ℕ) → Contains at place
    → Contains (map (place_word labels) at) (place_word labels place)
word_among labels at place (k, inside, is) = (
  k,
  omega (arith, inside, length-map at (place_word labels)),
  get_or-map (place_word labels) at k place (place_word labels place) inside ∙ ap (place_word labels) is,
)

module _ (board : PlainBoard) (is_board : IsBoard board) where
  small_left : (row : RequestRow) → IsClassRequestRow board row → row.left < 2 ^ 64
  small_left row is = omega (arith, is.left)

  -- the asked place is one of the board
  asked_place : (row : RequestRow) → IsClassRequestRow board row → AreNumbers 1 (places board) (row.request ∷ [])
  asked_place row is =
      let low : row.request < places board =
      All-contains (λ place. place < places board) row.at row.request is.at.each_place is.request in
      (refl, All-cons (λ place. place < places board) row.request [] low (All-nil (λ place. place < places board)))

  are_request_words : (row : RequestRow) → IsClassRequestRow board row
      → AreClassRequestWords board.pebbles board.labels (places board) (request_words board row)
  are_request_words row is = record {
    at = position_texts board is_board row.at is.at;
    left = (decimal_is_IsNumeral row.left (small_left row is)).0;
    ask = words_are_texts 1 board.labels (places board) (row.request ∷ []) (few_all board is_board)
        (asked_place row is);
  }

  one_request : OneReading (IsClassRequestRow board) (class_request_line board)
  one_request p q x y is_p is_q e =
      let s = one_class_request_words board.pebbles board.labels (places board) (request_words board p)
      (request_words board q) x y
      (are_request_words p is_p) (are_request_words q is_q) e in
      let at = same_position board is_board p.at q.at is_p.at is_q.at
      (ap (λ (words : ClassRequestWords). words.at) s.0) in
      let left = decimal_injective p.left q.left (small_left p is_p) (small_left q is_q)
      (ap (λ (words : ClassRequestWords). words.left) s.0) in
      let ask = same_places 1 (places board) board.labels (p.request ∷ []) (q.request ∷ [])
      (omega (arith, few_all board is_board)) (asked_place p is_p) (asked_place q is_q)
      (ap (λ (words : ClassRequestWords). words.ask) s.0) in
      let request : p.request ≡ q.request = ap (λ (l : List ℕ). get_or l 0 0) ask in
      let same : ◌≡◌ {A = RequestRow} (record { at = p.at; left = p.left; request = p.request }) q =
      rw (at, left, request) refl in
      (same, s.1)

  pub class_request_laws : (claim : Claim) → RowLaws (requests_read (read_by_classes board) claim)
  class_request_laws claim =
      row_laws (requests_read (read_by_classes board) claim) (omega arith) (RequestRead board) one_request
      (λ rest. one_line _ class_request_words_line rest _ _ (one_class_request_words board.pebbles board.labels
      (places board))
      (λ words more are. one_unless _ _ _ (one_unless _ _ _ (one_unless _ _ _ (λ v w e f. e ∙ sym f)))))
      (request_misread board)
      (λ row rest more is e. inr (
        request_words board row,
        more,
        (are_request_words row is, e),
        inr (
          (
            position_spelled board is_board row.at is.at,
            words_spell 1 board.labels (places board) (row.request ∷ []) (asked_place row is),
          ),
          inr (
            All-cons (Contains (map (place_word board.labels) row.at)) (place_word board.labels row.request) []
                (word_among board.labels row.at row.request is.request)
                (All-nil (Contains (map (place_word board.labels) row.at))),
            inr ((row.left, omega (arith, is.left), refl), refl),
          ),
        ),
      ))
