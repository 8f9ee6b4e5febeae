-- A row has one reading, or one fault.
use Rattle.std.proofs.Common.{◌≡◌, ◌⊎◌, ℕ, ◌^◌, ◌+◌, ◌<◌, ◌≤◌, List, [], ◌∷◌, ◌++◌, Option, Some, None, map, refl, sym}
use Rattle.std.proofs.Common.{ap, subst, ◌∙◌, arith, inl, inr}
use Rattle.std.specs.Prelude.{codes}
use Rattle.std.specs.Fmt.{decimal}
use Rattle.std.proofs.lemmas.Fmt.{decimal_is_IsNumeral, decimal_injective}
use Rattle.std.proofs.lemmas.List.{append_cancel_left}
use Rattle.board_text.specs.Ranges.{AreNumbers}
use Rattle.board_text.specs.Numerals.{spaced_texts, SpellsBelow}
use Rattle.board_text.specs.PlaceForms.{place_word, ArePlaceTexts}
use Rattle.board_text.specs.PlainBoard.{PlainBoard, IsBoard, IsConfiguration, places}
use Rattle.board_text.proofs.Cited.{small_numbers, few_places, texts_unique, words_are_texts, words_spell, same_words}
use Rattle.positions.specs.declared.claim.Claim.{Claim}
use Rattle.positions.specs.declared.turns.Turns.{Turns}
use Rattle.positions.specs.declared.turns.Turns.TheVariants.{Count, Always}
use Rattle.positions.specs.Table.{AnswerRow, RequestRow}
use Rattle.proof_text.specs.declared.fault.ProofKind.{ProofKind}
use Rattle.proof_text.specs.declared.fault.ProofKind.TheVariants as kinds
use Rattle.proof_text.specs.declared.proof.TheConstants.{MAX_TURNS}
use Rattle.proof_text.specs.Proof.{AreTurns, IsAnswerRow, IsRequestRow}
use Rattle.proof_text.specs.ProofText.{turns_text, answer_line, request_line}
use Rattle.proof_text.specs.RowWords.{AnswerWords, RequestWords, IsTurnsText, AreAnswerWords, AreRequestWords}
use Rattle.proof_text.specs.RowWords.{answer_words_line, request_words_line}
use Rattle.proof_text.specs.RowFaults.{AnswerMisread, RequestMisread, SpellConfiguration, SpellLabels, SpellsTurns}
use Rattle.proof_text.specs.SectionFaults.{RowReading, RowFault}
use Rattle.proof_text.specs.ProofFaults.{answers_read, requests_read, read_by_configurations, read_by_classes}
use Rattle.proof_text.proofs.OneStep.{OneReading, Line, Unless, one_line, one_unless}
use Rattle.proof_text.proofs.RowWords.{no_digit_space, no_digit_lf, turns_unique, position_unique, numerals_unique}
use Rattle.proof_text.proofs.RowWords.{answer_parts, request_parts}
use Rattle.proof_text.proofs.SpelledRows.{count_small, star_is_no_number}

-- ---- rows of either side

-- A text begins with one row at most or has one fault, and never both.
pub record RowLaws {X : Type 0} (reading : RowReading X) : Type 1 where
  pub few : reading.form.most < 2 ^ 32
  pub one : OneReading reading.form.IsRow reading.form.line
  pub one_kind : (MayStand : List ℕ → Type 0) (rest : List ℕ) (kind other : ProofKind)
      → RowFault reading MayStand rest kind → RowFault reading MayStand rest other → kind ≡ other
  pub sound : (MayStand : List ℕ → Type 0) (row : X) (rest more : List ℕ) (kind : ProofKind)
      → reading.form.IsRow row → MayStand (reading.form.at row) → rest ≡ reading.form.line row ++ more
      → RowFault reading MayStand rest kind → ⊥

-- This holds if the words are read in one way: they are misread, or they are those of a row.
module _ {X : Type 0} (reading : RowReading X) (few : reading.form.most < 2 ^ 32)
    (Read : List ℕ → Option ProofKind → Type 0)
    (one : OneReading reading.form.IsRow reading.form.line)
    (one_read : (rest : List ℕ) (v w : Option ProofKind) → Read rest v → Read rest w → v ≡ w)
    (misread : (rest : List ℕ) (kind : ProofKind) → reading.Misread rest kind → Read rest (Some kind))
    (right : (row : X) (rest more : List ℕ) → reading.form.IsRow row → rest ≡ reading.form.line row ++ more
    → Read rest None) where
  not_misread : (row : X) (rest more : List ℕ) (kind : ProofKind) → reading.form.IsRow row → rest
      ≡ reading.form.line row ++ more
      → reading.Misread rest kind → ⊥
  not_misread row rest more kind is e h =
      let same = one_read rest None (Some kind) (right row rest more is e) (misread rest kind h) in absurd cc

  module _ (MayStand : List ℕ → Type 0) (rest : List ℕ) where
    abbrev Fault : ProofKind → Type 0
    Fault kind = RowFault reading MayStand rest kind

    abbrev Early : ProofKind → Type 0
    Early kind = (kind ≡ kinds.Order)
        × ((row : X) × reading.form.IsRow row × (more : List ℕ) × (rest ≡ reading.form.line row ++ more)
        × ¬ MayStand (reading.form.at row))

    early_or_misread : (kind : ProofKind) → Fault kind → Early kind ⊎ reading.Misread rest kind
    early_or_misread kinds.Order h = inl (refl, h)
    early_or_misread kind h = inr h

    same_kind : (kind other : ProofKind) → Early kind ⊎ reading.Misread rest kind → Early other
        ⊎ reading.Misread rest other
        → kind ≡ other
    same_kind kind other (inl f) (inl g) = f.0 ∙ sym g.0
    same_kind kind other (inl (e, (row, is, more, stands, early))) (inr g) =
        absurd (not_misread row rest more other is stands g)
    same_kind kind other (inr f) (inl (e, (row, is, more, stands, early))) =
        absurd (not_misread row rest more kind is stands f)
    same_kind kind other (inr f) (inr g) =
        let same = one_read rest (Some kind) (Some other) (misread rest kind f) (misread rest other g) in cc

    one_kind : (kind other : ProofKind) → Fault kind → Fault other → kind ≡ other
    one_kind kind other f g = same_kind kind other (early_or_misread kind f) (early_or_misread other g)

    sound : (row : X) (more : List ℕ) (kind : ProofKind) → reading.form.IsRow row → MayStand (reading.form.at row)
        → rest ≡ reading.form.line row ++ more
        → Early kind ⊎ reading.Misread rest kind → ⊥
    sound row more kind is may e (inl (same, (other, is_other, after, f, early))) =
        early (subst (λ (r : X). MayStand (reading.form.at r)) (one row other more after is is_other (sym e ∙ f)).0 may)
    sound row more kind is may e (inr h) = not_misread row rest more kind is e h

  pub row_laws : RowLaws reading
  row_laws = record {
    few = few;
    one = one;
    one_kind = one_kind;
    sound = λ MayStand row rest more kind is may e h. sound MayStand rest row more kind is may e
        (early_or_misread MayStand rest kind h);
  }

-- ---- the words of a row that was written

pub same_places : (count bound labels : ℕ) (ms ns : List ℕ) → bound ≤ 2 ^ 32 → AreNumbers count bound ms
    → AreNumbers count bound ns
    → map (place_word labels) ms ≡ map (place_word labels) ns → ms ≡ ns
same_places count bound labels ms ns small are_ms are_ns e =
    same_words labels ms ns (small_numbers bound ms small are_ms.1) (small_numbers bound ns small are_ns.1) e

module _ (board : PlainBoard) (is_board : IsBoard board) where
  few_labels : board.labels ≤ 2 ^ 16
  few_labels = omega (arith, is_board.labels.1)

  pub few_all : places board ≤ 2 ^ 16
  few_all = omega (arith, few_places board is_board)

  pub position_texts : (at : List ℕ) → IsConfiguration board at
      → ArePlaceTexts board.pebbles board.labels (places board) (map (place_word board.labels) at)
  position_texts at is =
      words_are_texts board.pebbles board.labels (places board) at few_all (is.each_pebble, is.each_place)

  pub position_spelled : (at : List ℕ) → IsConfiguration board at
      → SpellConfiguration board (map (place_word board.labels) at)
  position_spelled at is = words_spell board.pebbles board.labels (places board) at (is.each_pebble, is.each_place)

  pub same_position : (at other : List ℕ) → IsConfiguration board at → IsConfiguration board other
      → map (place_word board.labels) at ≡ map (place_word board.labels) other → at ≡ other
  same_position at other is is_too e =
      same_places board.pebbles (places board) board.labels at other (omega (arith, few_all))
      (is.each_pebble, is.each_place) (is_too.each_pebble, is_too.each_place) e

-- ---- a labeller's row

turns_are_text : (claim : Claim) (turns : Turns) → AreTurns claim turns → IsTurnsText (turns_text turns)
turns_are_text claim (Count n) are = inl (decimal_is_IsNumeral n (omega (arith, count_small claim n are))).0
turns_are_text claim Always are = inr refl

same_turns : (claim : Claim) (t u : Turns) → AreTurns claim t → AreTurns claim u → turns_text t ≡ turns_text u → t ≡ u
same_turns claim (Count m) (Count n) p q e =
    ap Count (decimal_injective m n (omega (arith, count_small claim m p)) (omega (arith, count_small claim n q)) e)
same_turns claim (Count m) Always p q e = absurd (star_is_no_number m (omega (arith, count_small claim m p)) (sym e))
same_turns claim Always (Count n) p q e = absurd (star_is_no_number n (omega (arith, count_small claim n q)) e)
same_turns claim Always Always p q e = refl

one_answer_words : (pebbles labels bound : ℕ) → OneReading (AreAnswerWords pebbles labels bound) answer_words_line
one_answer_words pebbles labels bound first second x y p q e =
    let one = codes " take" ++ (spaced_texts first.take ++ 10 ∷ x) in
    let other = codes " take" ++ (spaced_texts second.take ++ 10 ∷ y) in
    let a = position_unique pebbles labels bound first.at second.at (first.turns ++ one)
    (second.turns ++ other) p.at q.at
    (sym (answer_parts first x) ∙ e ∙ answer_parts second y) in
    let t = turns_unique first.turns second.turns one other p.turns q.turns
    (inl (no_digit_space (codes "take" ++ (spaced_texts first.take ++ 10 ∷ x))))
    (no_digit_space (codes "take" ++ (spaced_texts second.take ++ 10 ∷ y))) a.1 in
    let s = texts_unique pebbles labels labels first.take second.take (10 ∷ x) (10 ∷ y) p.take q.take (no_digit_lf x)
    (no_digit_lf y)
    (append_cancel_left (codes " take") _ _ t.1) in
    let same : ◌≡◌ {A = AnswerWords} (record { at = first.at; turns = first.turns; take = first.take }) second =
    rw (a.0, t.0, s.0) refl in
    (same, append_cancel_left (10 ∷ []) x y s.1)

abbrev answer_words : PlainBoard → AnswerRow → AnswerWords
answer_words board row = record {
  at = map (place_word board.labels) row.at;
  turns = turns_text row.turns;
  take = map (place_word board.labels) row.answers;
}

-- The reading of a labeller's row: its words, whether they spell labels, and whether they spell turns.
abbrev AnswerRead : PlainBoard → Claim → List ℕ → Option ProofKind → Type 0
AnswerRead board claim rest found =
    Line (AreAnswerWords board.pebbles board.labels (places board)) answer_words_line rest (Some kinds.Row)
    (λ words more. Unless (Some kinds.Label) (SpellConfiguration board words.at × SpellLabels board words.take)
    (Unless (Some kinds.Number) (SpellsTurns claim words.turns) (λ v. v ≡ None)))
    found

answer_misread : (board : PlainBoard) (claim : Claim) (rest : List ℕ) (kind : ProofKind)
    → AnswerMisread board claim rest kind
    → AnswerRead board claim rest (Some kind)
answer_misread board claim rest kinds.Row h = inl (h, refl)
answer_misread board claim rest kinds.Label (words, (are, more, e), wrong) =
    inr (words, more, (are, e), inl (wrong, refl))
answer_misread board claim rest kinds.Number (words, (are, more, e), at, take, wrong) =
    inr (words, more, (are, e), inr ((at, take), inl (wrong, refl)))
answer_misread board claim rest kind h = absurd h

module _ (board : PlainBoard) (claim : Claim) (is_board : IsBoard board) where
  are_answer_words : (row : AnswerRow) → IsAnswerRow board claim row
      → AreAnswerWords board.pebbles board.labels (places board) (answer_words board row)
  are_answer_words row is = record {
    at = position_texts board is_board row.at is.at;
    turns = turns_are_text claim row.turns is.turns;
    take = words_are_texts board.pebbles board.labels board.labels row.answers (few_labels board is_board) is.answers;
  }

  one_answer : OneReading (IsAnswerRow board claim) (answer_line board)
  one_answer p q x y is_p is_q e =
      let s = one_answer_words board.pebbles board.labels (places board) (answer_words board p)
      (answer_words board q) x y
      (are_answer_words p is_p) (are_answer_words q is_q) e in
      let at = same_position board is_board p.at q.at is_p.at is_q.at (ap (λ (words : AnswerWords). words.at) s.0) in
      let turns = same_turns claim p.turns q.turns is_p.turns is_q.turns
      (ap (λ (words : AnswerWords). words.turns) s.0) in
      let answers = same_places board.pebbles board.labels board.labels p.answers q.answers
      (omega (arith, few_labels board is_board))
      is_p.answers is_q.answers
      (ap (λ (words : AnswerWords). words.take) s.0) in
      let same : ◌≡◌ {A = AnswerRow} (record { at = p.at; turns = p.turns; answers = p.answers }) q =
      rw (at, turns, answers) refl in
      (same, s.1)

  -- the reading of a labeller's row
  answer_once : (rest : List ℕ) (v w : Option ProofKind) → AnswerRead board claim rest v → AnswerRead board claim rest w
      → v ≡ w
  answer_once rest =
      one_line _ answer_words_line rest _ _ (one_answer_words board.pebbles board.labels (places board))
      (λ words more are. one_unless _ _ _ (one_unless _ _ _ (λ v w e f. e ∙ sym f)))

  answer_right : (row : AnswerRow) (rest more : List ℕ) → IsAnswerRow board claim row
      → rest ≡ answer_line board row ++ more → AnswerRead board claim rest None
  answer_right row rest more is e = inr (
    answer_words board row,
    more,
    (are_answer_words row is, e),
    inr (
      (
        position_spelled board is_board row.at is.at,
        words_spell board.pebbles board.labels board.labels row.answers is.answers,
      ),
      inr ((row.turns, is.turns, refl), refl),
    ),
  )

  pub answer_laws : RowLaws (answers_read (read_by_configurations board) claim)
  answer_laws =
      row_laws (answers_read (read_by_configurations board) claim) (omega arith) (AnswerRead board claim) one_answer
      answer_once
      (answer_misread board claim) answer_right

  pub class_answer_laws : RowLaws (answers_read (read_by_classes board) claim)
  class_answer_laws =
      row_laws (answers_read (read_by_classes board) claim) (omega arith) (AnswerRead board claim) one_answer
      answer_once
      (answer_misread board claim) answer_right

-- ---- an adversary's row

one_request_words : (pebbles labels bound : ℕ) → OneReading (AreRequestWords pebbles labels bound) request_words_line
one_request_words pebbles labels bound first second x y p q e =
    let one = codes " ask " ++ (first.ask ++ 10 ∷ x) in
    let other = codes " ask " ++ (second.ask ++ 10 ∷ y) in
    let a = position_unique pebbles labels bound first.at second.at (first.left ++ one) (second.left ++ other) p.at q.at
    (sym (request_parts first x) ∙ e ∙ request_parts second y) in
    let t = numerals_unique first.left second.left one other p.left q.left
    (no_digit_space (codes "ask " ++ (first.ask ++ 10 ∷ x)))
    (no_digit_space (codes "ask " ++ (second.ask ++ 10 ∷ y))) a.1 in
    let s = numerals_unique first.ask second.ask (10 ∷ x) (10 ∷ y) p.ask q.ask (no_digit_lf x) (no_digit_lf y)
    (append_cancel_left (codes " ask ") _ _ t.1) in
    let same : ◌≡◌ {A = RequestWords} (record { at = first.at; left = first.left; ask = first.ask }) second =
    rw (a.0, t.0, s.0) refl in
    (same, append_cancel_left (10 ∷ []) x y s.1)

abbrev request_words : PlainBoard → RequestRow → RequestWords
request_words board row =
    record { at = map (place_word board.labels) row.at; left = decimal row.left; ask = decimal row.request }

-- The reading of an adversary's row.
abbrev RequestRead : PlainBoard → List ℕ → Option ProofKind → Type 0
RequestRead board rest found =
    Line (AreRequestWords board.pebbles board.labels (places board)) request_words_line rest (Some kinds.Row)
    (λ words more. Unless (Some kinds.Label) (SpellConfiguration board words.at)
    (Unless (Some kinds.Pebble) (SpellsBelow board.pebbles words.ask)
    (Unless (Some kinds.Number) (SpellsBelow (MAX_TURNS + 1) words.left) (λ v. v ≡ None))))
    found

request_misread : (board : PlainBoard) (rest : List ℕ) (kind : ProofKind) → RequestMisread board rest kind
    → RequestRead board rest (Some kind)
request_misread board rest kinds.Row h = inl (h, refl)
request_misread board rest kinds.Label (words, (are, more, e), wrong) = inr (words, more, (are, e), inl (wrong, refl))
request_misread board rest kinds.Pebble (words, (are, more, e), at, wrong) =
    inr (words, more, (are, e), inr (at, inl (wrong, refl)))
request_misread board rest kinds.Number (words, (are, more, e), at, ask, wrong) =
    inr (words, more, (are, e), inr (at, inr (ask, inl (wrong, refl))))
request_misread board rest kind h = absurd h

module _ (board : PlainBoard) (is_board : IsBoard board) where
  small_left : (row : RequestRow) → IsRequestRow board row → row.left < 2 ^ 64
  small_left row is = omega (arith, is.left)

  small_request : (row : RequestRow) → IsRequestRow board row → row.request < 2 ^ 64
  small_request row is = omega (arith, is.request, is_board.pebbles.1)

  are_request_words : (row : RequestRow) → IsRequestRow board row
      → AreRequestWords board.pebbles board.labels (places board) (request_words board row)
  are_request_words row is = record {
    at = position_texts board is_board row.at is.at;
    left = (decimal_is_IsNumeral row.left (small_left row is)).0;
    ask = (decimal_is_IsNumeral row.request (small_request row is)).0;
  }

  one_request : OneReading (IsRequestRow board) (request_line board)
  one_request p q x y is_p is_q e =
      let s = one_request_words board.pebbles board.labels (places board) (request_words board p)
      (request_words board q) x y
      (are_request_words p is_p) (are_request_words q is_q) e in
      let at = same_position board is_board p.at q.at is_p.at is_q.at (ap (λ (words : RequestWords). words.at) s.0) in
      let left = decimal_injective p.left q.left (small_left p is_p) (small_left q is_q)
      (ap (λ (words : RequestWords). words.left) s.0) in
      let ask = decimal_injective p.request q.request (small_request p is_p) (small_request q is_q)
      (ap (λ (words : RequestWords). words.ask) s.0) in
      let same : ◌≡◌ {A = RequestRow} (record { at = p.at; left = p.left; request = p.request }) q =
      rw (at, left, ask) refl in
      (same, s.1)

  pub request_laws : (claim : Claim) → RowLaws (requests_read (read_by_configurations board) claim)
  request_laws claim =
      row_laws (requests_read (read_by_configurations board) claim) (omega arith) (RequestRead board) one_request
      (λ rest. one_line _ request_words_line rest _ _ (one_request_words board.pebbles board.labels (places board))
      (λ words more are. one_unless _ _ _ (one_unless _ _ _ (one_unless _ _ _ (λ v w e f. e ∙ sym f)))))
      (request_misread board)
      (λ row rest more is e. inr (
        request_words board row,
        more,
        (are_request_words row is, e),
        inr (
          position_spelled board is_board row.at is.at,
          inr ((row.request, is.request, refl), inr ((row.left, omega (arith, is.left), refl), refl)),
        ),
      ))
