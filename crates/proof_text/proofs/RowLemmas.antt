-- From the words of a row to the row, or to its fault.
use Rattle.std.proofs.Common.{◌≡◌, ℕ, ◌+◌, ◌-◌, ◌^◌, ◌<◌, ◌≤◌, ◌⊎◌, Bool, true, false, List, [], ◌∷◌, ◌++◌, Option}
use Rattle.std.proofs.Common.{Some, cond, suc, None, length, take, drop, get_or, slice_index, All, refl, sym, ap, subst}
use Rattle.std.proofs.Common.{◌∙◌, append_assoc, arith, inl, inr}
use Rattle.std.proofs.lemmas.List.{length-map, length-take, take_at, get_or-append_right, get_or-drop, get_or-replicate}
use Rattle.std.proofs.lemmas.List.{get_or_past}
use Rattle.std.proofs.lemmas.Bool.{cases_lt}
use Rattle.std.specs.Prelude.{not, Result, Ok, Err, OnOk}
use Rattle.board_text.specs.LineForms.{with_line_feed}
use Rattle.board_text.specs.Ranges.{AreNumbers}
use Rattle.board_text.specs.PlaceForms.{place_word, SpellsPlace, SpellPlaces}
use Rattle.board_text.specs.PlainBoard.{PlainBoard, IsBoard, IsConfiguration, places}
use Rattle.board_text.proofs.Cited.{words_spell}
use Rattle.positions.specs.declared.claim.Claim.{Claim}
use Rattle.positions.specs.declared.turns.Turns.{Turns}
use Rattle.positions.specs.Table.{AnswerRow}
use Rattle.positions.specs.Ranks.{rank_of, configuration_at}
use Rattle.positions.proofs.Cited.{configuration_at-rank_of}
use Rattle.proof_text.specs.declared.class_proof.LabellerClassRow.{LabellerClassRow}
use Rattle.proof_text.specs.declared.fault.ProofKind.TheVariants as kinds
use Rattle.proof_text.specs.declared.proof.TheConstants.{MAX_TURNS}
use Rattle.proof_text.specs.declared.row_words.AnswerValues.{AnswerValues}
use Rattle.proof_text.specs.declared.row_words.RequestValues.{RequestValues}
use Rattle.proof_text.specs.ClassProof.{class_answer_row}
use Rattle.proof_text.specs.Proof.{IsAnswerRow, IsRequestRow, answer_row}
use Rattle.proof_text.specs.ProofText.{answer_line, request_line}
use Rattle.proof_text.specs.RowFaults.{AnswerMisread, RequestMisread}
use Rattle.proof_text.specs.RowForm.{RowForm, next_number}
use Rattle.proof_text.specs.SectionFaults.{RowReading, RowFault}
use Rattle.proof_text.specs.RowWords.{AnswerWords, RequestWords, AreAnswerWords, AreRequestWords, answer_words_line}
use Rattle.proof_text.specs.RowWords.{request_words_line}
use Rattle.proof_text.specs.Inside.Reading.{AnswerSpelled, RequestSpelled, TurnsOf, NumberOf}
use Rattle.proof_text.specs.Inside.Rows.{IsFrom, NextRow, TakesAnswer, labeller_form, adversary_form}

-- ---- places on the stack

abbrev pub six_zeros : List ℕ
six_zeros = 0 ∷ 0 ∷ 0 ∷ 0 ∷ 0 ∷ 0 ∷ []

zero_at : (place : ℕ) → get_or six_zeros place 0 ≡ 0
zero_at place =
    elim (cases_lt place 6) [
      | inl lt ↦ get_or-replicate 6 place 0 0 lt
      | inr past ↦ get_or_past six_zeros place 0 past
    ]

zero_behind : (n place : ℕ) → get_or (drop n six_zeros) place 0 ≡ 0
zero_behind n place = get_or-drop n six_zeros place 0 ∙ zero_at (n + place)

-- zeros after the places
pub padded : (xs zeros : List ℕ) (count n : ℕ) → length xs ≡ count → zeros ≡ drop n six_zeros
    → (pebble : ℕ) → count ≤ pebble → slice_index (xs ++ zeros) pebble ≡ 0
padded xs zeros count n long is pebble beyond =
    get_or-append_right xs zeros count pebble 0 long beyond
    ∙ ap (λ (l : List ℕ). get_or l (pebble - count) 0) is ∙ zero_behind n (pebble - count)

-- ---- places and rows that were read

-- a test whose negation is true is false
pub misread : (Told : Bool → Type 0) (test : Bool) → Told test → not test ≡ true → Told false
misread Told false told e = told
misread Told true told e = absurd cc

pub well_read : (Told : Bool → Type 0) (test : Bool) → Told test → not test ≡ false → Told true
well_read Told true told e = told
well_read Told false told e = absurd cc

module _ (labels bound : ℕ) (texts : List (List ℕ)) (places : List ℕ)
    (spell : SpellPlaces labels bound texts true places) where
  pub all_spelled : All (SpellsPlace labels bound) texts
  all_spelled = rw spell.1 (words_spell (length places) labels bound places (refl, spell.0))

  pub places_count : {count : ℕ} → length texts ≡ count → AreNumbers count bound places
  places_count e = (sym (length-map places (place_word labels)) ∙ ap length (sym spell.1) ∙ e, spell.0)

-- the text begins with the line of a row
pub record RowRead {X : Type 0} (form : RowForm X) (row : X) (old new : List ℕ) : Type 0 where
  pub is : form.IsRow row
  pub spelled : old ≡ form.line row ++ new

-- ---- the order of rows

module _ {R : Type 0} (reading : RowReading R) (least : ℕ) {row : R} {old new : List ℕ}
    (read : RowRead reading.form row old new)
    (held : List ℕ) (held_is : held ≡ reading.form.at row) where
  order_fault : ¬ IsFrom reading.form least held → RowFault reading (IsFrom reading.form least) old kinds.Order
  order_fault not = (row, read.is, new, read.spelled, subst (λ l. ¬ IsFrom reading.form least l) held_is not)

  -- the places aren't in order
  pub row_unordered : ¬ reading.form.AreInOrder held → RowFault reading (IsFrom reading.form least) old kinds.Order
  row_unordered differs = order_fault (λ from. differs from.in_order)

  module _ (number : ℕ) (is : number ≡ reading.form.number held) where
    -- the places have too small a number
    pub row_early : number < least → RowFault reading (IsFrom reading.form least) old kinds.Order
    row_early early = order_fault (λ from. omega (arith, is, early, from.above))

    -- the row stands there, and the rows ascend
    pub row_next : reading.form.strict ≡ true → reading.form.AreInOrder held → number < 2 ^ 63 → least ≤ number
        → NextRow reading least (number + 1) (Ok row) old new
    row_next strict in_order few above =
        let from : IsFrom reading.form least held = record { in_order = in_order; above = omega (arith, is, above) } in
        let same : number ≡ reading.form.number (reading.form.at row) = is ∙ ap reading.form.number held_is in
        let above : next_number reading.form (reading.form.number (reading.form.at row))
        ≡ suc (reading.form.number (reading.form.at row)) =
        ap (λ (b : Bool). cond b (suc (reading.form.number (reading.form.at row)))
        (reading.form.number (reading.form.at row))) strict in (
          read.is,
          subst (IsFrom reading.form least) held_is from,
          omega (arith, same, above),
          omega (arith, few),
          read.spelled,
        )

-- ---- a labeller's row

-- the words of the row were taken, and they spell these values
pub record AnswerTaken (board : PlainBoard) (claim : Claim) (values : AnswerValues)
    (at answers old new : List ℕ) : Type 0 where
  words : AnswerWords
  are : AreAnswerWords board.pebbles board.labels (places board) words
  stands : old ≡ answer_words_line words ++ new
  spell : AnswerSpelled board.labels (places board) claim words values at answers

pub answer_taken : (board : PlainBoard) {pebbles labels bound : ℕ} {claim : Claim} {values : AnswerValues}
    {at answers old new : List ℕ}
    → IsBoard board → pebbles ≡ board.pebbles → labels ≡ board.labels → bound ≡ places board
    → (words : AnswerWords) × AreAnswerWords (length (take pebbles six_zeros)) labels bound words
    × (old ≡ answer_words_line words ++ new)
    × AnswerSpelled labels bound claim words values at answers
    → AnswerTaken board claim values at answers old new
answer_taken board {pebbles} is_board e f g (words, are, stands, spell) =
    let count : length (take pebbles six_zeros) ≡ board.pebbles =
    omega (arith, length-take pebbles six_zeros, e, is_board.pebbles.1) in
    record { words = words; are = rw (← g, ← f, ← count) are; stands = stands; spell = rw (← g, ← f) spell }

module _ {board : PlainBoard} {claim : Claim} {values : AnswerValues} {at answers old new : List ℕ}
    (taken : AnswerTaken board claim values at answers old new) where
  -- whether the words spell these places and these answers
  abbrev PlacesAre : Bool → Type 0
  PlacesAre right = SpellPlaces board.labels (places board) taken.words.at right at

  abbrev AnswersAre : Bool → Type 0
  AnswersAre right = SpellPlaces board.labels board.labels taken.words.take right answers

  pub answer_label : (not values.are_places ≡ true) ⊎ (not values.are_answers ≡ true)
      → AnswerMisread board claim old kinds.Label
  answer_label wrong = (
    taken.words,
    (taken.are, new, taken.stands),
    λ all. elim wrong [
      | inl places ↦ misread PlacesAre values.are_places taken.spell.places places all.0
      | inr labels ↦ misread AnswersAre values.are_answers taken.spell.taken labels all.1
    ],
  )

  module _ (placed : not values.are_places ≡ false) (labelled : not values.are_answers ≡ false) where
    at_read : PlacesAre true
    at_read = well_read PlacesAre values.are_places taken.spell.places placed

    take_read : AnswersAre true
    take_read = well_read AnswersAre values.are_answers taken.spell.taken labelled

    pub answer_number : values.turns ≡ None
        → AnswerMisread board claim old kinds.Number
    answer_number none = (
      taken.words,
      (taken.are, new, taken.stands),
      all_spelled board.labels (places board) taken.words.at at at_read,
      all_spelled board.labels board.labels taken.words.take answers take_read,
      subst (λ (t : Option Turns). TurnsOf claim taken.words.turns t) none taken.spell.turns,
    )

    answer_read : (turns : Turns) → values.turns ≡ Some turns
        → IsAnswerRow board claim (record { at = at; turns = turns; answers = answers })
        × (old ≡ answer_line board (record { at = at; turns = turns; answers = answers }) ++ new)
    answer_read turns some =
        let is_at = places_count board.labels (places board) taken.words.at at at_read taken.are.at.0 in
        let n : TurnsOf claim taken.words.turns (Some turns) =
        subst (λ (t : Option Turns). TurnsOf claim taken.words.turns t) some taken.spell.turns in (
          record {
            at = record { each_pebble = is_at.0; each_place = is_at.1 };
            turns = n.0;
            answers = places_count board.labels board.labels taken.words.take answers take_read taken.are.take.0;
          },
          rw (← at_read.1, ← n.1, ← take_read.1) taken.stands,
        )

    -- the row read has the places and the answers, and zeros after them
    pub padded_answer : (turns : Turns) (pebbles : ℕ) → values.turns ≡ Some turns → pebbles ≡ board.pebbles
        → TakesAnswer board claim
        (Ok (record { at = at ++ drop pebbles six_zeros; turns = turns; take = answers ++ drop pebbles six_zeros }))
        old new
    padded_answer turns pebbles some e =
        let read = answer_read turns some in
        let zeros = drop pebbles six_zeros in
        let row : LabellerClassRow = record { at = at ++ zeros; turns = turns; take = answers ++ zeros } in
        let same : class_answer_row board row ≡ record { at = at; turns = turns; answers = answers } =
        rw (
          take_at at zeros board.pebbles read.0.at.each_pebble,
          take_at answers zeros board.pebbles read.0.answers.0,
        ) refl in (
          subst (λ (r : AnswerRow). IsAnswerRow board claim r) (sym same) read.0,
          (
            padded at zeros board.pebbles pebbles read.0.at.each_pebble refl,
            padded answers zeros board.pebbles pebbles read.0.answers.0 refl,
          ),
          subst (λ (r : AnswerRow). old ≡ answer_line board r ++ new) (sym same) read.1,
        )

-- the row of the rank of the places that were read
pub ranked_answer : (board : PlainBoard) (claim : Claim) (row : LabellerClassRow) (old new : List ℕ) (rank : ℕ)
    → TakesAnswer board claim (Ok row) old new → rank ≡ rank_of board (take board.pebbles row.at)
    → RowRead (labeller_form board claim) (record { at = rank; turns = row.turns; take = row.take }) old new
ranked_answer board claim row old new rank (is, padded, spelled) ranked =
    let same : configuration_at board rank ≡ take board.pebbles row.at =
    ap (configuration_at board) ranked ∙ configuration_at-rank_of board (take board.pebbles row.at) is.at in
    let seen : answer_row board (record { at = rank; turns = row.turns; take = row.take })
    ≡ class_answer_row board row = rw same refl in
    record {
      is = (subst (λ (r : AnswerRow). IsAnswerRow board claim r) (sym seen) is, padded.1);
      spelled = subst (λ (r : AnswerRow). old ≡ answer_line board r ++ new) (sym seen) spelled;
    }

-- ---- an adversary's row

-- the rank of the first places is that of the configuration that was read into them
rank_read : (board : PlainBoard) (at behind : List ℕ) (pebbles rank : ℕ) → IsConfiguration board at
    → pebbles ≡ board.pebbles
    → rank ≡ rank_of board (take pebbles (at ++ behind)) → configuration_at board rank ≡ at
rank_read board at behind pebbles rank is e ranked =
    rw (ranked, take_at at behind pebbles (is.each_pebble ∙ sym e)) (configuration_at-rank_of board at is)

pub record RequestTaken (board : PlainBoard) (values : RequestValues) (at old new : List ℕ) : Type 0 where
  words : RequestWords
  are : AreRequestWords board.pebbles board.labels (places board) words
  stands : old ≡ request_words_line words ++ new
  spell : RequestSpelled board.labels (places board) board.pebbles words values at

pub request_taken : (board : PlainBoard) {pebbles labels bound : ℕ} {values : RequestValues} {at old new : List ℕ}
    → pebbles ≡ board.pebbles
    → labels ≡ board.labels → bound ≡ places board
    → (words : RequestWords) × AreRequestWords pebbles labels bound words × (old ≡ request_words_line words ++ new)
    × RequestSpelled labels bound pebbles words values at
    → RequestTaken board values at old new
request_taken board e f g (words, are, stands, spell) =
    record { words = words; are = rw (← g, ← f, ← e) are; stands = stands; spell = rw (← g, ← f, ← e) spell }

module _ {board : PlainBoard} {values : RequestValues} {at old new : List ℕ}
    (taken : RequestTaken board values at old new) where
  abbrev StandsAt : Bool → Type 0
  StandsAt right = SpellPlaces board.labels (places board) taken.words.at right at

  pub request_label : not values.are_places ≡ true
      → RequestMisread board old kinds.Label
  request_label wrong =
      (taken.words, (taken.are, new, taken.stands), misread StandsAt values.are_places taken.spell.places wrong)

  module _ (placed : not values.are_places ≡ false) where
    place_read : StandsAt true
    place_read = well_read StandsAt values.are_places taken.spell.places placed

    pub request_pebble : values.ask ≡ None
        → RequestMisread board old kinds.Pebble
    request_pebble none = (
      taken.words,
      (taken.are, new, taken.stands),
      all_spelled board.labels (places board) taken.words.at at place_read,
      subst (λ (n : Option ℕ). NumberOf board.pebbles taken.words.ask n) none taken.spell.pebble,
    )

    module _ (ask : ℕ) (some_ask : values.ask ≡ Some ask) where
      pebble_read : NumberOf board.pebbles taken.words.ask (Some ask)
      pebble_read = subst (λ (n : Option ℕ). NumberOf board.pebbles taken.words.ask n) some_ask taken.spell.pebble

      pub request_number : values.left ≡ None
          → RequestMisread board old kinds.Number
      request_number none = (
        taken.words,
        (taken.are, new, taken.stands),
        all_spelled board.labels (places board) taken.words.at at place_read,
        (ask, pebble_read.0, pebble_read.1),
        subst (λ (n : Option ℕ). NumberOf (MAX_TURNS + 1) taken.words.left n) none taken.spell.number,
      )

      request_read : (left : ℕ) → values.left ≡ Some left
          → IsRequestRow board (record { at = at; left = left; request = ask })
          × (old ≡ request_line board (record { at = at; left = left; request = ask }) ++ new)
      request_read left some =
          let is_at = places_count board.labels (places board) taken.words.at at place_read taken.are.at.0 in
          let n : NumberOf (MAX_TURNS + 1) taken.words.left (Some left) =
          subst (λ (m : Option ℕ). NumberOf (MAX_TURNS + 1) taken.words.left m) some taken.spell.number in (
            record {
              at = record { each_pebble = is_at.0; each_place = is_at.1 };
              left = omega (arith, n.0);
              request = pebble_read.0;
            },
            rw (← place_read.1, ← n.1, ← pebble_read.1) taken.stands,
          )

      pub ranked_request : (claim : Claim) (left pebbles rank : ℕ) → values.left ≡ Some left → pebbles ≡ board.pebbles
          → rank ≡ rank_of board (take pebbles (at ++ drop pebbles six_zeros))
          → RowRead (adversary_form board claim) (record { at = rank; left = left; ask = ask }) old new
      ranked_request claim left pebbles rank some e ranked =
          let read = request_read left some in
          let same = rank_read board at (drop pebbles six_zeros) pebbles rank read.0.at e ranked in
          record { is = (rw same read.0, tt); spelled = rw same read.1 }

-- ---- a line that is written

-- the line is written part by part, and has its line feed unless it is out of memory
pub line_written : {T E : Type 0} (r : Result T E) (a b c d e f t0 t1 t2 t3 t4 t5 t6 t7 : List ℕ) → t1 ≡ t0 ++ a
    → t2 ≡ t1 ++ b
    → t3 ≡ t2 ++ c → t4 ≡ t3 ++ d → t5 ≡ t4 ++ e → t6 ≡ t5 ++ f → OnOk r (t7 ≡ t6 ++ 10 ∷ [])
    → OnOk r (t7 ≡ t0 ++ with_line_feed (a ++ (b ++ (c ++ (d ++ (e ++ f))))))
line_written (Ok x) a b c d e f t0 t1 t2 t3 t4 t5 t6 t7 p q r s t u v = rw (v, u, t, s, r, q, p) (simp append_assoc)
line_written (Err x) a b c d e f t0 t1 t2 t3 t4 t5 t6 t7 p q r s t u v = tt
