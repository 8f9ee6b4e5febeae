-- From the words of an adversary's row by classes to the row, or to its fault.
use Rattle.std.proofs.Common.{◌≡◌, ℕ, ◌+◌, ◌^◌, ◌<◌, ◌≤◌, ◌⊎◌, Bool, true, false, true≢false, ◌==◌, List, [], ◌∷◌, ◌++◌}
use Rattle.std.proofs.Common.{Option, Some, None, length, map, take, drop, get_or, All, Contains, refl, sym, ap}
use Rattle.std.proofs.Common.{subst, ◌∙◌, arith, inl, inr}
use Rattle.std.proofs.lemmas.List.{length-map, length-take, take_at, get_or-map, get_or_default}
use Rattle.std.proofs.lemmas.List.Elements.{All-head, All-cons, All-nil}
use Rattle.std.proofs.lemmas.Bool.{eq-eqb, eqb-true}
use Rattle.std.specs.List.{list_any}
use Rattle.std.proofs.lemmas.List.Folds.{list_any_at, Any-from_list_any}
use Rattle.std.specs.Prelude.{not, codes}
use Rattle.board_text.specs.Numerals.{spaced_texts}
use Rattle.board_text.specs.LineForms.{with_line_feed}
use Rattle.board_text.specs.Ranges.{AreNumbers}
use Rattle.board_text.specs.PlaceForms.{place_word, spaced_places, SpellPlaces}
use Rattle.board_text.specs.PlainBoard.{PlainBoard, IsBoard, IsConfiguration, places}
use Rattle.board_text.proofs.Cited.{same_words, few_places, small_numbers}
use Rattle.positions.specs.declared.claim.Claim.{Claim}
use Rattle.positions.specs.Table.{RequestRow}
use Rattle.proof_text.specs.declared.class_proof.AdversaryClassRow.{AdversaryClassRow}
use Rattle.proof_text.specs.declared.fault.ProofKind.TheVariants as kinds
use Rattle.proof_text.specs.declared.proof.TheConstants.{MAX_TURNS}
use Rattle.proof_text.specs.declared.row_words.ClassRequestValues.{ClassRequestValues}
use Rattle.proof_text.specs.ClassProof.{IsClassRequestRow, class_request_row}
use Rattle.proof_text.specs.ProofText.{class_request_line}
use Rattle.proof_text.specs.RowFaults.{ClassRequestMisread, IsAskedAmong}
use Rattle.proof_text.specs.RowWords.{ClassRequestWords, AreClassRequestWords, class_request_words_line}
use Rattle.proof_text.specs.Inside.Reading.{ClassRequestSpelled, NumberOf}
use Rattle.proof_text.specs.Inside.Rows.{class_adversary_form}
use Rattle.proof_text.proofs.OneClassRow.{word_among}
use Rattle.proof_text.proofs.RowLemmas.{RowRead, six_zeros, padded, misread, well_read, all_spelled, places_count}

-- a list of one number
one_is : (xs : List ℕ) → length xs ≡ 1 → xs ≡ get_or xs 0 0 ∷ []
one_is [] long = absurd (omega arith)
one_is (x ∷ []) long = refl
one_is (x ∷ y ∷ xs) long = absurd (omega arith)

-- whether a place is among others
pub is_among : (at : List ℕ) (place : ℕ) → list_any (λ other. other == place) at ≡ true → Contains at place
is_among at place told =
    let found = Any-from_list_any (λ other. other == place) at told in
    let same : found.1 ≡ place = eqb-true found.1 place found.4 in
    (found.0, found.2, get_or_default at found.0 place found.1 found.2 ∙ found.3 ∙ same)

pub not_among : (at : List ℕ) (place : ℕ) → list_any (λ other. other == place) at ≡ false → ¬ Contains at place
not_among at place told (k, inside, is) =
    true≢false (sym (list_any_at (λ other. other == place) at k place inside (eq-eqb (get_or at k place) place is))
    ∙ told)

-- a place whose word is among the words of places is one of them
among_word : (labels bound : ℕ) (at : List ℕ) (place : ℕ) → bound ≤ 2 ^ 32 → All (λ p. p < bound) at → place < bound
    → Contains (map (place_word labels) at) (place_word labels place) → Contains at place
among_word labels bound at place small each low (k, inside, is) =
    let at_k : ℕ = get_or at k place in
    let there : k < length at = omega (arith, inside, length-map at (place_word labels)) in
    let word : place_word labels at_k ≡ place_word labels place =
    sym (get_or-map (place_word labels) at k place (place_word labels place) there) ∙ is in
    let one : All (λ p. p < bound) (at_k ∷ []) =
    All-cons (λ p. p < bound) at_k [] (each k place there) (All-nil (λ p. p < bound)) in
    let other : All (λ p. p < bound) (place ∷ []) =
    All-cons (λ p. p < bound) place [] low (All-nil (λ p. p < bound)) in
    let same : at_k ∷ [] ≡ place ∷ [] =
    same_words labels (at_k ∷ []) (place ∷ []) (small_numbers bound (at_k ∷ []) small one)
    (small_numbers bound (place ∷ []) small other) (λ i. word i ∷ []) in
    (k, there, ap (λ (l : List ℕ). get_or l 0 0) same)

pub record ClassRequestTaken (board : PlainBoard) (values : ClassRequestValues) (at asked old new : List ℕ) : Type 0
  where
    words : ClassRequestWords
    are : AreClassRequestWords board.pebbles board.labels (places board) words
    stands : old ≡ class_request_words_line words ++ new
    spell : ClassRequestSpelled board.labels (places board) words values at asked

pub class_request_taken : (board : PlainBoard) {pebbles labels bound : ℕ} {values : ClassRequestValues}
    {at asked old new : List ℕ}
    → IsBoard board → pebbles ≡ board.pebbles → labels ≡ board.labels → bound ≡ places board
    → (words : ClassRequestWords) × AreClassRequestWords (length (take pebbles six_zeros)) labels bound words
    × (old ≡ class_request_words_line words ++ new)
    × ClassRequestSpelled labels bound words values at asked
    → ClassRequestTaken board values at asked old new
class_request_taken board {pebbles} is_board e f g (words, are, stands, spell) =
    let count : length (take pebbles six_zeros) ≡ board.pebbles =
    omega (arith, length-take pebbles six_zeros, e, is_board.pebbles.1) in
    record { words = words; are = rw (← g, ← f, ← count) are; stands = stands; spell = rw (← g, ← f) spell }

module _ {board : PlainBoard} {values : ClassRequestValues} {at asked old new : List ℕ}
    (taken : ClassRequestTaken board values at asked old new) where
  abbrev StandsAt : Bool → Type 0
  StandsAt right = SpellPlaces board.labels (places board) taken.words.at right at

  abbrev AsksFor : Bool → Type 0
  AsksFor right = SpellPlaces board.labels (places board) taken.words.ask right asked

  pub class_request_label : (not values.are_places ≡ true) ⊎ (not values.is_place ≡ true)
      → ClassRequestMisread board old kinds.Label
  class_request_label wrong = (
    taken.words,
    (taken.are, new, taken.stands),
    λ all. elim wrong [
      | inl places ↦ misread StandsAt values.are_places taken.spell.places places all.0
      | inr place ↦ misread AsksFor values.is_place taken.spell.ask place all.1
    ],
  )

  module _ (placed : not values.are_places ≡ false) (asks : not values.is_place ≡ false) where
    place_read : StandsAt true
    place_read = well_read StandsAt values.are_places taken.spell.places placed

    ask_read : AsksFor true
    ask_read = well_read AsksFor values.is_place taken.spell.ask asks

    place_count : AreNumbers board.pebbles (places board) at
    place_count = places_count board.labels (places board) taken.words.at at place_read taken.are.at.0

    ask_count : AreNumbers 1 (places board) asked
    ask_count = places_count board.labels (places board) taken.words.ask asked ask_read taken.are.ask.0

    ask_is : asked ≡ get_or asked 0 0 ∷ []
    ask_is = one_is asked ask_count.0

    pub class_request_position : IsConfiguration board at
    class_request_position = record { each_pebble = place_count.0; each_place = place_count.1 }

    pub class_request_held : (pebbles : ℕ) → pebbles ≡ board.pebbles → take pebbles (at ++ drop pebbles six_zeros) ≡ at
    class_request_held pebbles e = take_at at (drop pebbles six_zeros) pebbles (place_count.0 ∙ sym e)

    -- the words of places say the same as the places
    asked_among : IsAskedAmong taken.words → (is_board : IsBoard board) → Contains at (get_or asked 0 0)
    asked_among among is_board =
        let small : places board ≤ 2 ^ 32 = omega (arith, few_places board is_board) in
        let word : List ℕ = place_word board.labels (get_or asked 0 0) in
        let ask : taken.words.ask ≡ word ∷ [] =
        ask_read.1 ∙ ap (map (place_word board.labels)) ask_is in
        let here : Contains (map (place_word board.labels) at) word =
        subst (λ (l : List (List ℕ)). Contains l word) place_read.1
        (All-head (Contains taken.words.at) word [] (subst (All (Contains taken.words.at)) ask among)) in
        among_word board.labels (places board) at (get_or asked 0 0) small place_count.1
        (All-head (λ place. place < places board) (get_or asked 0 0) []
        (subst (All (λ place. place < places board)) ask_is ask_count.1)) here

    pub class_request_pebble : IsBoard board → ¬ Contains at (get_or asked 0 0)
        → ClassRequestMisread board old kinds.Pebble
    class_request_pebble is_board not_held = (
      taken.words,
      (taken.are, new, taken.stands),
      (
        all_spelled board.labels (places board) taken.words.at at place_read,
        all_spelled board.labels (places board) taken.words.ask asked ask_read,
      ),
      λ among. not_held (asked_among among is_board),
    )

    module _ (held : Contains at (get_or asked 0 0)) where
      asked_stands : IsAskedAmong taken.words
      asked_stands =
          let word : List ℕ = place_word board.labels (get_or asked 0 0) in
          let ask : taken.words.ask ≡ word ∷ [] = ask_read.1 ∙ ap (map (place_word board.labels)) ask_is in
          let here : Contains taken.words.at word =
          subst (λ (l : List (List ℕ)). Contains l word) (sym place_read.1)
          (word_among board.labels at (get_or asked 0 0) held) in
          subst (All (Contains taken.words.at)) (sym ask)
          (All-cons (Contains taken.words.at) word [] here (All-nil (Contains taken.words.at)))

      pub class_request_number : values.left ≡ None → ClassRequestMisread board old kinds.Number
      class_request_number none = (
        taken.words,
        (taken.are, new, taken.stands),
        (
          all_spelled board.labels (places board) taken.words.at at place_read,
          all_spelled board.labels (places board) taken.words.ask asked ask_read,
        ),
        asked_stands,
        subst (λ (n : Option ℕ). NumberOf (MAX_TURNS + 1) taken.words.left n) none taken.spell.number,
      )

      request_read : (left : ℕ) → values.left ≡ Some left
          → IsClassRequestRow board (record { at = at; left = left; request = get_or asked 0 0 })
          × (old ≡ class_request_line board (record { at = at; left = left; request = get_or asked 0 0 }) ++ new)
      request_read left some =
          let n : NumberOf (MAX_TURNS + 1) taken.words.left (Some left) =
          subst (λ (m : Option ℕ). NumberOf (MAX_TURNS + 1) taken.words.left m) some taken.spell.number in
          let asks : spaced_texts taken.words.ask ≡ spaced_places board.labels (get_or asked 0 0 ∷ []) =
          ap spaced_texts (ask_read.1 ∙ ap (map (place_word board.labels)) ask_is) in (
            record { at = class_request_position; left = omega (arith, n.0); request = held },
            taken.stands ∙ (λ i. with_line_feed (codes "at" ++ (spaced_texts (place_read.1 i)
                ++ (codes " for " ++ (n.1 i ++ (codes " ask" ++ asks i))))) ++ new),
          )

      pub padded_request : (claim : Claim) (left pebbles : ℕ) → values.left ≡ Some left → pebbles ≡ board.pebbles
          → RowRead (class_adversary_form board claim)
          (record { at = at ++ drop pebbles six_zeros; left = left; ask = get_or asked 0 0 })
          old new
      padded_request claim left pebbles some e =
          let read = request_read left some in
          let zeros = drop pebbles six_zeros in
          let row : AdversaryClassRow = record { at = at ++ zeros; left = left; ask = get_or asked 0 0 } in
          let same : class_request_row board row ≡ record { at = at; left = left; request = get_or asked 0 0 } =
          rw (take_at at zeros board.pebbles read.0.at.each_pebble) refl in
          record {
            is = (
              subst (λ (r : RequestRow). IsClassRequestRow board r) (sym same) read.0,
              padded at zeros board.pebbles pebbles read.0.at.each_pebble refl,
            );
            spelled = subst (λ (r : RequestRow). old ≡ class_request_line board r ++ new) (sym same) read.1;
          }
