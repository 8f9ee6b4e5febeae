-- The words of a row are taken apart.
use Rattle.std.proofs.Common.{◌≡◌, ℕ, ◌⊎◌, List, [], ◌∷◌, ◌++◌, get_or, sym, ap, ◌∙◌, append_assoc, arith, inl, inr}
use Rattle.std.specs.Prelude.{codes}
use Rattle.std.specs.Str.Parse.{IsNumeral}
use Rattle.std.specs.Char.{IsAsciiDigit}
use Rattle.std.proofs.lemmas.Str.Parse.{tells_digits}
use Rattle.std.proofs.lemmas.List.{append_cancel_left, append-nil}
use Rattle.board_text.specs.LineForms.{NoDigit}
use Rattle.board_text.specs.Numerals.{spaced_texts}
use Rattle.board_text.specs.PlaceForms.{ArePlaceTexts}
use Rattle.board_text.proofs.Cited.{digits_split, texts_unique}
use Rattle.proof_text.specs.RowWords.{AnswerWords, RequestWords, IsTurnsText, answer_words_line, request_words_line}
use Rattle.proof_text.specs.RowWords.{ClassRequestWords, class_request_words_line}
use Rattle.proof_text.specs.Inside.Reading.{position_text}

-- a space and a line feed are no digits
pub no_digit_space : (more : List ℕ) → NoDigit (32 ∷ more)
no_digit_space more = λ h. omega (arith, h.0)

pub no_digit_lf : (more : List ℕ) → NoDigit (10 ∷ more)
no_digit_lf more = λ h. omega (arith, h.0)

-- digits don't begin with a star
pub no_star : (digits x y : List ℕ) → IsNumeral 10 digits → digits ++ x ≡ 42 ∷ y → ⊥
no_star [] x y is e = omega (arith, is.0)
no_star (d ∷ digits) x y is e =
    let first : d ≡ 42 = ap (λ (t : List ℕ). get_or t 0 0) e in
    let digit : IsAsciiDigit d = (tells_digits.parts d digits is.1).0 in
    omega (arith, first, digit.0)

pub numerals_unique : (ds es x y : List ℕ) → IsNumeral 10 ds → IsNumeral 10 es → NoDigit x → NoDigit y
    → ds ++ x ≡ es ++ y → (ds ≡ es) × (x ≡ y)
numerals_unique ds es x y p q no_x no_y e = digits_split ds es x y p.1 q.1 no_x no_y e

pub turns_unique : (t u x y : List ℕ) → IsTurnsText t → IsTurnsText u → (NoDigit x ⊎ (t ≡ codes "*")) → NoDigit y
    → t ++ x ≡ u ++ y → (t ≡ u) × (x ≡ y)
turns_unique t u x y (inl p) (inl q) (inl no_x) no_y e = numerals_unique t u x y p q no_x no_y e
turns_unique t u x y (inl p) (inl q) (inr star) no_y e = absurd (no_star t [] [] p (append-nil t ∙ star))
turns_unique t u x y (inl p) (inr q) stops no_y e = absurd (no_star t x y p (e ∙ ap (λ (s : List ℕ). s ++ y) q))
turns_unique t u x y (inr p) (inl q) stops no_y e = absurd (no_star u y x q (sym e ∙ ap (λ (s : List ℕ). s ++ x) p))
turns_unique t u x y (inr p) (inr q) stops no_y e =
    let both : codes "*" ++ x ≡ codes "*" ++ y =
    ap (λ (s : List ℕ). s ++ x) (sym p) ∙ e ∙ ap (λ (s : List ℕ). s ++ y) q in
    (p ∙ sym q, append_cancel_left (codes "*") x y both)

pub position_unique : (count labels bound : ℕ) (ws vs : List (List ℕ)) (x y : List ℕ)
    → ArePlaceTexts count labels bound ws → ArePlaceTexts count labels bound vs
    → position_text ws x ≡ position_text vs y → (ws ≡ vs) × (x ≡ y)
position_unique count labels bound ws vs x y are_ws are_vs e =
    let texts : spaced_texts ws ++ (codes " for " ++ x) ≡ spaced_texts vs ++ (codes " for " ++ y) =
    append_cancel_left (codes "at") (spaced_texts ws ++ (codes " for " ++ x))
    (spaced_texts vs ++ (codes " for " ++ y)) e in
    let s = texts_unique count labels bound ws vs (codes " for " ++ x) (codes " for " ++ y) are_ws are_vs
    (no_digit_space (codes "for " ++ x)) (no_digit_space (codes "for " ++ y)) texts in
    (s.0, append_cancel_left (codes " for ") x y s.1)

-- what follows the position that was taken from a row, and then the word that was
pub after_position : {pebbles labels bound : ℕ} (texts at : List (List ℕ)) (old rest more : List ℕ)
    → ArePlaceTexts pebbles labels bound texts → ArePlaceTexts pebbles labels bound at
    → old ≡ position_text texts rest → old ≡ position_text at more → rest ≡ more
after_position texts at old rest more are_texts are p e =
    (position_unique _ _ _ texts at rest more are_texts are (sym p ∙ e)).1

pub after_word : (text word rest new more : List ℕ) → IsTurnsText text → IsTurnsText word
    → (NoDigit new ⊎ (text ≡ codes "*"))
    → rest ≡ text ++ new → rest ≡ word ++ 32 ∷ more → new ≡ 32 ∷ more
after_word text word rest new more is_text is stops p e =
    (turns_unique text word new (32 ∷ more) is_text is stops (no_digit_space more) (sym p ∙ e)).1

-- ---- a labeller's row

regroup : (a b c d e f more : List ℕ)
    → ((a ++ (b ++ (c ++ (d ++ (e ++ f))))) ++ 10 ∷ []) ++ more ≡ a ++ (b ++ (c ++ (d ++ (e ++ (f ++ 10 ∷ more)))))
regroup a b c d e f more = simp append_assoc

pub answer_parts : (words : AnswerWords) (more : List ℕ)
    → answer_words_line words ++ more
    ≡ position_text words.at (words.turns ++ (codes " take" ++ (spaced_texts words.take ++ 10 ∷ more)))
answer_parts words more = regroup (codes "at") (spaced_texts words.at) (codes " for ") words.turns (codes " take")
    (spaced_texts words.take) more

pub answer_taken : (at take : List (List ℕ)) (turns old a b c d new : List ℕ) → old ≡ position_text at a
    → a ≡ turns ++ b → b ≡ codes " take" ++ c → c ≡ spaced_texts take ++ d → d ≡ (10 ∷ []) ++ new
    → old ≡ answer_words_line (record { at = at; turns = turns; take = take }) ++ new
answer_taken at take turns old a b c d new p q r s t =
    rw (p, q, r, s, t) (sym (answer_parts (record { at = at; turns = turns; take = take }) new))

-- ---- an adversary's row

pub request_parts : (words : RequestWords) (more : List ℕ)
    → request_words_line words ++ more
    ≡ position_text words.at (words.left ++ (codes " ask " ++ (words.ask ++ 10 ∷ more)))
request_parts words more =
    regroup (codes "at") (spaced_texts words.at) (codes " for ") words.left (codes " ask ") words.ask more

pub request_taken : (at : List (List ℕ)) (left ask old a b c d new : List ℕ) → old ≡ position_text at a → a ≡ left ++ b
    → b ≡ codes " ask " ++ c → c ≡ ask ++ d → d ≡ (10 ∷ []) ++ new
    → old ≡ request_words_line (record { at = at; left = left; ask = ask }) ++ new
request_taken at left ask old a b c d new p q r s t =
    rw (p, q, r, s, t) (sym (request_parts (record { at = at; left = left; ask = ask }) new))

-- ---- an adversary's row by classes

pub class_request_parts : (words : ClassRequestWords) (more : List ℕ)
    → class_request_words_line words ++ more
    ≡ position_text words.at (words.left ++ (codes " ask" ++ (spaced_texts words.ask ++ 10 ∷ more)))
class_request_parts words more =
    regroup (codes "at") (spaced_texts words.at) (codes " for ") words.left (codes " ask") (spaced_texts words.ask) more

pub class_request_taken : (at ask : List (List ℕ)) (left old a b c d new : List ℕ) → old ≡ position_text at a → a ≡ left
    ++ b
    → b ≡ codes " ask" ++ c → c ≡ spaced_texts ask ++ d → d ≡ (10 ∷ []) ++ new
    → old ≡ class_request_words_line (record { at = at; left = left; ask = ask }) ++ new
class_request_taken at ask left old a b c d new p q r s t =
    rw (p, q, r, s, t) (sym (class_request_parts (record { at = at; left = left; ask = ask }) new))
