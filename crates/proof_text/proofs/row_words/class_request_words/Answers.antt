use Rattle.std.proofs.Common.{◌≡◌, ◌++◌, ◌∷◌, ◌∙◌, ℕ, List, length, sym, inl, arith}
use Rattle.std.specs.Str.Parse.{IsNumeral}
use Rattle.std.specs.Prelude.{codes}
use Rattle.board_text.specs.Numerals.{spaced_texts}
use Rattle.board_text.proofs.Cited.{after, texts_unique}
use Rattle.proof_text.proofs.SpelledRows.{number_of}
use Rattle.proof_text.proofs.RowWords.{no_digit_lf, after_position, after_word, class_request_parts}
use Rattle.proof_text.proofs.RowWords.{class_request_taken}
use Rattle.proof_text.specs.declared.proof.TheConstants.{MAX_TURNS}
use Rattle.proof_text.specs.RowWords.{ClassRequestWords, AreClassRequestWords, class_request_words_line}
use Rattle.proof_text.proofs.row_words.class_request_words.Goals as goal
use Rattle.proof_text.proofs.row_words.class_request_words.Goals.{In_ok-are_places, In_ok-numeral}

-- how a row that stands here goes on after its position, and after its number
after_at : (c : In_ok-are_places) (words : ClassRequestWords) (more : List ℕ)
    → AreClassRequestWords (length c.args.at.now) c.args.labels c.args.places words
    → c.args.text.now ≡ class_request_words_line words ++ more
    → c.configuration.new.text ≡ words.left ++ (codes " ask" ++ (spaced_texts words.ask ++ 10 ∷ more))
after_at c words more are e = let p = c.in_ok-are_places.ensures in
    after_position p.0 words.at _ _ _ p.1 are.at p.2 (e ∙ class_request_parts words more)

after_left : (c : In_ok-numeral) (word more : List ℕ) → IsNumeral 10 word → c.configuration.new.text ≡ word ++ 32 ∷ more
    → c.numeral.new.self ≡ 32 ∷ more
after_left c word more is e =
    let n = c.in_ok-numeral.ensures in after_word n.0 word _ _ _ (inl n.1) (inl is) (inl n.3) n.2 e

pub returns-in_err-numeral : goal.returns-in_err-numeral
returns-in_err-numeral c = rw c.from_residual-in_err-numeral.ensures (λ words more are e.
    c.in_err-numeral.ensures words.left _ are.left
    (after_at (goal.at.returns-in_err-numeral c).In_ok-are_places words more are e))

pub returns-in_err-take : goal.returns-in_err-take
returns-in_err-take c = rw c.from_residual-in_err-take.ensures (λ words more are e.
    let s = goal.at.returns-in_err-take c in
    c.in_err-take.ensures.taken _ (after_left s.In_ok-numeral words.left _ are.left
    (after_at s.In_ok-are_places words more are e)))

pub returns-in_err-is_place : goal.returns-in_err-is_place
returns-in_err-is_place c = rw c.from_residual-in_err-is_place.ensures (λ words more are e.
    let s = goal.at.returns-in_err-is_place c in
    let b = after_left s.In_ok-numeral words.left _ are.left (after_at s.In_ok-are_places words more are e) in
    let d = after (codes " ask") _ c.take.new.self _ c.in_ok-take.ensures.taken b in
    c.in_err-is_place.ensures words.ask (10 ∷ more) (rw c.requires.one are.ask) (no_digit_lf more) d)

pub returns-in_err-take-2 : goal.returns-in_err-take-2
returns-in_err-take-2 c = rw c.from_residual-in_err-take-2.ensures (λ words more are e.
    let s = goal.at.returns-in_err-take-2 c in
    let k = c.in_ok-is_place.ensures in
    let b = after_left s.In_ok-numeral words.left _ are.left (after_at s.In_ok-are_places words more are e) in
    let d = after (codes " ask") _ c.take.new.self _ c.in_ok-take.ensures.taken b in
    c.in_err-take-2.ensures.taken more
    (texts_unique _ _ _ k.0 words.ask _ (10 ∷ more) k.1 (rw c.requires.one are.ask) k.3 (no_digit_lf more)
    (sym k.2 ∙ d)).1)

pub returns : goal.returns
returns c =
    let p = c.in_ok-are_places.ensures in
    let n = c.in_ok-numeral.ensures in
    let k = c.in_ok-is_place.ensures in (
      record { at = p.0; left = n.0; ask = k.0 },
      record { at = p.1; left = n.1; ask = rw c.requires.one at k.1 },
      class_request_taken p.0 k.0 n.0 c.args.text.now c.configuration.new.text c.numeral.new.self c.take.new.self
          c.places.new.self c.take-2.new.self p.2 n.2 c.in_ok-take.ensures.taken k.2 c.in_ok-take-2.ensures.taken,
      record {
        places = p.3;
        number = number_of MAX_TURNS c.within-left.result n.0 c.in_ok-numeral.field-0
            (omega arith) n.4 c.within-left.ensures;
        ask = k.4;
      },
    )
