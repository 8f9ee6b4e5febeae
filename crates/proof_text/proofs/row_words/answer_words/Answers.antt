use Rattle.std.proofs.Common.{◌≡◌, ◌++◌, ◌∷◌, ◌∙◌, ℕ, List, length, sym}
use Rattle.std.specs.Prelude.{codes}
use Rattle.board_text.specs.Numerals.{spaced_texts}
use Rattle.board_text.proofs.Cited.{after, texts_unique}
use Rattle.proof_text.specs.RowWords.{AnswerWords, IsTurnsText, AreAnswerWords, answer_words_line}
use Rattle.proof_text.proofs.RowWords.{no_digit_space, no_digit_lf, after_position, after_word, answer_parts}
use Rattle.proof_text.proofs.RowWords.{answer_taken}
use Rattle.proof_text.proofs.row_words.answer_words.Goals as goal
use Rattle.proof_text.proofs.row_words.answer_words.Goals.{In_ok-are_places, In_ok-turns}

-- how a row that stands here goes on after its position, and after its turns
after_at : (c : In_ok-are_places) (words : AnswerWords) (more : List ℕ)
    → AreAnswerWords (length c.args.at.now) c.args.labels c.args.places words
    → c.args.text.now ≡ answer_words_line words ++ more
    → c.configuration.new.text ≡ words.turns ++ (codes " take" ++ (spaced_texts words.take ++ 10 ∷ more))
after_at c words more are e = let p = c.in_ok-are_places.ensures in
    after_position p.0 words.at _ _ _ p.1 are.at p.2 (e ∙ answer_parts words more)

after_turns : (c : In_ok-turns) (word more : List ℕ) → IsTurnsText word → c.configuration.new.text ≡ word ++ 32 ∷ more
    → c.turns.new.text ≡ 32 ∷ more
after_turns c word more is e = let t = c.in_ok-turns.ensures in after_word t.0 word _ _ _ t.1 is t.3 t.2 e

pub returns-in_err-turns : goal.returns-in_err-turns
returns-in_err-turns c = rw c.from_residual-in_err-turns.ensures (λ words more are e.
    c.in_err-turns.ensures words.turns _ are.turns
    (no_digit_space (codes "take" ++ (spaced_texts words.take ++ 10 ∷ more)))
    (after_at (goal.at.returns-in_err-turns c).In_ok-are_places words more are e))

pub returns-in_err-take : goal.returns-in_err-take
returns-in_err-take c = rw c.from_residual-in_err-take.ensures (λ words more are e.
    let s = goal.at.returns-in_err-take c in
    c.in_err-take.ensures.taken _ (after_turns s.In_ok-turns words.turns _ are.turns
    (after_at s.In_ok-are_places words more are e)))

pub returns-in_err-are_answers : goal.returns-in_err-are_answers
returns-in_err-are_answers c = rw c.from_residual-in_err-are_answers.ensures (λ words more are e.
    let s = goal.at.returns-in_err-are_answers c in
    let b = after_turns s.In_ok-turns words.turns _ are.turns (after_at s.In_ok-are_places words more are e) in
    let d = after (codes " take") _ c.take.new.self _ c.in_ok-take.ensures.taken b in
    c.in_err-are_answers.ensures words.take (10 ∷ more) (rw c.requires.same are.take) (no_digit_lf more) d)

pub returns-in_err-take-2 : goal.returns-in_err-take-2
returns-in_err-take-2 c = rw c.from_residual-in_err-take-2.ensures (λ words more are e.
    let s = goal.at.returns-in_err-take-2 c in
    let k = c.in_ok-are_answers.ensures in
    let b = after_turns s.In_ok-turns words.turns _ are.turns (after_at s.In_ok-are_places words more are e) in
    let d = after (codes " take") _ c.take.new.self _ c.in_ok-take.ensures.taken b in
    c.in_err-take-2.ensures.taken more
    (texts_unique _ _ _ k.0 words.take _ (10 ∷ more) k.1 (rw c.requires.same are.take) k.3 (no_digit_lf more)
    (sym k.2 ∙ d)).1)

pub returns : goal.returns
returns c =
    let p = c.in_ok-are_places.ensures in
    let t = c.in_ok-turns.ensures in
    let s = c.in_ok-are_answers.ensures in (
      record { at = p.0; turns = t.0; take = s.0 },
      record { at = p.1; turns = t.1; take = rw (← c.requires.same) s.1 },
      answer_taken p.0 s.0 t.0 c.args.text.now c.configuration.new.text c.turns.new.text c.take.new.self
          c.places.new.self c.take-2.new.self p.2 t.2 c.in_ok-take.ensures.taken s.2 c.in_ok-take-2.ensures.taken,
      record { places = p.3; turns = t.4; taken = s.4 },
    )
