use Rattle.std.proofs.Common.{◌++◌, ◌∙◌, refl, sym}
use Rattle.std.specs.Prelude.{codes}
use Rattle.board_text.specs.Numerals.{spaced_texts}
use Rattle.board_text.proofs.Cited.{after, texts_unique}
use Rattle.proof_text.proofs.RowWords.{no_digit_space}
use Rattle.proof_text.proofs.row_words.configuration.Goals as goal

pub returns-in_err-are_places : goal.returns-in_err-are_places
returns-in_err-are_places c =
    rw c.from_residual-in_err-are_places.ensures (λ texts more are e.
    let next = after (codes "at") c.args.text.now c.take.new.self
    (spaced_texts texts ++ (codes " for " ++ more)) c.in_ok-take.ensures.taken e in
    c.in_err-are_places.ensures texts (codes " for " ++ more) are (no_digit_space (codes "for " ++ more)) next)

pub returns-in_err-take-2 : goal.returns-in_err-take-2
returns-in_err-take-2 c =
    rw c.from_residual-in_err-take-2.ensures (λ texts more are e.
    let p = c.in_ok-are_places.ensures in
    let next = after (codes "at") c.args.text.now c.take.new.self
    (spaced_texts texts ++ (codes " for " ++ more)) c.in_ok-take.ensures.taken e in
    c.in_err-take-2.ensures.taken more
    (texts_unique _ c.args.labels c.args.places p.0 texts c.places.new.self (codes " for " ++ more) p.1 are p.3
    (no_digit_space (codes "for " ++ more)) (sym p.2 ∙ next)).1)

pub returns : goal.returns
returns c =
    let p = c.in_ok-are_places.ensures in
    (p.0, p.1, rw (c.in_ok-take.ensures.taken, p.2, c.in_ok-take-2.ensures.taken) refl, p.4)
