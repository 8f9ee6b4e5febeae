use Rattle.std.proofs.Common.{inl, inr, arith}
use Rattle.board_text.proofs.Cited.{labels_and_places}
use Rattle.proof_text.proofs.RowLemmas.{AnswerTaken, answer_label, answer_number, answer_taken, padded_answer}
use Rattle.proof_text.proofs.rows.read_answer.Given.{Over}
use Rattle.proof_text.proofs.rows.read_answer.Goals as goal
use Rattle.proof_text.proofs.rows.read_answer.Goals.{In-Some, then-not-values-via-then-not-values}
use Rattle.proof_text.proofs.rows.read_answer.Goals.{then-not-values-via-else-not-values+then-not-values-2}

-- the words of the row
words_of : (g : Over) (c : In-Some g)
    → AnswerTaken (g.B.BoardOfRows.board c.args.board.now) c.args.claim c.in-Some.values c.answer_words.new.at
    c.answer_words.new.take c.args.text.now c.answer_words.new.text
words_of g c =
    answer_taken (g.B.BoardOfRows.board c.args.board.now) c.pebbles-pebbles.ensures.is_board
    c.pebbles-pebbles.ensures.value c.labels.ensures.value c.places.ensures c.in-Some.ensures

pub returns-then-not-values : goal.returns-then-not-values
returns-then-not-values g c =
    answer_label (words_of g (goal.at.returns-then-not-values g c).In-Some)
    (elim c.then-not-values.branch [
      | then-not-values-via-then-not-values w ↦ inl w.if-not-values.true
      | then-not-values-via-else-not-values+then-not-values-2 w ↦ inr w.if-not-values-2.true
    ])

pub returns-in_default-turns : goal.returns-in_default-turns
returns-in_default-turns g c =
    answer_number (words_of g (goal.at.returns-in_default-turns g c).In-Some) c.if-not-values.false
    c.if-not-values-2.false c.in_default-turns.is

pub returns : goal.returns
returns g c =
    padded_answer (words_of g (goal.at.returns g c).In-Some) c.if-not-values.false c.if-not-values-2.false
    c.in-Some-turns.turns _ c.in-Some-turns.is c.pebbles-pebbles.ensures.value

pub answer_words-requires-clause-places : goal.answer_words-requires-clause-places
answer_words-requires-clause-places g c =
    let both = labels_and_places (g.B.BoardOfRows.board c.args.board.now) in (
      omega (arith, both.0, c.labels.ensures.value, c.places.ensures),
      omega (arith, both.1, c.labels.ensures.value, c.places.ensures),
    )
