use Rattle.std.proofs.Common.{arith}
use Rattle.positions.proofs.LegalWords.{row_word, blank_word}
use Rattle.positions.proofs.moves.dominators_word.Goals as goal

pub returns-then-place-labels : goal.returns-then-place-labels
returns-then-place-labels c =
    row_word c.args.board.now c.dominators.result.now c.args.place
    (omega (arith, c.if-place-labels.true, c.labels.ensures.value)) c.dominators.ensures.bits

pub returns-else-place-labels : goal.returns-else-place-labels
returns-else-place-labels c =
    blank_word c.args.board.now c.args.place (omega (arith, c.if-place-labels.false, c.labels.ensures.value))
