use Rattle.std.proofs.Common.{get_or, arith}
use Rattle.positions.proofs.TupleWords.{word_of_every, beating_label, beating_blank}
use Rattle.positions.proofs.column.word_beating.Goals as goal

pub returns-then-place-labels : goal.returns-then-place-labels
returns-then-place-labels c =
    let b = c.args.board.now in
    let every = word_of_every b c.args.number c.below.result (omega (arith, c.requires.number))
    (λ x small. rw c.labels.ensures.value at (c.below.ensures x small)) in
    rw c.word-every_label.ensures
    (beating_label b c.args.number c.args.place (get_or c.below.result c.args.number 0) c.dominators.result.now
    (omega (arith, c.requires.number))
    (rw c.labels-2.ensures.value at c.if-place-labels.true) every c.dominators.ensures.bits)

pub returns-else-place-labels : goal.returns-else-place-labels
returns-else-place-labels c =
    let b = c.args.board.now in
    let every = word_of_every b c.args.number c.below.result (omega (arith, c.requires.number))
    (λ x small. rw c.labels.ensures.value at (c.below.ensures x small)) in
    rw c.word-every_label.ensures
    (beating_blank b c.args.number c.args.place (get_or c.below.result c.args.number 0)
    (let past = c.if-place-labels.false in omega (arith, c.labels-2.ensures.value)) every)
