use Rattle.symmetries.specs.Elements.{least_by}
use Rattle.proof_text.proofs.Cited.{placed}
use Rattle.proof_check.proofs.class_labeller.start_fault.Goals as goal

pub order-start-requires-clause-places : goal.order-start-requires-clause-places
order-start-requires-clause-places c =
    rw c.start.ensures.value
    (placed c.args.checker.now.board.now c.args.checker.now.board.now.start c.start.ensures.is_board.start)

pub returns-clause-start : goal.returns-clause-start
returns-clause-start c = c.start.ensures.is_board.start

pub returns-clause-fault : goal.returns-clause-fault
returns-clause-fault c =
    let board = c.args.checker.now.board.now in
    let wanted = least_by board.labels c.args.checker.now.alike.now.group board.start in
    let is = rw c.start.ensures.value at c.order-start.ensures in
    rw c.wanted_of.ensures at c.turns_fault.ensures wanted (is.configuration c.start.ensures.is_board.start) is.number
