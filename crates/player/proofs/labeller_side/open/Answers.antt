use Rattle.std.proofs.lemmas.Result.{IfOk-weaker}
use Rattle.player.proofs.AnswerLines.{opens_with, opens_without}
use Rattle.player.proofs.labeller_side.open.Goals as goal

pub returns-in-Finite-clause-said : goal.returns-in-Finite-clause-said
returns-in-Finite-clause-said g c =
    let value = rw (c.start.ensures.value, c.board-board.ensures, c.in-Finite.is) at c.value-value.ensures in
    let first = rw c.in-Finite.is at c.in_ok-write_opening.ensures in
    let request = rw (c.start-in-Finite.ensures.value, c.board-board.ensures) at c.request_at.ensures in
    IfOk-weaker c.write_request.result _ _
    (λ following asked. opens_with _ c.args.moves.now c.in-Finite.field-0 following _ _ _ _
    c.board-board.ensures value
    request first asked)
    c.write_request.ensures

pub returns-in_ok-push_str-in-Forever-clause-said : goal.returns-in_ok-push_str-in-Forever-clause-said
returns-in_ok-push_str-in-Forever-clause-said g c =
    let value = rw (c.start.ensures.value, c.board-board.ensures, c.in-Forever.is) at c.value-value.ensures in
    let first = rw c.in-Forever.is at c.in_ok-write_opening.ensures in
    opens_without _ c.args.moves.now _ _ _ c.board-board.ensures value first
    c.in_ok-push_str-in-Forever.ensures.bytes
