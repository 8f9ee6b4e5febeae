use Rattle.player.proofs.AnswerLines.{request_is, some_request}
use Rattle.player.proofs.labeller_side.request_at.Goals as goal

pub unwrap-pebble-requires : goal.unwrap-pebble-requires
unwrap-pebble-requires g c =
    some_request c.args.moves.now _ c.requires.finite.0 c.request-request.result.1 c.requires.finite.1
    c.request-request.ensures.request.none.0

pub returns : goal.returns
returns g c =
    request_is c.args.moves.now c.args.held.now c.unwrap-pebble.result c.answer.result
    c.is_none-is_stuck.result
    (rw c.unwrap-pebble.ensures at c.request-request.ensures.request.best) c.answer.ensures.best c.answer.ensures.none
    c.is_none-is_stuck.ensures
