use Rattle.std.proofs.Common.{subst, sym}
use Rattle.board_text.specs.PlainBoard.{PlainBoard, IsConfiguration}
use Rattle.strategies.specs.Best.{IsBestRequestIfAny}
use Rattle.strategies.proofs.LoweringRequests.{first_below_best}
use Rattle.strategies.proofs.gap_moves.GapMoves.request.Goals as goal

pub returns-clause-request : goal.returns-clause-request
returns-clause-request g c =
    let board = c.self.inside.board.now in
    let held = c.args.held.now in
    let is = subst (λ (b : PlainBoard). IsConfiguration b held) (sym c.self.view_is) c.requires in
    subst (λ (b : PlainBoard). IsBestRequestIfAny b held c.request.result.1) c.self.view_is
    (first_below_best board held c.request.result.0 c.request.result.1 is c.request.ensures.value
    c.request.ensures.request)
