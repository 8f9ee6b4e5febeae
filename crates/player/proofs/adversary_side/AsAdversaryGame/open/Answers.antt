use Rattle.player.proofs.RequestLines.{begins, opens_play}
use Rattle.player.proofs.adversary_side.AsAdversaryGame.open.Goals as goal

pub returns-in_err-write_opening-clause-begins : goal.returns-in_err-write_opening-clause-begins
returns-in_err-write_opening-clause-begins g c =
    (_, _, begins c.args.self.now.moves.now c.start_value.result c.start_value.ensures)

pub returns-clause-begins : goal.returns-clause-begins
returns-clause-begins g c =
    (_, _, begins c.args.self.now.moves.now c.start_value.result c.start_value.ensures)

pub returns-clause-said : goal.returns-clause-said
returns-clause-said g c =
    opens_play _ c.args.self.now.moves.now c.start_value.result _ _ c.new.result c.board.ensures
    c.start_value.ensures c.in_ok-write_opening.ensures c.new.ensures
