use Rattle.positions.proofs.Cited.{some_value}
use Rattle.player.proofs.AnswerLines.{has_opening}
use Rattle.player.proofs.labeller_side.AsLabellerGame.open.Goals as goal

pub returns-in_err-pebble-clause-begins : goal.returns-in_err-pebble-clause-begins
returns-in_err-pebble-clause-begins g c =
    let board = c.args.self.now.moves.now in
    let value = some_value board board.start c.open.ensures.is_board.start in
    let opening = has_opening board value.0 value.1 in
    (opening.said, opening.to, opening.opens)
