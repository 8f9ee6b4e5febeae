use Rattle.gap_values.proofs.Cited.{gap-is}
use Rattle.strategies.proofs.GapMembers.{best-of-request}
use Rattle.strategies.proofs.gap_moves.GapMoves.best.Goals as goal

pub best_answer-requires-clause-is_gap : goal.best_answer-requires-clause-is_gap
best_answer-requires-clause-is_gap g c =
    rw (c.as_slice.ensures.value, c.others_of-gap.ensures)
    (gap-is c.self.inside.board.now c.args.held.now (rw (← c.self.view_is) at c.requires.held) c.args.pebble
    (rw (← c.self.view_is) at c.requires.pebble))

pub returns : goal.returns
returns g c =
    let best = rw (c.as_slice.ensures.value, c.others_of-gap.ensures) at c.best_answer.ensures in
    rw (← c.self.view_is)
    (best-of-request c.self.inside.board.now c.args.held.now (rw (← c.self.view_is) at c.requires.held) c.args.pebble
    (rw (← c.self.view_is) at c.requires.pebble) c.best_answer.result best)
