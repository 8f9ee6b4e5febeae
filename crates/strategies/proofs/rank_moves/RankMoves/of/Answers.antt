use Rattle.classes.proofs.Cited.{few-of-small}
use Rattle.strategies.proofs.rank_moves.RankMoves.of.Goals as goal

pub member_tables-requires-clause-few : goal.member_tables-requires-clause-few
member_tables-requires-clause-few g c = rw c.board-board.ensures
    (few-of-small c.args.moves.now (rw c.requires.same_board at c.pebbles.ensures.few))
