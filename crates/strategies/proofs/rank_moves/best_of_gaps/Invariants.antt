use Rattle.strategies.specs.Inside.RankMoves.{AreBestBelow}
use Rattle.strategies.proofs.rank_moves.best_of_gaps.Given as goal

abbrev pub invariant-loop-index : goal.invariant-loop-index
invariant-loop-index g l = AreBestBelow l.space l.index l.best.items
