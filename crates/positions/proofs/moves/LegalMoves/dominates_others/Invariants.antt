use Rattle.positions.proofs.PlaceMoves.{DominatesOthersBelow}
use Rattle.positions.proofs.moves.LegalMoves.dominates_others.Given as goal

abbrev pub invariant-loop-other : goal.invariant-loop-other
invariant-loop-other l = DominatesOthersBelow l.self-inside.board.now l.self-inside.places l.pebble l.other l.label
