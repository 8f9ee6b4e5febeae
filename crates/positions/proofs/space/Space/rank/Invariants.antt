use Rattle.positions.proofs.RankTurns.{IsFrontNumber}
use Rattle.positions.proofs.space.Space.rank.Given as goal

abbrev pub invariant-loop-place : goal.invariant-loop-place
invariant-loop-place l = IsFrontNumber l.self l.configuration l.place-index l.rank
