use Rattle.graphs.specs.Inside.Filling.{IsGapZeroed}
use Rattle.graphs.specs.Ordered.{ordered}
use Rattle.graphs.proofs.by_ranks.ByRanks.zero_members.Given as goal

abbrev pub invariant-loop-place : goal.invariant-loop-place
invariant-loop-place l = IsGapZeroed (ordered l.self) l.gap l.place l.fn.words l.words
