use Rattle.graphs.specs.Ordered.{ordered}
use Rattle.graphs.proofs.StuckGaps.{AreGapsZeroed}
use Rattle.graphs.proofs.by_ranks.ByRanksNumbering.zero_stuck.Given as goal

abbrev pub invariant-loop-gap : goal.invariant-loop-gap
invariant-loop-gap l = AreGapsZeroed (ordered l.self) l.counts l.gap l.fn.words l.words
