use Rattle.graphs.proofs.StuckParts.{AreZeroedTo}
use Rattle.graphs.proofs.stuck.zero_where.Given as goal

abbrev pub invariant-loop-index : goal.invariant-loop-index
invariant-loop-index l = AreZeroedTo l.counts l.rest l.index l.initial.words l.words
