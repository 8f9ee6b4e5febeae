use Rattle.gap_values.specs.Inside.OpenWords.{AreClosedFrom}
use Rattle.gap_values.proofs.rounds.end_of_open.Given as goal

abbrev pub invariant-loop-end : goal.invariant-loop-end
invariant-loop-end l = AreClosedFrom l.words l.end

abbrev pub decreases-loop-end : goal.decreases-loop-end
decreases-loop-end l = l.end
