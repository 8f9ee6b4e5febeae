use Rattle.gap_values.proofs.ClosingSteps.{AreLeftBefore}
use Rattle.gap_values.proofs.closing.left_of.Given as goal

abbrev pub invariant-loop-index : goal.invariant-loop-index
invariant-loop-index g l = AreLeftBefore l.sets l.family l.least l.fn.common l.index l.left
