use Rattle.gap_values.proofs.ClosingSteps.{AreAnswersTo}
use Rattle.gap_values.proofs.closing.answer_set.Given as goal

abbrev pub invariant-loop-place : goal.invariant-loop-place
invariant-loop-place g l = AreAnswersTo l.board l.held l.place-index l.set
