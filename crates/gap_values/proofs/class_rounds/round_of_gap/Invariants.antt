use Rattle.std.proofs.Common.{◌-◌, ◌≤◌}
use Rattle.board_text.specs.declared.board.TheConstants.{MAX_LABELS}
use Rattle.positions.specs.Gaps.{AnswersGap}
use Rattle.positions.proofs.Cited.{AreFrom}
use Rattle.gap_values.proofs.ClassRounds.{IsRoundSoFar}
use Rattle.gap_values.proofs.class_rounds.round_of_gap.Given as goal

abbrev pub invariant-loop-label : goal.invariant-loop-label
invariant-loop-label l = record {
  walk : AreFrom (AnswersGap l.board l.gap) l.labels;
  most : l.labels.from ≤ MAX_LABELS;
  round : IsRoundSoFar l.board l.words l.gap l.labels.from l.round;
}

abbrev pub decreases-loop-label : goal.decreases-loop-label
decreases-loop-label l = MAX_LABELS - l.labels.from
