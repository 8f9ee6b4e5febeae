use Rattle.std.proofs.Common.{◌-◌, ◌≤◌}
use Rattle.board_text.specs.declared.board.TheConstants.{MAX_LABELS}
use Rattle.positions.proofs.Cited.{AreFrom}
use Rattle.graphs.specs.Answers.{IsAnswerIn}
use Rattle.graphs.specs.Inside.Filling.{IsGapNoted}
use Rattle.graphs.specs.Ordered.{ordered}
use Rattle.graphs.proofs.by_ranks.ByRanks.note_answers.Given as goal

abbrev pub invariant-loop-label : goal.invariant-loop-label
invariant-loop-label l = record {
  most : l.labels.from ≤ MAX_LABELS;
  left : AreFrom (IsAnswerIn (ordered l.self) l.gap) l.labels;
  noted : IsGapNoted (ordered l.self) l.gap l.labels.from l.fn.struck l.struck;
}

abbrev pub decreases-loop-label : goal.decreases-loop-label
decreases-loop-label l = MAX_LABELS - l.labels.from
