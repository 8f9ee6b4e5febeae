use Rattle.classes.specs.Classes.{put}
use Rattle.gap_values.specs.Inside.Sets.{IsGapToldTo}
use Rattle.gap_values.proofs.telling.tell_gap.Given as goal

abbrev pub invariant-loop-index : goal.invariant-loop-index
invariant-loop-index g l = IsGapToldTo l.board (put l.least l.family.held) l.index l.initial.sets l.sets
