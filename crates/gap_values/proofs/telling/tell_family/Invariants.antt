use Rattle.std.proofs.Common.{◌+◌}
use Rattle.gap_values.specs.Inside.Sets.{AreSetsOf}
use Rattle.gap_values.specs.Inside.Words.{IsClosedUpTo}
use Rattle.gap_values.proofs.telling.tell_family.Given as goal

abbrev pub invariant-loop-least : goal.invariant-loop-least
invariant-loop-least g l =
    AreSetsOf l.board (IsClosedUpTo l.words l.bound (l.family.start + l.least)) l.sets
