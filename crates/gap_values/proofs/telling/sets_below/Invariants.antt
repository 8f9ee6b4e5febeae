use Rattle.std.proofs.Common.{◌≡◌, ◌-◌}
use Rattle.classes.specs.FamilyWalks.{IsAtFamily}
use Rattle.gap_values.specs.Inside.Sets.{AreSetsOf}
use Rattle.gap_values.specs.Inside.Words.{IsClosedUpTo}
use Rattle.gap_values.proofs.telling.sets_below.Given as goal

abbrev pub invariant-loop-number : goal.invariant-loop-number
invariant-loop-number g l = record {
  walk : IsAtFamily l.numbers l.walk.count l.number l.walk;
  count : l.walk.count ≡ l.board.pebbles - 2;
  told : AreSetsOf l.board (IsClosedUpTo l.words l.bound l.walk.start) l.sets.items;
}
