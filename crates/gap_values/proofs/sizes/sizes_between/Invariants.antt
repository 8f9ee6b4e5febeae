use Rattle.std.proofs.Common.{◌≡◌, ◌-◌, max, min}
use Rattle.gap_values.specs.Inside.Counts.{AreSizesBetween}
use Rattle.classes.specs.FamilyWalks.{IsAtFamily}
use Rattle.gap_values.proofs.sizes.sizes_between.Given as goal

abbrev pub invariant-loop-number : goal.invariant-loop-number
invariant-loop-number g l = record {
  walk : IsAtFamily l.numbers l.walk.count l.number l.walk;
  count : l.walk.count ≡ l.numbers.pebbles - 2;
  counted : AreSizesBetween l.numbers l.rounds.words.items l.bound l.from (max l.from (min l.walk.start l.to)) l.sizes;
}
