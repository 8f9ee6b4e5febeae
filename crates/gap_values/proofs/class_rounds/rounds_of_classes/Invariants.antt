use Rattle.std.proofs.Common.{◌≡◌, ◌-◌, ◌<◌, ℕ, get_or}
use Rattle.gap_values.specs.Inside.ClassRounds.{IsRoundOf}
use Rattle.classes.specs.FamilyWalks.{IsAtFamily}
use Rattle.gap_values.specs.Inside.Words.{AreGapWords}
use Rattle.gap_values.proofs.RoundSteps.{gap_with}
use Rattle.gap_values.proofs.class_rounds.rounds_of_classes.Given as goal

abbrev pub invariant-loop-number : goal.invariant-loop-number
invariant-loop-number l = record {
  walk : IsAtFamily l.numbers l.walk.count l.number l.walk;
  count : l.walk.count ≡ l.board.pebbles - 1;
  size : AreGapWords l.board l.rounds.items;
  each : (gap : ℕ) → gap < l.number
      → IsRoundOf l.board l.words (gap_with l.board gap) (get_or l.rounds.items gap 0);
}
