use Rattle.gap_values.specs.Inside.Words.{IsFirstGap}
use Rattle.gap_values.proofs.closing.first_gap.Given as goal

abbrev pub invariant-loop-pebble : goal.invariant-loop-pebble
invariant-loop-pebble l = IsFirstGap l.words l.held l.pebble l.first l.asked
