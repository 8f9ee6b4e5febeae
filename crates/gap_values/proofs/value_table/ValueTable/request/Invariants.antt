use Rattle.std.proofs.Common.{◌<◌, ℕ}
use Rattle.classes.specs.ClassGaps.{gap_at}
use Rattle.gap_values.specs.BestOfGap.{LeadBelow}
use Rattle.gap_values.proofs.value_table.ValueTable.request.Given as goal

abbrev pub invariant-loop-pebble : goal.invariant-loop-pebble
invariant-loop-pebble g l = (other : ℕ) → other < l.pebble → LeadBelow l.board (gap_at l.held other) l.number → ⊥
