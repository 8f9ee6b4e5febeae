use Rattle.std.proofs.Common.{◌+◌}
use Rattle.board_text.specs.PlainBoard.{places}
use Rattle.classes.proofs.Cited.{IsRow}
use Rattle.gap_values.proofs.counting.count_without.Given as goal

abbrev pub invariant-loop-pebble : goal.invariant-loop-pebble
invariant-loop-pebble l = IsRow (places l.board) l.pebble 0 l.ways

abbrev pub invariant-loop-greatest : goal.invariant-loop-greatest
invariant-loop-greatest l = IsRow (places l.board) l.pebble (l.greatest + 1) l.ways
