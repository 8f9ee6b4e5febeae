use Rattle.std.proofs.Common.{◌+◌, get_or, []}
use Rattle.gap_values.proofs.TableSteps.{AreAddedTo, HasTablesTo}
use Rattle.gap_values.proofs.telling.add_tables.Given as goal

abbrev pub invariant-loop-table : goal.invariant-loop-table
invariant-loop-table g l =
    HasTablesTo l.lists l.told (l.first + l.index) l.table (get_or l.sets l.index []) l.set

abbrev pub invariant-loop-index : goal.invariant-loop-index
invariant-loop-index g l = AreAddedTo l.tables l.lists l.first l.index l.told l.initial.sets l.sets
