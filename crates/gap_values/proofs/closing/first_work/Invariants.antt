use Rattle.std.proofs.Common.{◌-◌, length}
use Rattle.gap_values.proofs.closing.first_work.Given as goal

abbrev pub decreases-loop-index : goal.decreases-loop-index
decreases-loop-index l = length l.words - l.index
