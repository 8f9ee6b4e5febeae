use Rattle.std.proofs.Common.{◌*◌, min, length}
use Rattle.gap_values.specs.Inside.Counts.{AreSizesBetween}
use Rattle.gap_values.proofs.sizes.sizes_in_parts.Given as goal

abbrev pub invariant-loop-index : goal.invariant-loop-index
invariant-loop-index g l =
    AreSizesBetween l.numbers l.rounds.words.items l.bound 0 (min (l.index * l.size) (length l.rounds.words.items))
    l.sizes
