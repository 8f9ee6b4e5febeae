use Rattle.std.proofs.Common.{ℕ, ◌<◌, ◌^◌, get_or}
use Rattle.positions.proofs.LabelBits.{AreMadeTo, one_of}
use Rattle.positions.proofs.label_set.Labels.without.Given as goal

abbrev pub invariant-loop-number : goal.invariant-loop-number
invariant-loop-number g l =
    AreMadeTo (one_of l.initial.words l.other-inside.words) l.initial.words l.words l.number
    × ((k : ℕ) → k < l.number → get_or l.other-inside.words k 0 < 2 ^ 64)
