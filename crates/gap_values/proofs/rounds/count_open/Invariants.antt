use Rattle.std.proofs.Common.{◌≡◌, ◌≤◌}
use Rattle.gap_values.specs.Inside.OpenWords.{open_below}
use Rattle.gap_values.proofs.rounds.count_open.Given as goal

abbrev pub invariant-loop-index : goal.invariant-loop-index
invariant-loop-index l = record {
  counted : l.count ≡ open_below l.words l.index;
  few : l.count ≤ l.index;
}
