use Rattle.std.proofs.Common.{◌≡◌, length}
use Rattle.graphs.specs.Graph.{count_below}
use Rattle.solver.specs.Inside.Tables.{is_open}
use Rattle.solver.specs.Inside.Values.{AreWordCounts}
use Rattle.solver.proofs.sizes.count_words.Given as goal

abbrev pub invariant-loop-number : goal.invariant-loop-number
invariant-loop-number l = record {
  wide : length l.sizes ≡ length l.fn.sizes;
  counts : AreWordCounts l.words l.number l.sizes;
  forever : l.forever ≡ count_below l.number (is_open l.words);
}
