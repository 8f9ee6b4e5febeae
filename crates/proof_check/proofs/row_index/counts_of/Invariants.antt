use Rattle.std.proofs.Common.{◌≡◌, length}
use Rattle.proof_check.specs.Inside.RowIndex.{AreCounts}
use Rattle.proof_check.proofs.row_index.counts_of.Given as goal

abbrev pub invariant-loop-row : goal.invariant-loop-row
invariant-loop-row g l = record {
  sized : length l.counts.items ≡ l.size;
  are : AreCounts g.R.Ranked.rank g.R.Counted.count l.rows l.counts.items;
}
