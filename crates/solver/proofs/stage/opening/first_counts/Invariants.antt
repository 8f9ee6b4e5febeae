use Rattle.std.proofs.Common.{◌≡◌, ◌≤◌, ◌<◌, ℕ, length, slice_index, vec_capacity}
use Rattle.graphs.specs.Graph.{live_answers, lasts}
use Rattle.graphs.specs.Numbered.{graph_of}
use Rattle.solver.proofs.stage.opening.first_counts.Given as goal

abbrev pub invariant-loop-gap : goal.invariant-loop-gap
invariant-loop-gap g l = record {
  len : length l.counts.items ≡ l.gap;
  room : l.gaps ≤ vec_capacity l.counts;
  counted : (g : ℕ) → g < l.gap
      → slice_index l.counts.items g ≡ live_answers (graph_of l.graph) (lasts (graph_of l.graph) 0) g;
}
