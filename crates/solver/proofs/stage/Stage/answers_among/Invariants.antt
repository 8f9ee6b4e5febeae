use Rattle.std.proofs.Common.{◌≡◌, ◌≤◌, take, length, vec_capacity}
use Rattle.std.specs.List.{filter}
use Rattle.graphs.specs.Graph.{is_struck}
use Rattle.graphs.specs.Numbered.{graph_of}
use Rattle.solver.proofs.stage.Stage.answers_among.Given as goal

abbrev pub invariant-loop-rank : goal.invariant-loop-rank
invariant-loop-rank g l = record {
  found : l.found.items ≡ filter (is_struck (graph_of l.self.game)) (take l.rank-index l.ranks);
  room : length l.ranks ≤ vec_capacity l.found;
}
