use Rattle.std.proofs.Common.{◌≡◌}
use Rattle.graphs.specs.Numbered.{graph_of}
use Rattle.solver.specs.Inside.SourceWalk.{open_from, IsWalk}
use Rattle.solver.proofs.source_walk.SourceWalk.take_next.Given as goal

abbrev pub invariant-loop-place : goal.invariant-loop-place
invariant-loop-place g l = record {
  end : l.place-end ≡ (graph_of l.self-inside.graph.now).places;
  left : l.fn.self ≡ open_from (graph_of l.self-inside.graph.now) l.self-inside.words.now l.self-inside.gap l.place;
  walk : IsWalk (graph_of l.self-inside.graph.now) l.self-inside.words.now l.self-inside.gap;
}
