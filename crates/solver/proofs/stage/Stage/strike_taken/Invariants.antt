use Rattle.std.proofs.Common.{◌≡◌, drop}
use Rattle.std.specs.List.{filter}
use Rattle.graphs.specs.Numbered.{graph_of}
use Rattle.graphs.specs.Graph.{is_struck}
use Rattle.solver.specs.Inside.Stage.{IsKeptStage, IsStriking}
use Rattle.solver.proofs.stage.Stage.strike_taken.Given as goal

abbrev pub invariant-loop-index : goal.invariant-loop-index
invariant-loop-index g l = record {
  striking : IsStriking l.self (filter (is_struck (graph_of l.fn.self.game)) (drop l.index l.fn.self.strikes));
  kept : IsKeptStage l.fn.self l.self;
  strikes : l.self.strikes ≡ l.fn.self.strikes;
}
