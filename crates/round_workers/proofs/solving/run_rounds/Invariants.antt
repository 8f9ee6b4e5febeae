use Rattle.std.proofs.Common.{◌≡◌}
use Rattle.solver.specs.Solving.{IsSolving}
use Rattle.solver.proofs.Cited.{rounds_left}
use Rattle.round_workers.proofs.solving.run_rounds.Given as goal

abbrev pub invariant-loop-alloc : goal.invariant-loop-alloc
invariant-loop-alloc g l = record {
  game : l.solver.game ≡ l.fn.solver.game;
  kept : IsSolving l.solver;
}

abbrev pub decreases-loop-alloc : goal.decreases-loop-alloc
decreases-loop-alloc g l = rounds_left l.solver
