use Rattle.std.proofs.Common.{◌≡◌}
use Rattle.solver.proofs.RoundsLeft.{rounds_left}
use Rattle.solver.proofs.solver.Solver.after_all_rounds.Given as goal

abbrev pub invariant-loop-solver : goal.invariant-loop-solver
invariant-loop-solver g l = l.solver.game ≡ l.fn.self.game

abbrev pub decreases-loop-solver : goal.decreases-loop-solver
decreases-loop-solver g l = rounds_left l.solver
