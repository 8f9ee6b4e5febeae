use Rattle.std.proofs.Common.{subst}
use Rattle.solver.specs.Solving.{IsSolving}
use Rattle.solver.proofs.States.{solving_of}
use Rattle.solver.proofs.solver.Solver.round_number.Goals as goal

pub returns-clause-kept : goal.returns-clause-kept
returns-clause-kept g c =
    subst IsSolving c.self.view_is (solving_of c.self.inside.stage _ c.self.inside.done c.self.invariant)
