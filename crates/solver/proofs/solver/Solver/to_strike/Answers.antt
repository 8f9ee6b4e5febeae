use Rattle.std.proofs.Common.{◌≡◌, subst, ◌∙◌}
use Rattle.std.proofs.lemmas.Result.{IfOk-weaker}
use Rattle.solver.specs.Solving.{Solving, IsSolving, to_strike}
use Rattle.solver.proofs.States.{solving_of, due-is}
use Rattle.solver.proofs.solver.Solver.to_strike.Goals as goal

pub returns-clause-ranks : goal.returns-clause-ranks
returns-clause-ranks g c =
    IfOk-weaker c.due.result _ _ (λ ranks is. subst (λ (v : Solving). ranks.items ≡ to_strike v) c.self.view_is
    (is ∙ due-is c.self.inside.stage _ c.self.inside.done c.self.invariant)) c.due.ensures

pub returns-clause-kept : goal.returns-clause-kept
returns-clause-kept g c =
    subst IsSolving c.self.view_is (solving_of c.self.inside.stage _ c.self.inside.done c.self.invariant)
