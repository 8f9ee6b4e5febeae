use Rattle.std.proofs.Common.{◌≡◌, ◌<◌, true, false, subst}
use Rattle.graphs.specs.Numbered.{graph_of}
use Rattle.positions.specs.Counts.{HasSize}
use Rattle.solver.specs.Solving.{Solving, AnswerLasts, AnswerForever}
use Rattle.solver.proofs.States.{counts-before, counts-after}
use Rattle.solver.proofs.solver.Solver.count_of.Goals as goal

pub returns-clause-before : goal.returns-clause-before
returns-clause-before g c =
    let i : c.args.gap < (graph_of c.self.inside.stage.game).gaps = rw (← c.self.view_is) at c.requires in
    subst (λ (v : Solving). v.is_done ≡ false
    → HasSize (AnswerLasts v.game c.args.gap v.rounds) c.count.result) c.self.view_is
    (λ going. rw c.count.ensures
    (counts-before c.self.inside.stage _ c.self.inside.done c.self.invariant c.args.gap i going))

pub returns-clause-after : goal.returns-clause-after
returns-clause-after g c =
    let i : c.args.gap < (graph_of c.self.inside.stage.game).gaps = rw (← c.self.view_is) at c.requires in
    subst (λ (v : Solving). v.is_done ≡ true → HasSize (AnswerForever v.game c.args.gap) c.count.result) c.self.view_is
    (λ done. rw c.count.ensures
    (counts-after c.self.inside.stage _ c.self.inside.done c.self.invariant c.args.gap i done))
