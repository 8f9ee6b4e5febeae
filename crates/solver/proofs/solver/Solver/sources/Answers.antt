use Rattle.std.proofs.Common.{◌≡◌, ◌<◌, sym, ◌∙◌, subst}
use Rattle.graphs.specs.Numbered.{graph_of}
use Rattle.solver.specs.Solving.{Solving, source}
use Rattle.solver.proofs.States.{source-shown}
use Rattle.solver.proofs.solver.Solver.sources.Goals as goal

pub returns : goal.returns
returns g c =
    let i : c.args.gap < (graph_of c.self.inside.stage.game).gaps = rw (← c.self.view_is) at c.requires in
    subst (λ (v : Solving). c.sources.result ≡ source v c.args.gap) c.self.view_is
    (c.sources.ensures ∙ sym (source-shown c.self.inside.stage _ c.self.inside.done c.self.invariant c.args.gap i))
