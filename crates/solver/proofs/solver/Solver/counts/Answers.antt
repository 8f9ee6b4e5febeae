use Rattle.std.proofs.Common.{◌≡◌, false, ap, ◌∙◌, subst, length}
use Rattle.graphs.specs.Numbered.{graph_of}
use Rattle.solver.specs.Words.{AreFirstCounts}
use Rattle.solver.specs.Solving.{Solving}
use Rattle.solver.proofs.States.{first-counts}
use Rattle.solver.proofs.solver.Solver.counts.Goals as goal

pub returns-clause-size : goal.returns-clause-size
returns-clause-size g c = subst (λ (v : Solving). length c.counts.result.now ≡ (graph_of v.game).gaps) c.self.view_is
    (ap length c.counts.ensures ∙ c.self.invariant.stage.counts_are.counts_length)

pub returns-clause-counts : goal.returns-clause-counts
returns-clause-counts g c =
    let s = c.self.inside.stage in
    let going : c.self.inside.done ≡ false = rw (← c.self.view_is) at c.requires in
    subst (λ (v : Solving). AreFirstCounts v c.counts.result.now) c.self.view_is
    (rw c.counts.ensures (first-counts s _ c.self.inside.done c.self.invariant going))
