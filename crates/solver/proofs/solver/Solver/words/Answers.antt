use Rattle.std.proofs.Common.{◌≡◌, ap, ◌∙◌, subst, length, map}
use Rattle.graphs.specs.Numbered.{graph_of}
use Rattle.solver.specs.Words.{value_of_word, AreFirstValues}
use Rattle.solver.specs.Solving.{Solving}
use Rattle.solver.proofs.States.{first-values}
use Rattle.solver.proofs.solver.Solver.words.Goals as goal

pub returns-clause-size : goal.returns-clause-size
returns-clause-size g c =
    subst (λ (v : Solving). length c.words.result.now ≡ (graph_of v.game).configurations) c.self.view_is
    (ap length c.words.ensures ∙ c.self.invariant.stage.filed_are.values_length)

pub returns-clause-values : goal.returns-clause-values
returns-clause-values g c =
    let s = c.self.inside.stage in
    subst (λ (v : Solving). AreFirstValues v (map value_of_word c.words.result.now)) c.self.view_is
    (rw c.words.ensures (first-values s _ c.self.inside.done c.self.invariant))
