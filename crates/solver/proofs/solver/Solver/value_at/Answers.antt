use Rattle.std.proofs.Common.{◌≡◌, ◌<◌, ◌≤◌, ◌↔◌, ℕ, Some, ap, ◌∙◌, subst}
use Rattle.positions.specs.declared.value.Value.TheVariants.{Finite}
use Rattle.positions.specs.Value.{HasValue}
use Rattle.graphs.specs.Numbered.{graph_of, configuration_of}
use Rattle.solver.specs.Words.{value_of_word}
use Rattle.solver.specs.Solving.{Solving}
use Rattle.solver.proofs.States.{value-read}
use Rattle.solver.proofs.solver.Solver.value_at.Goals as goal

pub returns : goal.returns
returns g c =
    let s = c.self.inside.stage in
    let i : c.args.rank < (graph_of s.game).configurations = rw (← c.self.view_is) at c.requires in
    subst (λ (v : Solving). (value : ℕ) → (c.value_of.result ≡ Some value)
    ↔ ((value ≤ v.rounds) × HasValue v.game.board (configuration_of v.game c.args.rank) (Finite value))) c.self.view_is
    (value-read s _ c.self.inside.done c.self.invariant c.args.rank i c.value_of.result
    (c.value_of.ensures ∙ ap value_of_word c.word.ensures))
