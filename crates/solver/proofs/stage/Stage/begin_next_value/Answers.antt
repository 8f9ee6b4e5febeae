use Rattle.std.proofs.Common.{◌<◌, subst, sym, ap, arith}
use Rattle.graphs.specs.Numbered.{graph_of}
use Rattle.solver.specs.Inside.Stage.{PlainStage, at_next_value}
use Rattle.solver.proofs.stage.Stage.begin_next_value.Goals as goal

pub invariant_of-self : goal.invariant_of-self
invariant_of-self g c =
    let s = c.self.inside in
    let small = c.self.invariant.0 in
    let low : s.value < (graph_of s.graph).configurations =
    subst (λ (v : PlainStage). v.value < (graph_of v.game).configurations) (sym c.self.view_is) c.requires in (
      record { is_graph = small.is_graph; few = small.few; low = omega arith },
      c.self.invariant.1,
      c.self.invariant.2,
      c.self.invariant.3,
    )

pub returns : goal.returns
returns g c = ap at_next_value c.self.view_is
