use Rattle.std.proofs.Common.{◌≡◌, ◌-◌, ◌≤◌, ◌∙◌, false, refl, sym, subst, arith}
use Rattle.board_text.specs.PlainBoard.{IsBoard}
use Rattle.graphs.specs.Numbered.{Numbered, graph_of}
use Rattle.graphs.proofs.Cited.{some-configurations}
use Rattle.positions.specs.Ranks.{configurations}
use Rattle.positions.specs.declared.space.TheConstants.{MAX_CONFIGURATIONS}
use Rattle.solver.specs.Inside.Stage.{PlainStage, at_next_value, IsState}
use Rattle.solver.specs.Inside.Opening.{IsOpened}
use Rattle.solver.proofs.States.{start-state, solving_of}
use Rattle.solver.proofs.solver.Solver.of.Goals as goal

opened-state : (s : PlainStage) (n : Numbered) → s.game ≡ n → IsBoard n.board
    → (graph_of n).configurations ≤ MAX_CONFIGURATIONS → configurations n.board ≤ MAX_CONFIGURATIONS → IsOpened s
    → IsState (at_next_value s) ((at_next_value s).value - 1) false
opened-state s n same board few small opened =
    start-state s (subst (λ (m : Numbered). IsBoard m.board) (sym same) board)
    (subst (λ (m : Numbered). (graph_of m).configurations ≤ MAX_CONFIGURATIONS) (sym same) few)
    (subst (λ (m : Numbered). configurations m.board ≤ MAX_CONFIGURATIONS) (sym same) small) opened

pub begin_next_value-requires : goal.begin_next_value-requires
begin_next_value-requires g c =
    let e = c.in_ok-stage.ensures in
    let s : PlainStage = c.in_ok-stage.stage in
    let some = some-configurations s.game (subst (λ (m : Numbered). IsBoard m.board) (sym e.game) e.board) in
    omega (arith, some, e.opened.value_is)

pub invariant_of-result : goal.invariant_of-result
invariant_of-result g c =
    let e = c.in_ok-stage.ensures in
    rw c.begin_next_value.ensures
    (opened-state c.in_ok-stage.stage c.in_ok-graph.graph e.game e.board e.few e.small e.opened)

pub returns : goal.returns
returns g c =
    let e = c.in_ok-stage.ensures in
    let at = e.opened.value_is in
    rw c.begin_next_value.ensures (
      e.game ∙ c.in_ok-graph.ensures,
      omega arith,
      refl,
      solving_of (at_next_value c.in_ok-stage.stage) _ false
          (opened-state c.in_ok-stage.stage c.in_ok-graph.graph e.game e.board e.few e.small e.opened),
    )
