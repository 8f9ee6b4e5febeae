use Rattle.std.proofs.Common.{◌≡◌, ◌<◌, ◌≤◌, ℕ, ap, ◌∙◌, sym, subst, Some, None}
use Rattle.board_text.specs.PlainBoard.{PlainBoard}
use Rattle.positions.specs.Counts.{IsSmallest}
use Rattle.positions.specs.Gaps.{gaps, pebble_of, IsDominator}
use Rattle.graphs.specs.Numbered.{Numbered, graph_of, configuration_of, Ordered}
use Rattle.graphs.proofs.Cited.{ordered-gaps, dominator-some, dominator-none}
use Rattle.solver.specs.Solving.{Solving}
use Rattle.solver.proofs.solver.Solver+S.dominator.Given
use Rattle.solver.proofs.solver.Solver+S.dominator.Goals as goal
use Rattle.solver.proofs.solver.Solver+S.dominator.Goals.{After-answered_gap}

module _ (g : Given.Over) (c : After-answered_gap g) where
  abbrev game : Numbered
  game = c.self.inside.stage.game

  ordered : game.numbering ≡ Ordered
  ordered = rw (← c.self.view_is) at c.space-space.ensures.ordered

  own : c.space-space.result.now ≡ game.board
  own = c.space-space.ensures.value ∙ ap (λ (v : Solving). v.game.board) (sym c.self.view_is)

  inside : c.args.rank < (graph_of game).configurations
  inside = rw (← c.self.view_is) at c.requires

  same : (n : ℕ) → n ≡ (graph_of c.graph.result.now).struck c.args.rank → n ≡ (graph_of game).struck c.args.rank
  same n e = subst (λ (m : Numbered). n ≡ (graph_of m).struck c.args.rank) c.graph.ensures e

pub gap_pebble-requires : goal.gap_pebble-requires
gap_pebble-requires g c =
    let at = (goal.at.gap_pebble-requires g c).After-answered_gap in
    let low = subst (λ (m : Numbered). c.in-Some.gap < (graph_of m).gaps) c.graph.ensures c.in-Some.ensures.1 in
    subst (λ (b : PlainBoard). c.in-Some.gap < gaps b) (sym (own g at))
    (subst (λ n. c.in-Some.gap < n) (ordered-gaps (game g at) (ordered g at)) low)

pub returns-in-Some : goal.returns-in-Some
returns-in-Some g c =
    let at = (goal.at.returns-in-Some g c).After-answered_gap in
    let low = subst (λ (m : Numbered). c.in-Some.gap < (graph_of m).gaps) c.graph.ensures c.in-Some.ensures.1 in
    let pebble : pebble_of (game g at).board c.in-Some.gap ≡ c.gap_pebble.result =
    ap (λ (b : PlainBoard). pebble_of b c.in-Some.gap) (sym (own g at)) ∙ sym c.gap_pebble.ensures.pebble in
    subst (λ (v : Solving). IsSmallest (IsDominator v.game.board (configuration_of v.game c.args.rank))
    (Some c.gap_pebble.result)) c.self.view_is
    (subst (λ p. IsSmallest (IsDominator (game g at).board (configuration_of (game g at) c.args.rank)) (Some p)) pebble
    (dominator-some (game g at) (ordered g at) c.self.invariant.is_board c.args.rank c.in-Some.gap (inside g at)
    (same g at c.in-Some.gap c.in-Some.ensures.0) low))

pub returns-in-None : goal.returns-in-None
returns-in-None g c =
    let at = (goal.at.returns-in-None g c).After-answered_gap in
    let none = subst (λ (m : Numbered). (graph_of m).gaps ≤ (graph_of m).struck c.args.rank) c.graph.ensures
    c.in-None.ensures in
    subst (λ (v : Solving). IsSmallest (IsDominator v.game.board (configuration_of v.game c.args.rank)) None)
    c.self.view_is
    (dominator-none (game g at) (ordered g at) c.self.invariant.is_board c.args.rank (inside g at) none)
