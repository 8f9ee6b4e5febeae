use Rattle.std.proofs.Common.{◌≡◌, ◌≢◌, ◌-◌, ◌<◌, ◌≤◌, ◌∙◌, ℕ, true, List, length, slice_index, ap, sym, subst, arith}
use Rattle.board_text.specs.PlainBoard.{IsBoard}
use Rattle.gap_values.specs.declared.closing.TheConstants.{OPEN}
use Rattle.graphs.specs.Numbered.{Numbered, numbered, Ordered}
use Rattle.positions.specs.Ranks.{configurations}
use Rattle.positions.specs.declared.space.TheConstants.{MAX_CONFIGURATIONS}
use Rattle.solver.specs.Solving.{Solving}
use Rattle.solver.specs.Inside.Stage.{PlainStage, IsState}
use Rattle.solver.specs.Words.{AreValueWords}
use Rattle.solver.proofs.FoundWords.{words-inside, words-of}
use Rattle.solver.proofs.solver.Solver+S.close.Given
use Rattle.solver.proofs.solver.Solver+S.close.Goals as goal
use Rattle.solver.proofs.solver.Solver+S.close.Goals.{After-into_numbers}

module _ (g : Given.Over) (c : After-into_numbers g) where
  abbrev s : PlainStage
  s = c.self.inside.stage

  state : IsState s (s.value - 1) true
  state = subst (λ d. IsState s (s.value - 1) d) (ap (λ (v : Solving). v.is_done) c.self.view_is ∙ c.requires)
      c.self.invariant

  -- the numbers are those of the stage's game
  own : numbered c.into_numbers.result Ordered ≡ s.game
  own = c.into_numbers.ensures ∙ c.into_parts-graph.ensures.graph

pub new-requires-clause-is_board : goal.new-requires-clause-is_board
new-requires-clause-is_board g c =
    let at = (goal.at.new-requires-clause-is_board g c).After-into_numbers in
    subst (λ (n : Numbered). IsBoard n.board) (sym (own g at)) c.self.invariant.is_board

pub new-requires-clause-few : goal.new-requires-clause-few
new-requires-clause-few g c =
    let at = (goal.at.new-requires-clause-few g c).After-into_numbers in
    subst (λ (n : Numbered). configurations n.board ≤ MAX_CONFIGURATIONS) (sym (own g at)) c.self.invariant.small

pub new-requires-clause-words : goal.new-requires-clause-words
new-requires-clause-words g c =
    let at = (goal.at.new-requires-clause-words g c).After-into_numbers in
    subst (λ (p : Numbered × List ℕ). AreValueWords p.0 p.1)
    (λ j. (sym (own g at) j, sym c.into_parts-graph.ensures.words j))
    (words-of (s g at) ((s g at).value - 1) (state g at))

pub new-requires-clause-inside : goal.new-requires-clause-inside
new-requires-clause-inside g c =
    let at = (goal.at.new-requires-clause-inside g c).After-into_numbers in
    let parts = c.into_parts-graph.ensures in
    subst (λ (l : List ℕ). (x : ℕ) → x < length l → slice_index l x ≢ OPEN → slice_index l x
    < c.into_parts-graph.result.1) (sym parts.words) (λ x i valued.
    let low = words-inside (s g at) ((s g at).value - 1) (state g at) x i valued in
    omega (arith, low, parts.value, c.self.invariant.value_is))

pub returns : goal.returns
returns g c =
    let at = (goal.at.returns g c).After-into_numbers in
    c.new.ensures ∙ ap (λ (n : Numbered). n.board) (own g at) ∙ ap (λ (v : Solving). v.game.board) c.self.view_is
