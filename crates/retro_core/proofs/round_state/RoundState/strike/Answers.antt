use Rattle.std.proofs.Common.{rules, ◌≡◌, ℕ, ◌<◌, ◌≤◌, List, length, map, arith, ap, ◌∙◌, subst, get_or, set, Option}
use Rattle.std.proofs.Common.{None}
use Rattle.std.proofs.lemmas.List.{get_or_read, set-get_or}
use Rattle.std.proofs.lemmas.Result.{err_from_is_err_and}
use Rattle.graphs.specs.Numbered.{Numbered, graph_of}
use Rattle.solver.specs.Words.{value_of_word}
use Rattle.retro_core.specs.Round.{PlainSeat, round_of, seat_struck}
use Rattle.retro_core.proofs.Machine.{some-of, due-read, IsStriking, striking, closing, count-then, count-else}
use Rattle.retro_core.proofs.round_state.RoundState.strike.Given.{Over}
use Rattle.retro_core.proofs.round_state.RoundState.strike.Goals.{After-strike, then-count-eq1, else-count-eq1}
use Rattle.retro_core.proofs.round_state.RoundState.strike.Goals as goal

pub answered_gap-requires : goal.answered_gap-requires
answered_gap-requires g c =
    let some : 0 < length c.todo-todo.result.now = some-of _ _ c.is_empty.ensures c.if-is_empty.false in
    let low = (due-read _ _ _ _ _ _ c.self.view_is c.self.invariant.0 c.self.invariant.1 c.args.seat c.requires
    c.index.result.now c.todo-todo.result.now c.index.ensures c.todo-todo.ensures some).worth.is_rank in
    let same = ap (λ (n : Numbered). (graph_of n).configurations) c.graph.ensures in
    omega (arith, low, same)

pub unreachable-requires : goal.unreachable-requires
unreachable-requires g c =
    let some : 0 < length c.todo-todo.result.now = some-of _ _ c.is_empty.ensures c.if-is_empty.false in
    let due = due-read _ _ _ _ _ _ c.self.view_is c.self.invariant.0 c.self.invariant.1 c.args.seat c.requires
    c.index.result.now c.todo-todo.result.now c.index.ensures c.todo-todo.ensures some in
    let struck = due.struck in
    let none = subst (λ (n : Numbered). (graph_of n).gaps ≤ (graph_of n).struck
    (get_or c.todo-todo.result.now 0 0)) c.graph.ensures c.in_default.ensures in
    omega (arith, struck, none)

-- the gap and its count, as they were read, and the round after the strike
module _ (g : Over) (c : After-strike g) where
  abbrev counts : List ℕ
  counts = c.self.inside.counts.items

  abbrev ranks : List ℕ
  ranks = c.todo-todo.result.now

  some : 0 < length ranks
  some = some-of _ _ c.is_empty.ensures c.if-is_empty.false

  abbrev game : Numbered
  game = c.self.inside.solver.now.game

  gap_is : c.in-Some.gap ≡ (graph_of game).struck (get_or ranks 0 0)
  gap_is = subst (λ (n : Numbered). c.in-Some.gap
      ≡ (graph_of n).struck (get_or ranks 0 0)) c.graph.ensures c.in-Some.ensures.0

  in_gaps : c.in-Some.gap < (graph_of game).gaps
  in_gaps = subst (λ (n : Numbered). c.in-Some.gap < (graph_of n).gaps) c.graph.ensures c.in-Some.ensures.1

  count_is : c.index-count.result.now ≡ get_or counts c.in-Some.gap 0
  count_is =
      let inside : c.in-Some.gap < length counts =
      (let low = in_gaps in let long = c.self.invariant.1.counts_length in omega arith) in
      get_or_read counts c.in-Some.gap c.index-count.result.now inside c.index-count.ensures 0

  made : (closed : Option ℕ)
      → c.strike.new.self
      ≡ seat_struck c.self.inside.solver.now c.in-Some.gap c.index-count.result.now c.index_mut.result.now
      → IsStriking c.self.inside.solver.now c.self.inside.width counts (map value_of_word c.self.inside.words.items)
      c.self.inside.seats.items c.args.self.now c.self.view_is c.self.invariant.0 c.self.invariant.1 c.args.seat
      c.requires
      ranks c.in-Some.gap c.index-count.result.now c.strike.new.self closed
  made closed struck_is =
      striking _ _ _ _ _ _ c.self.view_is c.self.invariant.0 c.self.invariant.1 c.args.seat c.requires
      c.index.result.now ranks c.in-Some.gap c.index-count.result.now c.index_mut.result.now
      c.strike.new.self closed c.index.ensures c.todo-todo.ensures some
      in_gaps gap_is count_is c.index_mut.ensures.value struck_is

pub overflow_sub-count : goal.overflow_sub-count
overflow_sub-count g c = (made g (goal.at.overflow_sub-count g c).After-strike None (search rules)).some_left

pub invariant_of-self-2 : goal.invariant_of-self-2
invariant_of-self-2 g c =
    (c.self.invariant.0, (made g (goal.at.invariant_of-self-2 g c).After-strike None (search rules)).lawful)

pub returns-clause-done : goal.returns-clause-done
returns-clause-done g c =
    let struck = made g (goal.at.returns-clause-done g c).After-strike c.if-count-eq1.closed (search rules) in
    struck.strikes (elim c.if-count-eq1.branch [
      | then-count-eq1 w ↦
          count-then c.index-count.result.now c.in-Some.gap c.if-count-eq1.closed w.if-count-eq1.true w.closed-is
      | else-count-eq1 w ↦
          count-else c.index-count.result.now c.in-Some.gap c.if-count-eq1.closed w.if-count-eq1.false w.closed-is
    ])

pub returns-in_err-strike-clause-refused : goal.returns-in_err-strike-clause-refused
returns-in_err-strike-clause-refused g c =
    let b = (goal.at.returns-in_err-strike-clause-refused g c).After-strike in
    let seats : List PlainSeat = c.self.inside.seats.items in
    let unchanged : c.strike.new.self ≡ c.index_mut.result.now = search rules in
    let same : set seats c.args.seat c.strike.new.self ≡ seats =
    ap (set seats c.args.seat) (unchanged ∙ c.index_mut.ensures.value)
    ∙ set-get_or seats c.args.seat c.index_mut.result.now in
    let p = err_from_is_err_and c.from_residual.result c.from_residual.ensures.1 in
    rw (p.1, p.2) (
      closing _ _ _ _ _ _ c.self.view_is c.self.invariant.0 c.self.invariant.1 c.args.seat c.requires
          c.index.result.now c.todo-todo.result.now c.in-Some.gap c.index-count.result.now c.index.ensures
          c.todo-todo.ensures (some g b)
          (in_gaps g b) (gap_is g b) (count_is g b) (c.strike.ensures.memory (search rules)),
      ap (round_of c.self.inside.solver.now c.self.inside.width (counts g b)
          (map value_of_word c.self.inside.words.items)) same ∙ c.self.view_is,
    )
