use Rattle.std.proofs.Common.{rules, ◌≡◌, [], ◌∷◌}
use Rattle.retro_core.proofs.RoundSteps.{opening-state}
use Rattle.retro_core.proofs.round_state.RoundState.open.Goals as goal

pub invariant_of-result : goal.invariant_of-result
invariant_of-result g c =
    let seats : c.push.new.self.items
    ≡ record { width = c.args.width; todo = c.in_ok-todo.todo.items; owed = []; won = [] } ∷ [] =
    search rules in
    let opened = opening-state c.args.solver.now c.to_strike.ensures.kept c.args.width c.in_ok-counts.counts.items
    c.in_ok-words.words.items c.counts.result.now c.words.result.now
    c.push.new.self.items c.in_ok-todo.todo.items c.requires.some_width c.counts.ensures.size c.words.ensures.size
    c.counts.ensures.counts c.words.ensures.values c.in_ok-todo.ensures.ranks
    c.in_ok-counts.ensures.items c.in_ok-words.ensures.items seats in
    (c.to_strike.ensures.kept, opened.lawful)

pub returns : goal.returns
returns g c =
    let seats : c.push.new.self.items
    ≡ record { width = c.args.width; todo = c.in_ok-todo.todo.items; owed = []; won = [] } ∷ [] =
    search rules in
    opening-state c.args.solver.now c.to_strike.ensures.kept c.args.width c.in_ok-counts.counts.items
    c.in_ok-words.words.items c.counts.result.now c.words.result.now
    c.push.new.self.items c.in_ok-todo.todo.items c.requires.some_width c.counts.ensures.size c.words.ensures.size
    c.counts.ensures.counts c.words.ensures.values c.in_ok-todo.ensures.ranks
    c.in_ok-counts.ensures.items c.in_ok-words.ensures.items seats
