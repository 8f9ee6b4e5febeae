use Rattle.std.proofs.Common.{◌≡◌, ◌+◌, ◌==◌, cond, List, ℕ, map, sym, get_or, set, rules}
use Rattle.std.proofs.lemmas.List.{places}
use Rattle.index_lists.proofs.Cited.{cond_same, cond_other}
use Rattle.gap_values.specs.declared.closing.TheConstants.{OPEN}
use Rattle.solver.specs.Words.{value_of_word}
use Rattle.retro_core.specs.Round.{seat_tried}
use Rattle.retro_core.proofs.Machine.{some-of, owed-word, IsTrying, claiming}
use Rattle.retro_core.proofs.round_state.RoundState.claim.Given.{Over}
use Rattle.retro_core.proofs.round_state.RoundState.claim.Goals as goal
use Rattle.retro_core.proofs.round_state.RoundState.claim.Goals.{After-claim}

-- the round after a claim
module _ (g : Over) (c : After-claim g) where
  abbrev words : List ℕ
  words = c.self.inside.words.items

  abbrev ranks : List ℕ
  ranks = c.owed-owed.result.now

  made : (after : List ℕ)
      → after ≡ cond (c.index-2.result.now == OPEN)
      (set words (get_or ranks 0 0) (c.round_number-next.result + 1)) words
      → c.claim.new.self ≡ seat_tried (c.index-2.result.now == OPEN) c.index_mut.result.now
      → IsTrying c.self.inside.solver.now c.self.inside.width c.self.inside.counts.items (map value_of_word words)
      c.self.inside.seats.items c.args.self.now c.self.view_is c.self.invariant.0 c.self.invariant.1 c.args.seat
      c.requires
      ranks (c.index-2.result.now == OPEN) (map value_of_word after) c.claim.new.self
  made after words_are tried_is =
      claiming _ _ _ words _ _ c.self.view_is c.self.invariant.0 c.self.invariant.1 c.args.seat c.requires
      c.index.result.now ranks c.index-2.result.now c.round_number-next.result after c.index_mut.result.now
      c.claim.new.self
      c.index.ensures c.owed-owed.ensures (some-of _ _ c.is_empty.ensures c.if-is_empty.false) c.index-2.ensures
      c.round_number-next.ensures.value words_are c.index_mut.ensures.value tried_is

pub index-requires-2 : goal.index-requires-2
index-requires-2 g c =
    let low = owed-word _ _ _ _ _ _ c.self.view_is c.self.invariant.0 c.self.invariant.1 c.args.seat c.requires
    c.index.result.now c.owed-owed.result.now c.index.ensures c.owed-owed.ensures
    (some-of _ _ c.is_empty.ensures c.if-is_empty.false) in
    search (rules, low, places)

pub index_mut-requires-then-won : goal.index_mut-requires-then-won
index_mut-requires-then-won g c =
    let low = owed-word _ _ _ _ _ _ c.self.view_is c.self.invariant.0 c.self.invariant.1 c.args.seat c.requires
    c.index.result.now c.owed-owed.result.now c.index.ensures c.owed-owed.ensures
    (some-of _ _ c.is_empty.ensures c.if-is_empty.false) in
    search (rules, low, places)

pub invariant_of-self-then-won : goal.invariant_of-self-then-won
invariant_of-self-then-won g c =
    let tried = made g (goal.at.invariant_of-self-then-won g c).After-claim _
    (sym (cond_same _ OPEN _ _ c.if-won.true)) (search rules) in
    (c.self.invariant.0, tried.lawful)

pub invariant_of-self-else-won : goal.invariant_of-self-else-won
invariant_of-self-else-won g c =
    let tried = made g (goal.at.invariant_of-self-else-won g c).After-claim _
    (sym (cond_other _ OPEN _ _ c.if-won.false)) (search rules) in
    (c.self.invariant.0, tried.lawful)

pub returns-then-won-clause-done : goal.returns-then-won-clause-done
returns-then-won-clause-done g c =
    let tried = made g (goal.at.returns-then-won-clause-done g c).After-claim _
    (sym (cond_same _ OPEN _ _ c.if-won.true)) (search rules) in
    tried.tries

pub returns-else-won-clause-done : goal.returns-else-won-clause-done
returns-else-won-clause-done g c =
    let tried = made g (goal.at.returns-else-won-clause-done g c).After-claim _
    (sym (cond_other _ OPEN _ _ c.if-won.false)) (search rules) in
    tried.tries
