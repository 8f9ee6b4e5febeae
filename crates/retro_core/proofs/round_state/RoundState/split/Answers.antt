use Rattle.std.proofs.Common.{◌∙◌, ◌≡◌, ◌++◌, ◌∷◌, [], rules}
use Rattle.std.proofs.lemmas.List.{places}
use Rattle.retro_core.proofs.Machine.{splitting}
use Rattle.retro_core.proofs.round_state.RoundState.split.Goals as goal

pub invariant_of-self-2 : goal.invariant_of-self-2
invariant_of-self-2 g c =
    let pushed : c.push.new.self.items ≡ c.self.inside.seats.items ++ c.in_ok-half.half ∷ [] = search rules in (
      c.self.invariant.0,
      (splitting _ _ _ _ _ _ c.self.view_is c.self.invariant.0 c.self.invariant.1 c.args.seat c.requires
          c.index.result.now c.in_ok-half.half c.push.new.self.items c.index_mut.result.now c.keep_half.new.self
          c.len-new_seat.result (λ e. c.if-seat_width-eq1.false (c.seat_width.ensures.value ∙ e)) c.index.ensures
          c.in_ok-half.ensures pushed c.index_mut.ensures.value c.keep_half.ensures).lawful,
    )

pub returns-clause-done : goal.returns-clause-done
returns-clause-done g c =
    let pushed : c.push.new.self.items ≡ c.self.inside.seats.items ++ c.in_ok-half.half ∷ [] = search rules in
    (splitting _ _ _ _ _ _ c.self.view_is c.self.invariant.0 c.self.invariant.1 c.args.seat c.requires
    c.index.result.now c.in_ok-half.half c.push.new.self.items c.index_mut.result.now c.keep_half.new.self
    c.len-new_seat.result (λ e. c.if-seat_width-eq1.false (c.seat_width.ensures.value ∙ e)) c.index.ensures
    c.in_ok-half.ensures pushed c.index_mut.ensures.value c.keep_half.ensures).splits
    (search (rules, c.len-new_seat.ensures, places))
