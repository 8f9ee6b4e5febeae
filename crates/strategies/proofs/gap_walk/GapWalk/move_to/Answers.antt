use Rattle.std.proofs.Common.{◌≡◌, ◌-◌, ◌<◌, ℕ, List, subst, ap, sym, ◌∙◌, arith}
use Rattle.board_text.specs.PlainBoard.{IsConfiguration, places}
use Rattle.positions.specs.Game.{moved}
use Rattle.strategies.specs.Inside.Walks.{AreGapNumbers, AreNumberRows}
use Rattle.strategies.proofs.SiblingRanks.{placed, rows-moved, walk-moved}
use Rattle.strategies.proofs.gap_walk.GapWalk.move_to.Goals as goal
use Rattle.strategies.proofs.gap_walk.GapWalk.move_to.Goals.{After-as_slice}

abbrev after : After-as_slice → List ℕ
after c = moved c.self.inside.configuration (c.self.inside.space.now.pebbles - 1) c.in-Some.place

some : (c : After-as_slice) → 0 < c.self.inside.space.now.pebbles
some c = omega (arith, c.pebbles.ensures.is_board.pebbles)

low : (c : After-as_slice) → c.in-Some.place < places c.self.inside.space.now
low c = rw (← c.self.view_is) at c.in-Some.ensures.place

is : (c : After-as_slice) → IsConfiguration c.self.inside.space.now (after c)
is c = placed c.self.inside.space.now (some c) c.self.inside.configuration c.self.invariant.is_configuration
    c.in-Some.place (low c)

here : (c : After-as_slice) → c.as_slice.result.now ≡ after c
here c = c.as_slice.ensures.value ∙ c.set.ensures ∙ ap (λ n. moved c.self.inside.configuration (n - 1) c.in-Some.place)
    c.pebbles.ensures.value

pub set-requires : goal.set-requires
set-requires c =
    omega (
      arith,
      c.pebbles.ensures.value,
      c.pebbles.ensures.is_board.pebbles,
      c.self.invariant.is_configuration.each_pebble,
    )

pub gaps_of-self-inside-requires-clause-held : goal.gaps_of-self-inside-requires-clause-held
gaps_of-self-inside-requires-clause-held c =
    let at = (goal.at.gaps_of-self-inside-requires-clause-held c).After-as_slice in
    rw (here at, c.self.invariant.same_board) (is at)

pub gaps_of-self-inside-requires-clause-rests : goal.gaps_of-self-inside-requires-clause-rests
gaps_of-self-inside-requires-clause-rests c =
    let at = (goal.at.gaps_of-self-inside-requires-clause-rests c).After-as_slice in
    let w = c.self.inside in
    rw (here at)
    (subst (λ (n : ℕ). AreNumberRows (after at) n w.rests) (sym (is at).each_pebble)
    (rows-moved w.space.now (some at) w.configuration w.rests c.in-Some.place c.self.invariant.numbers))

pub invariant_of-self : goal.invariant_of-self
invariant_of-self c =
    let at = (goal.at.invariant_of-self c).After-as_slice in
    let w = c.self.inside in
    let found : AreGapNumbers (after at) w.space.now.pebbles c.gaps_of-self-inside.result =
    subst (λ (n : ℕ). AreGapNumbers (after at) n c.gaps_of-self-inside.result) (is at).each_pebble
    (rw (here at) at c.gaps_of-self-inside.ensures) in
    rw (← c.as_slice.ensures.value, here at)
    (walk-moved w.space.now (some at) w.members.now w.configuration w.first w.rests w.gaps
    c.gaps_of-self-inside.result c.in-Some.place c.self.invariant (low at) found)
