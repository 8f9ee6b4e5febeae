use Rattle.std.proofs.Common.{◌≡◌, subst, arith}
use Rattle.positions.specs.Ranks.{configuration_at}
use Rattle.positions.proofs.HeldPlaces.{AreFirstHeld, all_held, one_held}
use Rattle.positions.proofs.Ranks.{configuration_at_is}
use Rattle.positions.proofs.space.Space.places_at.Goals as goal

pub loop-pebble-preserved : goal.loop-pebble-preserved
loop-pebble-preserved c =
    one_held (configuration_at c.args.self.now c.args.rank) c.loop-pebble.held c.loop-pebble.pebble c.label_at.result
    (omega (
      arith,
      c.loop-pebble-test.true,
      c.pebbles-pebble-end.ensures.value,
      c.pebbles-pebble-end.ensures.is_board.pebbles.1,
    ))
    c.label_at.ensures.label c.loop-pebble.invariant

pub returns : goal.returns
returns c =
    let all : c.loop-pebble.pebble ≡ c.args.self.now.pebbles =
    (let end = c.loop-pebble.auto.pebble-end in let past = c.loop-pebble-test.false in omega
    (arith, c.pebbles-pebble-end.ensures.value)) in
    all_held (configuration_at c.args.self.now c.args.rank) c.loop-pebble.held c.args.self.now.pebbles
    (configuration_at_is c.args.self.now c.args.rank c.requires).each_pebble
    c.pebbles-pebble-end.ensures.is_board.pebbles.1
    (subst (λ n. AreFirstHeld (configuration_at c.args.self.now c.args.rank) n c.loop-pebble.held) all
    c.loop-pebble.invariant)
