use Rattle.std.proofs.Common.{◌≡◌, ◌+◌, ◌-◌, ◌<◌, get_or, arith}
use Rattle.positions.specs.Game.{moved}
use Rattle.positions.specs.Ranks.{configuration_at, rank_of}
use Rattle.positions.proofs.Cited.{configuration_at_is}
use Rattle.strategies.proofs.SiblingRanks.{first-near}
use Rattle.strategies.proofs.gap_walk.first_near.Goals as goal
use Rattle.strategies.proofs.gap_walk.first_near.Goals.{After-pebbles}

some : (c : After-pebbles) → 0 < c.args.space.now.pebbles
some c = omega (arith, c.pebbles.ensures.is_board.pebbles)

pub bounds-held-pebbles : goal.bounds-held-pebbles
bounds-held-pebbles c =
    let there = configuration_at_is c.args.space.now c.args.rank c.requires.rank in
    let at = (goal.at.bounds-held-pebbles c).After-pebbles in
    rw (c.requires.held, c.pebbles.ensures.value) (let size = there.each_pebble in omega (arith, size, some at))

-- the rank is that of the first, and the last place above it
above : (c : After-pebbles) → c.args.rank
    ≡ rank_of c.args.space.now (moved (configuration_at c.args.space.now c.args.rank) (c.args.space.now.pebbles - 1) 0)
    + get_or c.args.held.now (c.pebbles.result - 1) 0
above c =
    rw (c.requires.held, c.pebbles.ensures.value)
    (first-near c.args.space.now (some c) c.args.rank c.requires.rank)

pub overflow_sub-result-2 : goal.overflow_sub-result-2
overflow_sub-result-2 c = omega (arith, above (goal.at.overflow_sub-result-2 c).After-pebbles)

pub returns-clause-first : goal.returns-clause-first
returns-clause-first c = omega (arith, above (goal.at.returns-clause-first c).After-pebbles)
