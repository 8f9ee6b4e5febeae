use Rattle.std.proofs.Common.{arith}
use Rattle.strategies.proofs.SiblingRanks.{others-labels}
use Rattle.strategies.proofs.gap_walk.GapWalk.others.Goals as goal

pub returns-clause-places : goal.returns-clause-places
returns-clause-places c =
    let w = c.self.inside in
    rw (c.as_slice.ensures.value, c.pebbles.ensures.value, ← c.self.view_is)
    (others-labels w.space.now w.configuration c.self.invariant.is_configuration
    (omega (arith, c.pebbles.ensures.is_board.pebbles)))
