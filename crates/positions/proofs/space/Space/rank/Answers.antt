use Rattle.std.proofs.Common.{◌<◌, arith}
use Rattle.positions.proofs.SpaceNumbers.{numbers}
use Rattle.positions.specs.Ranks.{rank_of, configurations}
use Rattle.positions.proofs.Ranks.{rank_below}
use Rattle.positions.proofs.RankTurns.{front_more, front_all}
use Rattle.positions.proofs.space.Space.rank.Goals as goal

pub loop-place-preserved : goal.loop-place-preserved
loop-place-preserved c =
    let are = numbers c.args.self.now c.self.inside c.self.view_is c.self.invariant in
    rw c.value.ensures.value (front_more c.args.self.now _ _ c.args.configuration.now c.loop-place.place-index
    c.loop-place.rank are c.requires (omega arith) c.loop-place.invariant).front

pub returns-clause-below : goal.returns-clause-below
returns-clause-below c =
    let are = numbers c.args.self.now c.self.inside c.self.view_is c.self.invariant in
    let same = front_all c.args.self.now c.args.configuration.now c.loop-place.place-index c.loop-place.rank
    (omega arith) c.loop-place.invariant in
    let low : rank_of c.args.self.now c.args.configuration.now < configurations c.args.self.now =
    rank_below c.args.self.now c.args.configuration.now c.requires in
    omega (arith, same)
