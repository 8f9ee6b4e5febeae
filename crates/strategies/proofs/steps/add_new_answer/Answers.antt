use Rattle.std.proofs.Common.{refl}
use Rattle.strategies.specs.Inside.NumberedPositions.{IsAnswerStep, over_kind}
use Rattle.strategies.proofs.Expanded.{expanded_more, gap_known}
use Rattle.strategies.proofs.steps.add_new_answer.Goals as goal

pub contains-requires : goal.contains-requires
contains-requires g c = rw c.gap-gap.ensures.number
    (c.requires.sets.room.gaps _ c.args.pebble c.gap-gap.ensures.position.is_configuration c.requires.pebble)

pub returns-then-contains : goal.returns-then-contains
returns-then-contains g c = record {
  added = gap_known (over_kind (g.W.PositionWalk.kind c.args.here.now)) _ (g.W.PositionWalk.held c.args.here.now)
      c.args.pebble c.gap-gap.result (g.S.ReachedNumbers.reached c.args.expanded.now)
      (g.S.ReachedNumbers.reached c.args.reached.now)
      c.gap-gap.ensures.position.is_configuration c.requires.pebble c.gap-gap.ensures.number c.requires.sets.expanded
      (c.contains.ensures.0 c.if-contains.true);
  expanded = c.requires.sets.expanded;
  room = refl;
  gap_room = refl;
}

pub returns : goal.returns
returns g c =
    let over = over_kind (g.W.PositionWalk.kind c.args.here.now) in
    let is = c.gap-gap.ensures.position in
    let added = c.in_ok-add_answer.ensures.added in
    record {
      added = added;
      expanded = expanded_more over (IsAnswerStep over) is.positions.answers (g.W.PositionWalk.held c.args.here.now)
          c.args.pebble c.gap-gap.result (g.S.ReachedNumbers.reached c.args.expanded.now)
          (g.S.ReachedNumbers.reached c.add.new.self)
          (g.S.ReachedNumbers.reached c.args.reached.now) (g.S.ReachedNumbers.reached c.add_answer.new.reached)
          is.is_configuration c.requires.pebble c.gap-gap.ensures.number c.requires.sets.expanded
          c.in_ok-add.ensures.reached added;
      room = c.in_ok-add_answer.ensures.room;
      gap_room = c.in_ok-add.ensures.room;
    }
