use Rattle.std.proofs.Common.{◌∙◌}
use Rattle.strategies.specs.Inside.NumberedPositions.{over_kind}
use Rattle.strategies.proofs.AddedLabels.{label_added, labels_added, next_legal}
use Rattle.strategies.proofs.PositionNumbers.{after_is}
use Rattle.strategies.proofs.steps.add_legal.Goals as goal

pub add-requires : goal.add-requires
add-requires g c =
    let over = over_kind (g.W.PositionWalk.kind c.args.here.now) in
    let held = g.W.PositionWalk.held c.args.here.now in
    let is = c.board.ensures.position in
    let next = next_legal over is.positions.board held c.args.pebble c.loop-label.labels
    (g.S.ReachedNumbers.reached c.args.reached.now) (g.S.ReachedNumbers.reached c.loop-label.reached)
    c.loop-label.invariant.added c.take_next.new.self c.in-Some.label c.in-Some.ensures in
    rw (c.after.ensures, c.loop-label.invariant.room)
    (c.requires.room _ (after_is over held c.args.pebble c.in-Some.label is next.0.1.is_label))

pub loop-label-preserved : goal.loop-label-preserved
loop-label-preserved g c =
    let over = over_kind (g.W.PositionWalk.kind c.args.here.now) in
    let held = g.W.PositionWalk.held c.args.here.now in
    record {
      added = label_added over c.board.ensures.position.positions.board held c.args.pebble c.loop-label.labels
          (g.S.ReachedNumbers.reached c.args.reached.now) (g.S.ReachedNumbers.reached c.loop-label.reached)
          c.loop-label.invariant.added c.take_next.new.self c.in-Some.label c.in-Some.ensures c.after.result
          (g.S.ReachedNumbers.reached c.add.new.self) c.after.ensures c.in_ok-add.ensures.reached;
      room = c.in_ok-add.ensures.room ∙ c.loop-label.invariant.room;
    }

pub returns-clause-added : goal.returns-clause-added
returns-clause-added g c =
    labels_added (over_kind (g.W.PositionWalk.kind c.args.here.now)) c.board.ensures.position.positions.board
    (g.W.PositionWalk.held c.args.here.now) c.args.pebble c.loop-label.labels
    (g.S.ReachedNumbers.reached c.args.reached.now) (g.S.ReachedNumbers.reached c.loop-label.reached)
    c.loop-label.invariant.added c.in_default.ensures
