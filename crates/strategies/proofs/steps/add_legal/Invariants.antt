use Rattle.std.proofs.Common.{◌≡◌, ◌-◌}
use Rattle.board_text.specs.declared.board.TheConstants.{MAX_LABELS}
use Rattle.strategies.proofs.AddedLabels.{AreAddedBefore}
use Rattle.strategies.specs.Inside.NumberedPositions.{over_kind}
use Rattle.strategies.proofs.steps.add_legal.Given as goal

abbrev pub invariant-loop-label : goal.invariant-loop-label
invariant-loop-label g l = record {
  added : AreAddedBefore (over_kind (g.W.PositionWalk.kind l.here)) (g.W.PositionWalk.held l.here) l.pebble l.labels
      (g.S.ReachedNumbers.reached l.fn.reached) (g.S.ReachedNumbers.reached l.reached);
  room : g.S.ReachedNumbers.room l.reached ≡ g.S.ReachedNumbers.room l.fn.reached;
}

abbrev pub decreases-loop-label : goal.decreases-loop-label
decreases-loop-label g l = MAX_LABELS - l.labels.from
