use Rattle.std.proofs.Common.{◌≡◌}
use Rattle.strategies.specs.Inside.NumberedPositions.{AreExpanded, IsAnswerStep, over_kind}
use Rattle.strategies.specs.Inside.Reached.{AreReachedWith}
use Rattle.strategies.proofs.AddedNumbers.{Below}
use Rattle.strategies.proofs.steps.add_new_answers.Given as goal

abbrev pub invariant-loop-pebble : goal.invariant-loop-pebble
invariant-loop-pebble g l = record {
  added : AreReachedWith (g.S.ReachedNumbers.reached l.fn.reached)
      (Below (IsAnswerStep (over_kind (g.W.PositionWalk.kind l.here)) (g.W.PositionWalk.held l.here)) l.pebble)
      (g.S.ReachedNumbers.reached l.reached);
  expanded : AreExpanded (over_kind (g.W.PositionWalk.kind l.here)) (IsAnswerStep (over_kind (g.W.PositionWalk.kind
      l.here)))
      (g.S.ReachedNumbers.reached l.expanded).Among (g.S.ReachedNumbers.reached l.reached).Among;
  room : g.S.ReachedNumbers.room l.reached ≡ g.S.ReachedNumbers.room l.fn.reached;
  gap_room : g.S.ReachedNumbers.room l.expanded ≡ g.S.ReachedNumbers.room l.fn.expanded;
}
