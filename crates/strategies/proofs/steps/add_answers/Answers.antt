use Rattle.std.proofs.Common.{refl, ◌∙◌, arith}
use Rattle.strategies.specs.Inside.NumberedPositions.{IsAnswerStep, over_kind}
use Rattle.strategies.proofs.AddedAnswers.{answers_added}
use Rattle.strategies.proofs.AddedNumbers.{reached_more, reached_start}
use Rattle.strategies.proofs.steps.add_answers.Goals as goal

pub loop-pebble-init : goal.loop-pebble-init
loop-pebble-init g c = record {
  added = reached_start (g.S.ReachedNumbers.reached c.args.reached.now)
      (IsAnswerStep (over_kind (g.W.PositionWalk.kind c.args.here.now)) (g.W.PositionWalk.held c.args.here.now));
  room = refl;
}

pub loop-pebble-preserved : goal.loop-pebble-preserved
loop-pebble-preserved g c = record {
  added = reached_more _ _ _
      (IsAnswerStep (over_kind (g.W.PositionWalk.kind c.args.here.now)) (g.W.PositionWalk.held c.args.here.now))
      c.loop-pebble.pebble c.loop-pebble.invariant.added c.in_ok-add_answer.ensures.added;
  room = c.in_ok-add_answer.ensures.room ∙ c.loop-pebble.invariant.room;
}

pub returns-clause-added : goal.returns-clause-added
returns-clause-added g c =
    let end = rw c.board.ensures.board at c.pebbles-pebble-end.ensures.value in
    answers_added (over_kind (g.W.PositionWalk.kind c.args.here.now)) (g.W.PositionWalk.held c.args.here.now)
    c.loop-pebble.pebble _ _ (omega (arith, end, c.loop-pebble-test.false)) c.loop-pebble.invariant.added
