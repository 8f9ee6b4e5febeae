use Rattle.std.proofs.Common.{rules}
use Rattle.strategies.specs.Inside.NumberedPositions.{over_kind}
use Rattle.strategies.proofs.AddedAnswers.{answer_added, no_answer_added, worthless_not_added}
use Rattle.strategies.proofs.PositionNumbers.{after_is}
use Rattle.strategies.proofs.steps.add_answer.Goals as goal

pub add-requires : goal.add-requires
add-requires g c =
    let is_best = rw c.in-Some.is at c.best_answer.ensures in
    rw c.after.ensures
    (c.requires.room _ (after_is (over_kind (g.W.PositionWalk.kind c.args.here.now))
    (g.W.PositionWalk.held c.args.here.now) c.args.pebble c.in-Some.best.label c.requires.position
    is_best.0.0.legal.is_label))

pub returns-in_ok-add-clause-added : goal.returns-in_ok-add-clause-added
returns-in_ok-add-clause-added g c =
    let is = c.requires.position in
    answer_added (over_kind (g.W.PositionWalk.kind c.args.here.now)) is.positions
    (g.W.PositionWalk.held c.args.here.now) c.args.pebble (g.S.ReachedNumbers.reached c.args.reached.now)
    is.is_configuration c.in-Some.best (rw c.in-Some.is at c.best_answer.ensures) _ c.after.result c.requires.pebble
    (search rules) c.after.ensures c.in_ok-add.ensures.reached

pub returns-else-lt-clause-added : goal.returns-else-lt-clause-added
returns-else-lt-clause-added g c =
    let is = c.requires.position in
    worthless_not_added (over_kind (g.W.PositionWalk.kind c.args.here.now)) is.positions
    (g.W.PositionWalk.held c.args.here.now) c.args.pebble (g.S.ReachedNumbers.reached c.args.reached.now)
    is.is_configuration c.in-Some.best (rw c.in-Some.is at c.best_answer.ensures) (search rules)

pub returns-in_default-clause-added : goal.returns-in_default-clause-added
returns-in_default-clause-added g c =
    no_answer_added (over_kind (g.W.PositionWalk.kind c.args.here.now)) c.requires.position.positions
    (g.W.PositionWalk.held c.args.here.now) c.args.pebble (g.S.ReachedNumbers.reached c.args.reached.now)
    (rw c.in_default.is at c.best_answer.ensures)
