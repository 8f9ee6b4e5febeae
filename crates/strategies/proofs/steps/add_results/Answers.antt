use Rattle.std.proofs.Common.{refl}
use Rattle.strategies.specs.Inside.NumberedPositions.{LegalLeads, over_kind}
use Rattle.strategies.proofs.Expanded.{expanded_more, gap_known, no_request_added, results_added}
use Rattle.strategies.proofs.steps.add_results.Goals as goal

pub returns-in_default : goal.returns-in_default
returns-in_default g c = record {
  added = no_request_added (over_kind (g.W.PositionWalk.kind c.args.here.now)) (g.W.PositionWalk.held c.args.here.now) _
      (rw c.in_default.is at c.best_request-request.ensures.request).best;
  expanded = c.requires.expanded;
  room = refl;
  gap_room = refl;
}

pub returns-then-contains : goal.returns-then-contains
returns-then-contains g c =
    let over = over_kind (g.W.PositionWalk.kind c.args.here.now) in
    let held = g.W.PositionWalk.held c.args.here.now in
    let best = (rw c.in-Some.is at c.best_request-request.ensures.request).best in
    let numbers = g.S.ReachedNumbers.reached c.args.reached.now in
    record {
      added = results_added over held c.in-Some.pebble best numbers numbers
          (gap_known over (LegalLeads over) held c.in-Some.pebble c.gap-gap.result
          (g.S.ReachedNumbers.reached c.args.expanded.now) numbers c.gap-gap.ensures.position.is_configuration
          best.0.is_pebble c.gap-gap.ensures.number c.requires.expanded (c.contains.ensures.0 c.if-contains.true));
      expanded = c.requires.expanded;
      room = refl;
      gap_room = refl;
    }

pub returns : goal.returns
returns g c =
    let over = over_kind (g.W.PositionWalk.kind c.args.here.now) in
    let held = g.W.PositionWalk.held c.args.here.now in
    let is = c.gap-gap.ensures.position in
    let best = (rw c.in-Some.is at c.best_request-request.ensures.request).best in
    record {
      added = results_added over held c.in-Some.pebble best _ _ c.in_ok-add_legal.ensures.added;
      expanded = expanded_more over (LegalLeads over) is.positions.results held c.in-Some.pebble
          c.gap-gap.result (g.S.ReachedNumbers.reached c.args.expanded.now)
          (g.S.ReachedNumbers.reached c.add.new.self)
          (g.S.ReachedNumbers.reached c.args.reached.now) (g.S.ReachedNumbers.reached c.add_legal.new.reached)
          is.is_configuration best.0.is_pebble c.gap-gap.ensures.number c.requires.expanded
          c.in_ok-add.ensures.reached c.in_ok-add_legal.ensures.added;
      room = c.in_ok-add_legal.ensures.room;
      gap_room = c.in_ok-add.ensures.room;
    }
