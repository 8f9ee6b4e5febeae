use Rattle.std.proofs.Common.{◌≡◌}
use Rattle.strategies.specs.Inside.NumberedPositions.{AreExpanded, over_kind}
use Rattle.strategies.proofs.Spread.{IsSpread}
use Rattle.strategies.proofs.sections.reached.Given as goal

abbrev pub invariant-loop-expanded : goal.invariant-loop-expanded
invariant-loop-expanded g l = record {
  kind : g.W.PositionWalk.kind l.here ≡ g.W.PositionWalk.kind l.fn.here;
  spread : IsSpread (over_kind (g.W.PositionWalk.kind l.fn.here))
      (g.R.SectionRow.moves (over_kind (g.W.PositionWalk.kind l.fn.here))) (g.S.ReachedNumbers.reached l.reached);
  expanded : AreExpanded (over_kind (g.W.PositionWalk.kind l.fn.here))
      (g.R.SectionRow.moves (over_kind (g.W.PositionWalk.kind l.fn.here))).Step
      (g.S.ReachedNumbers.reached l.expanded).Among (g.S.ReachedNumbers.reached l.reached).Among;
  bound : (g.S.ReachedNumbers.room l.reached).bound ≡ (g.S.ReachedNumbers.room l.fn.reached).bound;
  most : (g.S.ReachedNumbers.room l.reached).most ≡ (g.S.ReachedNumbers.room l.fn.reached).most;
  gap_room : g.S.ReachedNumbers.room l.expanded ≡ g.S.ReachedNumbers.room l.fn.expanded;
}

abbrev pub decreases-loop-expanded : goal.decreases-loop-expanded
decreases-loop-expanded g l = (g.S.ReachedNumbers.room l.reached).steps
