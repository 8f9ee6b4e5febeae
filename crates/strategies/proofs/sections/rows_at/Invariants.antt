use Rattle.std.proofs.Common.{◌≡◌, take}
use Rattle.strategies.specs.Inside.NumberedPositions.{over_kind}
use Rattle.strategies.specs.Inside.Side.{AreRowsAt}
use Rattle.strategies.proofs.sections.rows_at.Given as goal

abbrev pub invariant-loop-number : goal.invariant-loop-number
invariant-loop-number g l = record {
  kind : g.W.PositionWalk.kind l.here ≡ g.W.PositionWalk.kind l.fn.here;
  rows : AreRowsAt (over_kind (g.W.PositionWalk.kind l.fn.here)).numbering
      (g.R.SectionRow.side (over_kind (g.W.PositionWalk.kind l.fn.here)) l.fn.start)
      (take l.number-index l.fn.numbers) l.rows.items;
}
