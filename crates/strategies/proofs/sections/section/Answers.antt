use Rattle.std.proofs.lemmas.Result.{err_from_is_err_and}
use Rattle.strategies.specs.Inside.NumberedPositions.{over_kind}
use Rattle.strategies.proofs.RowsAt.{may_stand, section_in_order}
use Rattle.strategies.proofs.sections.section.Goals as goal

pub rows_at-requires-clause-numbers : goal.rows_at-requires-clause-numbers
rows_at-requires-clause-numbers g c =
    let over = over_kind (g.W.PositionWalk.kind c.args.here.now) in
    rw (c.deref.ensures.value, c.end_keeping.ensures.kind, c.reached.ensures.kind)
    (may_stand over.board over.numbering c.reached.ensures.positions.numbers (g.R.SectionRow.side over c.args.start) _ _
    (c.in_ok-reached.ensures.ok c.args.start) c.in_ok-numbers.ensures)

pub returns-clause-ok : goal.returns-clause-ok
returns-clause-ok g c =
    let over = over_kind (g.W.PositionWalk.kind c.args.here.now) in
    section_in_order over.board over.numbering c.reached.ensures.positions.numbers
    (g.R.SectionRow.side over c.args.start) _ _ c.in_ok-rows.rows.items
    (c.in_ok-reached.ensures.ok c.args.start) c.in_ok-numbers.ensures
    (rw (c.deref.ensures.value, c.end_keeping.ensures.kind, c.reached.ensures.kind) at c.in_ok-rows.ensures)

pub returns-in_err-reached-clause-fault : goal.returns-in_err-reached-clause-fault
returns-in_err-reached-clause-fault g c =
    let p = err_from_is_err_and c.from_residual.result c.from_residual.ensures.1 in
    rw (p.1, p.2) (c.in_err-reached.ensures.fault c.args.start)
