use Rattle.std.proofs.Common.{◌≡◌, ◌≤◌, ◌∙◌, length, take, ap, sym, subst}
use Rattle.std.specs.List.{flat_map}
use Rattle.std.proofs.lemmas.List.{take_all}
use Rattle.std.proofs.lemmas.Result.{err_from_is_err_and}
use Rattle.strategies.specs.Inside.NormalForm.{normal_by}
use Rattle.strategies.specs.Inside.NumberedPositions.{over_normal}
use Rattle.strategies.specs.Inside.Numbering.{by_order}
use Rattle.strategies.specs.Inside.Side.{AreRowsAt}
use Rattle.strategies.proofs.Numberings.{are_orders}
use Rattle.strategies.proofs.RowsAt.{may_stand, section_in_order}
use Rattle.strategies.proofs.SetRooms.{lists_have_room}
use Rattle.strategies.proofs.class_rows.section_in_parts.Goals as goal

pub section-requires-clause-kind : goal.section-requires-clause-kind
section-requires-clause-kind g c = rw c.at_start-here.ensures.at c.requires.kind

pub section-requires-clause-room : goal.section-requires-clause-room
section-requires-clause-room g c =
    rw (c.at_start-here.ensures.at, c.new-set.ensures, c.new-gaps.ensures)
    (lists_have_room c.args.moves.now c.args.alike.now c.args.most c.at_start-here.ensures.is_board)

pub returns-then-is_one_walk-2-clause-ok : goal.returns-then-is_one_walk-2-clause-ok
returns-then-is_one_walk-2-clause-ok g c = rw c.at_start-here.ensures.at at c.section.ensures.ok

pub returns-then-is_one_walk-2-clause-fault : goal.returns-then-is_one_walk-2-clause-fault
returns-then-is_one_walk-2-clause-fault g c =
    rw (c.at_start-here.ensures.at, c.new-set.ensures) at c.section.ensures.fault

pub reached-requires-clause-kind : goal.reached-requires-clause-kind
reached-requires-clause-kind g c = rw c.at_start-here.ensures.at c.requires.kind

pub reached-requires-clause-room : goal.reached-requires-clause-room
reached-requires-clause-room g c =
    rw (c.at_start-here.ensures.at, c.new-set.ensures, c.new-gaps.ensures)
    (lists_have_room c.args.moves.now c.args.alike.now c.args.most c.at_start-here.ensures.is_board)

pub rows_in_parts-requires-clause-numbers : goal.rows_in_parts-requires-clause-numbers
rows_in_parts-requires-clause-numbers g c = λ κs lives.
    let board = c.args.moves.now in
    let side = g.R.SectionRow.side (over_normal board (normal_by board c.args.alike.now)) c.args.start in
    rw c.deref.ensures.value
    (may_stand board (by_order board) (are_orders board) side _ _ (rw c.at_start-here.ensures.at at
    c.in_ok-set.ensures.ok c.args.start)
    c.in_ok-numbers.ensures)

pub returns-clause-ok : goal.returns-clause-ok
returns-clause-ok g c =
    let board = c.args.moves.now in
    let side = g.R.SectionRow.side (over_normal board (normal_by board c.args.alike.now)) c.args.start in
    let made = rw c.deref.ensures.value at c.in_ok-rows_in_parts.ensures in
    let past : length c.deref-part-items.result.now ≤ c.loop-part.part-index = c.loop-part-test.false in
    let all : take c.loop-part.part-index c.deref-part-items.result.now ≡ c.in_ok-rows_in_parts.field-0.items =
    take_all c.loop-part.part-index c.deref-part-items.result.now past ∙ c.deref-part-items.ensures.value in
    let rows : c.loop-part.rows.items ≡ flat_map (λ part. part.items) c.in_ok-rows_in_parts.field-0.items =
    c.loop-part.invariant ∙ ap (flat_map (λ part. part.items)) all in
    section_in_order board (by_order board) (are_orders board) side _ _ c.loop-part.rows.items
    (rw c.at_start-here.ensures.at at c.in_ok-set.ensures.ok c.args.start)
    c.in_ok-numbers.ensures
    (subst (AreRowsAt (by_order board) side c.in_ok-numbers.numbers.items) (sym rows) made)

pub returns-in_err-set-clause-fault : goal.returns-in_err-set-clause-fault
returns-in_err-set-clause-fault g c =
    let p = err_from_is_err_and c.from_residual.result c.from_residual.ensures.1 in
    rw (p.1, p.2) (rw (c.at_start-here.ensures.at, c.new-set.ensures) at c.in_err-set.ensures.fault c.args.start)
