use Rattle.std.proofs.Common.{◌≡◌, ◌∙◌, refl, sym, take}
use Rattle.proof_text.proofs.Cited.{placed}
use Rattle.strategies.specs.Inside.NumberedPositions.{over_kind}
use Rattle.strategies.specs.Inside.Numbering.{class_numbered}
use Rattle.strategies.proofs.MadeClassRows.{normal_number_is, normal_places}
use Rattle.strategies.proofs.MadeRows.{labeller_row_is}
use Rattle.strategies.proofs.class_sections.LabellerClassRowSectionRow.at.Goals as goal

pub best_labels-value-requires : goal.best_labels-value-requires
best_labels-value-requires g c = rw c.requires.here c.requires.may_stand.1.holds

pub returns : goal.returns
returns g c =
    let kind = g.W.PositionWalk.kind c.args.here.now in
    let over = over_kind kind in
    let b = over.board in
    let is = normal_number_is b kind.alike c.requires.kind.0 c.requires.kind.1 c.args.number c.requires.may_stand.0 in
    let at : take b.pebbles c.places_at.result ≡ over.numbering.places c.args.number =
    (rw c.board.ensures.board at c.places_at.ensures.places) (class_numbered b c.args.number) (placed b _ is.is)
    is.number_is ∙ sym (normal_places b kind.alike c.requires.kind.0 c.requires.kind.1 c.args.number) in
    let taken = c.best_labels-value.ensures.labels in
    rw (c.turns.ensures, at) (
      labeller_row_is b over.positions over.numbering c.args.number c.requires.may_stand.1 c.args.start
          c.best_labels-value.result.0 c.best_labels-value.result.1 c.board.ensures.position.positions.board
          (rw c.requires.here at c.best_labels-value.ensures.value) (rw c.requires.here at taken),
      refl,
      (rw c.board.ensures.board at c.places_at.ensures.padded, taken.rest),
    )
