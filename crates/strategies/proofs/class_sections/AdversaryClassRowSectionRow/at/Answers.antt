use Rattle.std.proofs.Common.{◌≡◌, ◌∙◌, refl, sym, take}
use Rattle.proof_text.proofs.Cited.{placed}
use Rattle.strategies.specs.Inside.NumberedPositions.{over_kind}
use Rattle.strategies.specs.Inside.Numbering.{class_numbered}
use Rattle.strategies.proofs.GatheredRows.{no_request}
use Rattle.strategies.proofs.MadeClassRows.{adversary_row_over, normal_number_is, normal_places}
use Rattle.strategies.proofs.class_sections.AdversaryClassRowSectionRow.at.Goals as goal

pub returns-in_default : goal.returns-in_default
returns-in_default g c =
    let over = over_kind (g.W.PositionWalk.kind c.args.here.now) in
    no_request over.board over.positions _ (rw (c.in_default.is, c.requires.here) at c.best_request-value.ensures.value)

pub returns-in_err-pebble : goal.returns-in_err-pebble
returns-in_err-pebble g c =
    let over = over_kind (g.W.PositionWalk.kind c.args.here.now) in
    rw c.from_residual.ensures (no_request over.board over.positions _
    (rw c.requires.here at c.best_request-value.ensures.request.none.0 c.in_err-pebble.was))

pub returns : goal.returns
returns g c =
    let kind = g.W.PositionWalk.kind c.args.here.now in
    let over = over_kind kind in
    let b = over.board in
    let is = normal_number_is b kind.alike c.requires.kind.0 c.requires.kind.1 c.args.number c.requires.may_stand.0 in
    let at : take b.pebbles c.places_at-at.result ≡ over.numbering.places c.args.number =
    (rw c.board-board.ensures.board at c.places_at-at.ensures.places) (class_numbered b c.args.number)
    (placed b _ is.is) is.number_is
    ∙ sym (normal_places b kind.alike c.requires.kind.0 c.requires.kind.1 c.args.number) in
    let best = (rw c.in_ok-pebble.was at c.best_request-value.ensures.request).best in
    rw (at, c.held.ensures, c.requires.here) (
      adversary_row_over b kind.alike c.requires.kind.0 c.requires.kind.1 c.args.number c.in_ok-pebble.pebble
          c.in-Finite.left c.requires.may_stand.0 c.requires.may_stand.1
          (rw (c.in-Finite.is, c.requires.here) at c.best_request-value.ensures.value) (rw c.requires.here at best),
      refl,
      rw c.board-board.ensures.board at c.places_at-at.ensures.padded,
    )
