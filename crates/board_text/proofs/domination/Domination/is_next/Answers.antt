use Rattle.std.proofs.lemmas.Bool.{leb-true, le-leb}
use Rattle.board_text.specs.PlainBoard.{AreLabels}
use Rattle.board_text.proofs.BitRows.{next_from_place, place_from_next}
use Rattle.board_text.proofs.domination.Domination.is_next.Goals as goal

pub returns : goal.returns
returns c =
    let d = c.self.inside in
    let are : AreLabels d.labels (c.args.x, c.args.y) = rw (← c.self.view_is) at c.requires in
    let place = c.pair_number.ensures.number in
    rw (← c.self.view_is) (
      λ h. next_from_place d.labels d.rows.items d.next c.args.x c.args.y c.self.invariant are
          (rw place at (leb-true d.next c.pair_number.result h)),
      λ h. le-leb d.next c.pair_number.result
          (rw place (place_from_next d.labels d.rows.items d.next c.args.x c.args.y c.self.invariant h)),
    )
