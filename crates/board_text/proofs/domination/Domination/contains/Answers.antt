use Rattle.std.proofs.Common.{◌≡◌, sym, ◌∙◌}
use Rattle.board_text.specs.PlainBoard.{AreLabels}
use Rattle.board_text.specs.Inside.Domination.{beats_in}
use Rattle.board_text.proofs.BitRows.{contains_bit, bit_contained}
use Rattle.board_text.proofs.domination.Domination.contains.Goals as goal

pub returns : goal.returns
returns c =
    let d = c.self.inside in
    let are : AreLabels d.labels (c.args.x, c.args.y) = rw (← c.self.view_is) at c.requires in
    let same : c.has_pair.result ≡ beats_in d.rows.items c.args.x c.args.y =
    rw (c.deref.ensures.value, c.from.ensures, c.from-2.ensures) at c.has_pair.ensures in
    rw (← c.self.view_is) (
      λ h. contains_bit d.labels d.rows.items c.args.x c.args.y are (sym same ∙ h),
      λ h. same ∙ (bit_contained d.labels d.rows.items c.args.x c.args.y c.self.invariant.in_range.0 h).bit,
    )
