use Rattle.std.proofs.Common.{◌*◌, ◌+◌, ◌-◌, ◌≡◌, ◌<◌, arith}
use Rattle.board_text.proofs.BitRows.{row_is}
use Rattle.board_text.proofs.domination.Domination.row.Goals as goal

pub returns-clause-bits : goal.returns-clause-bits
returns-clause-bits c =
    let d = c.self.inside in
    let low : c.args.label < d.labels = rw (← c.self.view_is) at c.requires in
    let four : 4 * c.args.label + 4 - 4 * c.args.label ≡ 4 = omega arith in
    rw (four, c.deref.ensures.value, ← c.self.view_is)
    (λ x small. row_is d.labels d.rows.items d.next x c.args.label c.self.invariant small low)
