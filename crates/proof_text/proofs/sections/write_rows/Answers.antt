use Rattle.std.proofs.Common.{ap, ◌∙◌, ◌++◌, arith}
use Rattle.std.specs.List.{flat_map}
use Rattle.std.proofs.lemmas.List.{take_all}
use Rattle.proof_text.proofs.sections.write_rows.Goals as goal

pub returns : goal.returns
returns g c =
    let most = c.loop-row.auto.row-index-end in
    λ claim. c.loop-row.invariant claim
    ∙ ap (λ rows. c.args.text.now.bytes ++ flat_map
    (g.R.Row.reading (g.B.BoardOfRows.board c.args.board.now) claim).form.line rows)
    (take_all c.loop-row.row-index c.args.rows.now (omega (arith, most, c.loop-row-test.false)))
