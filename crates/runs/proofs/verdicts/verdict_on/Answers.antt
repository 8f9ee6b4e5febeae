use Rattle.std.proofs.Common.{◌∙◌}
use Rattle.runs.proofs.RowCounts.{rows}
use Rattle.runs.proofs.verdicts.verdict_on.Goals as goal

pub returns-in-Ok-clause-verdict : goal.returns-in-Ok-clause-verdict
returns-in-Ok-clause-verdict g c =
    let proof = c.args.proof.now in (
      c.in-Ok.ensures.claim,
      c.in-Ok.ensures.rules,
      c.in-Ok.ensures.shows,
      c.count_rows.ensures ∙ rw (c.deref.ensures.value, c.deref-in-Ok.ensures.value) (rows c.args.board.now proof),
    )
