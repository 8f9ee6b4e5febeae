use Rattle.std.proofs.Common.{◌≡◌, ◌++◌, take}
use Rattle.std.specs.List.{flat_map}
use Rattle.positions.specs.declared.claim.Claim.{Claim}
use Rattle.proof_text.proofs.sections.write_rows.Given as goal

abbrev pub invariant-loop-row : goal.invariant-loop-row
invariant-loop-row g l = (claim : Claim)
    → l.text.bytes ≡ l.initial.text.bytes
    ++ flat_map (g.R.Row.reading (g.B.BoardOfRows.board l.board) claim).form.line (take l.row-index l.rows)
