use Rattle.std.proofs.Common.{◌≡◌, ◌≤◌, ◌^◌, length}
use Rattle.proof_text.specs.SectionFaults.{RowsCome}
use Rattle.proof_text.specs.Inside.Rows.{IsLeast}
use Rattle.proof_text.proofs.SectionLemmas.{FollowsFrom}
use Rattle.proof_text.proofs.sections.read_part.Given as goal

abbrev pub invariant-loop-come : goal.invariant-loop-come
invariant-loop-come g l = record {
  come : RowsCome (g.R.Row.reading (g.B.BoardOfRows.board l.board) l.claim).form l.fn.text l.count l.rows.items l.text;
  number : length l.rows.items ≡ l.come;
  from : FollowsFrom (g.R.Row.reading (g.B.BoardOfRows.board l.board) l.claim) l.rows.items l.least;
  least : l.least ≤ 2 ^ 63;
  start : IsLeast (g.R.Row.reading (g.B.BoardOfRows.board l.board) l.claim).form l.least;
}
