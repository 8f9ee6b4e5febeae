use Rattle.std.proofs.Common.{◌<◌, ℕ, All, max, arith, sym, subst}
use Rattle.proof_text.proofs.PartedLines.{parts_too, joined}
use Rattle.proof_text.proofs.parts.lines_in_parts.Goals as goal

some : (size : ℕ) → 0 < max size 1
some size = omega arith

pub collect-requires-clause-ready : goal.collect-requires-clause-ready
collect-requires-clause-ready g c = λ κs lives.
    let Is = g.R.Row.IsOfBoard (g.B.BoardOfRows.board c.args.board.now) in
    rw (c.map.ensures.base, c.map.ensures.f, c.par_chunks.ensures.slice, c.par_chunks.ensures.size) (λ k d low x same. (
      (
        c.requires.words,
        subst (All Is) (sym same)
            (parts_too Is (max c.max-size.result 1) c.args.rows.now (some c.max-size.result) c.requires.of_board k d
            low),
      ),
      λ y made. tt,
    ))

pub returns : goal.returns
returns g c =
    let made = rw (
      c.map.ensures.base,
      c.map.ensures.f,
      c.par_chunks.ensures.slice,
      c.par_chunks.ensures.size,
    ) at c.in_ok-lines.ensures in
    let chain = made.1 in
    joined (λ claim. (g.R.Row.reading (g.B.BoardOfRows.board c.args.board.now) claim).form.line) (λ lines. lines.bytes)
    (λ v. v.items)
    c.args.rows.now (max c.max-size.result 1)
    (some c.max-size.result) chain.0 chain.1 made.0 chain.2 c.in_ok-lines.lines made.2
