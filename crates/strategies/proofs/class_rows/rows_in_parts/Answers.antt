use Rattle.std.proofs.Common.{◌<◌, ℕ, max, arith, sym, subst}
use Rattle.std.specs.List.{All}
use Rattle.proof_text.proofs.PartedLines.{parts_too}
use Rattle.strategies.specs.Inside.NormalForm.{normal_by}
use Rattle.strategies.specs.Inside.NumberedPositions.{over_normal}
use Rattle.strategies.specs.Inside.Numbering.{by_order}
use Rattle.strategies.specs.Inside.Side.{MayStandAt}
use Rattle.strategies.proofs.RowsInParts.{rows_joined}
use Rattle.strategies.proofs.class_rows.rows_in_parts.Goals as goal

some : (size : ℕ) → 0 < max size 1
some size = omega arith

pub collect-requires-clause-ready : goal.collect-requires-clause-ready
collect-requires-clause-ready g c = λ κs lives.
    let board = c.args.moves.now in
    let stands = MayStandAt (by_order board)
    (g.R.SectionRow.side (over_normal board (normal_by board c.args.alike.now)) c.args.start) in
    rw (c.map.ensures.base, c.map.ensures.f, c.par_chunks.ensures.slice, c.par_chunks.ensures.size) (λ k d low x same. (
      (
        c.requires.kind,
        (
          c.requires.normal,
          subst (All stands) (sym same)
              (parts_too stands (max c.max-size.result 1) c.args.numbers.now (some c.max-size.result)
              c.requires.numbers k d low),
        ),
      ),
      λ y made. tt,
    ))

pub returns : goal.returns
returns g c =
    let made = c.in_ok-rows.ensures in
    let chain = made.1 in
    let parts_are = rw (c.map.ensures.base, c.par_chunks.ensures.slice, c.par_chunks.ensures.size) at chain.1 in
    let each = rw c.map.ensures.f at chain.2 in
    let board = c.args.moves.now in
    rows_joined board
    (g.R.SectionRow.side (over_normal board (normal_by board c.args.alike.now)) c.args.start)
    (λ part. part.items) (λ v. v.items)
    c.args.numbers.now (max c.max-size.result 1)
    (some c.max-size.result) chain.0 parts_are made.0 each c.in_ok-rows.rows
    made.2
