use Rattle.std.proofs.Common.{arith}
use Rattle.strategies.specs.Inside.NumberedPositions.{over_ranks}
use Rattle.strategies.proofs.WrittenLines.{one_part}
use Rattle.strategies.proofs.lines.section_lines.Goals as goal

pub returns : goal.returns
returns g c =
    let board = c.args.moves.now in
    let end = rw c.space.ensures.value at c.configurations-end.ensures.value in
    rw (c.in_ok-push.ensures.items, c.new-parts.ensures.items) (one_part board
    (g.R.SectionRow.side (over_ranks board) c.args.start) (g.R.LineRow.line board) c.in_ok-marks.marks
    c.configurations-end.result c.in_ok-lines_between.field-0 (c.in_ok-marks.ensures c.args.start)
    (omega (arith, end)) c.in_ok-lines_between.ensures)
