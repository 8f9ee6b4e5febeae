use Rattle.std.proofs.Common.{codes, string_bytes}
use Rattle.board_text.specs.LineForms.{with_line_feed}
use Rattle.positions.specs.Ranks.{configurations}
use Rattle.runs.specs.Report.{size_line}
use Rattle.runs.proofs.ReportCounts.{four_parts}
use Rattle.runs.proofs.reporting.write_head.Goals as goal

pub returns : goal.returns
returns c =
    let board = c.args.board.now in
    four_parts (string_bytes c.args.text.now) (with_line_feed (codes "report 1"))
    (size_line (codes "labels") board.labels)
    (size_line (codes "pebbles") board.pebbles) (size_line (codes "configurations") (configurations board)) _ _ _ _
    c.in_ok-push_str.ensures.bytes (rw (c.from.ensures, c.labels.ensures.value) at c.in_ok-write_size.ensures)
    (rw (c.from-2.ensures, c.pebbles.ensures.value) at c.in_ok-write_size-2.ensures)
    (rw c.count_configurations.ensures at c.in_ok-write_size-3.ensures)
