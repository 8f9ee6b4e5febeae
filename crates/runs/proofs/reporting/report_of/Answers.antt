use Rattle.runs.specs.Report.{Report}
use Rattle.runs.proofs.ReportCounts.{whole_report}
use Rattle.runs.proofs.reporting.report_of.Goals as goal

pub returns : goal.returns
returns c =
    let sizes = c.args.sizes.now in
    let report : Report =
    record { start = c.args.start; counts = sizes.finite.items; forever = sizes.forever } in
    whole_report c.args.board.now report _ _ _ _ _ c.new-text.ensures.bytes
    c.in_ok-write_head.ensures c.in_ok-write_start.ensures
    (rw c.as_slice.ensures.value at c.in_ok-write_counts.ensures) c.in_ok-write_end.ensures
    (record { start = c.requires.start; counted = c.requires.sizes })
