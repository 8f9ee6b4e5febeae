use Rattle.std.proofs.Common.{◌++◌, ◌∙◌, ap}
use Rattle.std.specs.Prelude.{string_bytes}
use Rattle.std.proofs.lemmas.List.{take_all}
use Rattle.runs.specs.Report.{count_lines}
use Rattle.runs.proofs.ReportCounts.{lines_more}
use Rattle.runs.proofs.reporting.write_counts.Goals as goal

pub loop-value-preserved : goal.loop-value-preserved
loop-value-preserved c =
    lines_more c.args.counts.now c.loop-value.value (string_bytes c.args.text.now) _ _ c.loop-value-test.true
    c.loop-value.invariant c.in_ok-write_count.ensures

pub returns : goal.returns
returns c =
    c.loop-value.invariant ∙ ap (λ counts. string_bytes c.args.text.now ++ count_lines 0 counts)
    (take_all c.loop-value.value c.args.counts.now c.loop-value-test.false)
