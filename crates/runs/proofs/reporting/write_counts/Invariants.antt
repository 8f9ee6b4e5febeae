use Rattle.std.proofs.Common.{◌≡◌, ◌++◌, take}
use Rattle.std.specs.Prelude.{string_bytes}
use Rattle.runs.specs.Report.{count_lines}
use Rattle.runs.proofs.reporting.write_counts.Given as goal

abbrev pub invariant-loop-value : goal.invariant-loop-value
invariant-loop-value l =
    string_bytes l.text ≡ string_bytes l.fn.text ++ count_lines 0 (take l.value l.counts)
