use Rattle.runs.proofs.AcceptedDocuments.{not_wrong}
use Rattle.command_line.specs.declared.asked.BoardLimit.TheVariants.{Small}
use Rattle.runs.proofs.BoardLimits.{few_gaps}
use Rattle.runs.proofs.Solutions.{report_exists, report_or_wrong}
use Rattle.runs.proofs.OneSummary.{one_summary_of_text}
use Rattle.runs.specs.declared.summaries.Summary.TheVariants.{Report}
use Rattle.runs.proofs.laws.report_or_fault.Goals as goal

pub returns : goal.returns
returns c = record {
  report = report_exists;
  one = λ limit more text. one_summary_of_text Report text limit more;
  either = λ limit text. report_or_wrong text limit;
  not_both = λ limit text written fault report. not_wrong limit text report.0 report.1 fault;
  larger = λ text written report. (
    report.0,
    record {
      is_board = report.1.is_board;
      few = few_gaps Small report.0 report.1.is_board report.1.few;
      spelled = report.1.spelled;
    },
    report.2,
  );
}
