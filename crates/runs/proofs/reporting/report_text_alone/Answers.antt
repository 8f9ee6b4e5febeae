use Rattle.command_line.specs.declared.asked.BoardLimit.TheVariants.{Small}
use Rattle.runs.proofs.BoardLimits.{few_gaps}
use Rattle.runs.proofs.reporting.report_text_alone.Goals as goal

pub of-requires-clause-few : goal.of-requires-clause-few
of-requires-clause-few c =
    few_gaps Small c.in_ok-board.board c.in_ok-board.ensures.found.is_board c.in_ok-board.ensures.found.few
