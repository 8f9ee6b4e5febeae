use Rattle.std.proofs.Common.{rules}
use Rattle.runs.proofs.BoardLimits.{few_gaps}
use Rattle.runs.proofs.boards.board_within.Goals as goal

pub returns-clause-gaps : goal.returns-clause-gaps
returns-clause-gaps c =
    few_gaps c.args.limit c.in_ok-board.board c.in_ok-board.ensures.found.0 (search rules)
