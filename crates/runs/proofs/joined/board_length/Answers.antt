use Rattle.runs.proofs.EndLines.{end_line_within}
use Rattle.runs.proofs.joined.board_length.Goals as goal

pub returns-then-is_end_line-clause-within : goal.returns-then-is_end_line-clause-within
returns-then-is_end_line-clause-within c =
    end_line_within c.args.input.now c.loop-at.at (c.is_end_line.ensures.0 c.if-is_end_line.true)
