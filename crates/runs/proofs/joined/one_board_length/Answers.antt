use Rattle.runs.proofs.EndLines.{one_length}
use Rattle.runs.proofs.joined.one_board_length.Goals as goal

pub returns : goal.returns
returns c = one_length
