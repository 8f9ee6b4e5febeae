use Rattle.runs.specs.Joined.{HasNoEndBefore}
use Rattle.runs.proofs.joined.board_length.Given as goal

abbrev pub invariant-loop-at : goal.invariant-loop-at
invariant-loop-at l = HasNoEndBefore l.input l.at
