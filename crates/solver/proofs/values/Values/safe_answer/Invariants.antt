use Rattle.std.proofs.Common.{◌-◌}
use Rattle.board_text.specs.declared.board.TheConstants.{MAX_LABELS}
use Rattle.solver.proofs.SafeWalks.{IsSafeWalk}
use Rattle.solver.proofs.values.Values.safe_answer.Given as goal

abbrev pub invariant-loop-label : goal.invariant-loop-label
invariant-loop-label l = IsSafeWalk l.self l.gap l.labels

abbrev pub decreases-loop-label : goal.decreases-loop-label
decreases-loop-label l = MAX_LABELS - l.labels.from
