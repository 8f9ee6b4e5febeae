use Rattle.std.proofs.Common.{◌-◌}
use Rattle.board_text.specs.declared.board.TheConstants.{MAX_LABELS}
use Rattle.proof_text.specs.Proof.{request_row}
use Rattle.proof_text.specs.Positions.{configuration_positions}
use Rattle.proof_check.proofs.AdversarySteps.{AreAnswered}
use Rattle.proof_check.proofs.adversary.AdversaryRowCheckedRowCheckerCheckFault.fault.Given as goal

abbrev pub invariant-loop-label : goal.invariant-loop-label
invariant-loop-label l =
    AreAnswered configuration_positions l.checker.board l.checker.proof.adversary (request_row l.checker.board l.self)
    l.answers

abbrev pub decreases-loop-label : goal.decreases-loop-label
decreases-loop-label l = MAX_LABELS - l.answers.from
