use Rattle.std.proofs.Common.{◌-◌}
use Rattle.board_text.specs.declared.board.TheConstants.{MAX_LABELS}
use Rattle.proof_text.specs.ClassProof.{class_request_row}
use Rattle.proof_check.specs.Inside.ClassChecker.{document_of, positions_for}
use Rattle.proof_check.proofs.AdversarySteps.{AreAnswered}
use Rattle.proof_check.proofs.class_adversary.AdversaryClassRowCheckedRowClassCheckerClassFault.fault.Given as goal

abbrev pub invariant-loop-label : goal.invariant-loop-label
invariant-loop-label l =
    AreAnswered (positions_for l.checker) l.checker.board.now (document_of l.checker).adversary
    (class_request_row l.checker.board.now l.self) l.answers

abbrev pub decreases-loop-label : goal.decreases-loop-label
decreases-loop-label l = MAX_LABELS - l.answers.from
