use Rattle.std.proofs.Common.{ℕ, ◌<◌}
use Rattle.proof_text.specs.ClassProof.{class_answer_row}
use Rattle.proof_text.specs.Rules.{MeetsRequest}
use Rattle.proof_check.specs.Inside.ClassChecker.{document_of, positions_for}
use Rattle.proof_check.proofs.class_labeller.LabellerClassRowCheckedRowClassCheckerClassFault.fault.Given as goal

abbrev pub invariant-loop-pebble : goal.invariant-loop-pebble
invariant-loop-pebble l = (earlier : ℕ) → earlier < l.pebble
    → MeetsRequest (positions_for l.checker) l.checker.board.now (document_of l.checker).labeller
    (class_answer_row l.checker.board.now l.self) earlier
