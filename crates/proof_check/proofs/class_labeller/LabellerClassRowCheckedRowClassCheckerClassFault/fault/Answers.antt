use Rattle.std.proofs.Common.{arith, below_more}
use Rattle.proof_text.specs.ClassProof.{class_answer_row}
use Rattle.proof_text.specs.Rules.{MeetsRequest}
use Rattle.proof_check.specs.Inside.ClassChecker.{document_of, positions_for}
use Rattle.proof_check.proofs.class_labeller.LabellerClassRowCheckedRowClassCheckerClassFault.fault.Goals as goal

pub loop-pebble-init : goal.loop-pebble-init
loop-pebble-init c = λ earlier low. absurd (omega (arith, low))

pub loop-pebble-preserved : goal.loop-pebble-preserved
loop-pebble-preserved c =
    let checker = c.args.checker.now in
    below_more (MeetsRequest (positions_for checker) checker.board.now (document_of checker).labeller
    (class_answer_row checker.board.now c.args.self.now)) c.loop-pebble.pebble c.loop-pebble.invariant
    c.in_default.ensures
