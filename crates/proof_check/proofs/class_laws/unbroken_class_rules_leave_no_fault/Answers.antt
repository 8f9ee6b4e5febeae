use Rattle.proof_text.specs.Arranged.{arranged}
use Rattle.proof_check.proofs.ClassDocumentFaults.{no_fault}
use Rattle.proof_check.proofs.class_laws.unbroken_class_rules_leave_no_fault.Goals as goal

pub returns : goal.returns
returns c = λ board. no_fault (arranged board.labels) board
