use Rattle.proof_text.specs.Arranged.{arranged}
use Rattle.proof_check.proofs.ClassDocumentFaults.{one_fault}
use Rattle.proof_check.proofs.class_laws.one_class_fault.Goals as goal

pub returns : goal.returns
returns c = λ board. one_fault (arranged board.labels) board
