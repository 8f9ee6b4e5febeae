use Rattle.std.proofs.Common.{refl}
use Rattle.proof_text.specs.ProofText.{symmetries_text}
use Rattle.proof_text.proofs.OneDocument.{no_symmetries_fault}
use Rattle.proof_text.proofs.laws.symmetries_have_no_fault.Goals as goal

pub returns : goal.returns
returns c = λ board maps line kind is are fault.
    no_symmetries_fault board (symmetries_text board.labels maps) line kind maps is are refl fault
