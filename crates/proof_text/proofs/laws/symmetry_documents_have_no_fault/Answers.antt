use Rattle.std.proofs.Common.{refl}
use Rattle.proof_text.specs.ProofText.{symmetry_text}
use Rattle.proof_text.proofs.OneDocument.{no_symmetry_text_fault}
use Rattle.proof_text.proofs.laws.symmetry_documents_have_no_fault.Goals as goal

pub returns : goal.returns
returns c = λ board document line kind is are fault.
    no_symmetry_text_fault board (symmetry_text board document) line kind document is are refl fault
