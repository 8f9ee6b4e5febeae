use Rattle.proof_text.proofs.OneDocument as lemmas
use Rattle.proof_text.proofs.laws.one_symmetries_fault.Goals as goal

pub returns : goal.returns
returns c = lemmas.one_symmetries_fault
