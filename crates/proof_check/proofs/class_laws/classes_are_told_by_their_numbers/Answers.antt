use Rattle.proof_text.proofs.Cited.{class_at_order}
use Rattle.proof_check.proofs.class_laws.classes_are_told_by_their_numbers.Goals as goal

pub returns : goal.returns
returns c = class_at_order
