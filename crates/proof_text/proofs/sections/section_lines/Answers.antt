use Rattle.std.proofs.Common.{refl}
use Rattle.proof_text.proofs.sections.section_lines.Goals as goal

pub returns-then-asked : goal.returns-then-asked
returns-then-asked c = rw c.if-asked.true refl
