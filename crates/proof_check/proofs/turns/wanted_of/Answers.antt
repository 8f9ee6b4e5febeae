use Rattle.std.proofs.Common.{refl}
use Rattle.proof_check.proofs.turns.wanted_of.Goals as goal

pub returns-in-Forever : goal.returns-in-Forever
returns-in-Forever c = rw c.in-Forever.is refl
