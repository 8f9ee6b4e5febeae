use Rattle.domains.proofs.Heights.{chain_has}
use Rattle.domains.proofs.laws_of_starts.chains_have_their_value.Goals as goal

pub returns : goal.returns
returns c = chain_has
