use Rattle.domains.proofs.BothVersions.{both_versions}
use Rattle.domains.proofs.laws_of_claims.both_versions_show_the_same_claims.Goals as goal

pub returns : goal.returns
returns c = both_versions
