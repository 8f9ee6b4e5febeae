use Rattle.domains.proofs.ClosedFamilies.{covered_last}
use Rattle.domains.proofs.laws_of_chains.closed_families_last.Goals as goal

pub returns : goal.returns
returns g c = λ board count configuration more closed covered.
    covered_last board count (g.Family.Property.holds board) more closed configuration covered
