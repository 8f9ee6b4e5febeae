use Rattle.domains.proofs.SmallDomains.{residues_exactly}
use Rattle.domains.proofs.laws_of_products.few_labels_carry_many.Goals as goal

pub returns-clause-residues : goal.returns-clause-residues
returns-clause-residues c = residues_exactly
