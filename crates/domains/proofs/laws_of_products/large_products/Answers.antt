use Rattle.domains.proofs.ExactCounts.{forty_nine_exactly}
use Rattle.domains.proofs.ProductExamples.{forty_nine, forty_nine_exists, fourteen_hundred}
use Rattle.domains.proofs.laws_of_products.large_products.Goals as goal

pub returns : goal.returns
returns c = record {
  for_ever = λ residues board are_residues three. forty_nine residues are_residues three board;
  exactly = forty_nine_exactly;
  exist = forty_nine_exists;
  finite = λ chain residues board is_chain long pair are_residues three.
      fourteen_hundred residues are_residues three chain board is_chain long pair;
}
