use Rattle.domains.proofs.KeptProperties.{kept_lasts, lowered_at_most}
use Rattle.domains.proofs.laws_of_values.kept_properties_last.Goals as goal

pub returns : goal.returns
returns g c = record {
  for_ever = λ board. kept_lasts (g.Good.Property.holds board) board;
  at_most = λ board rank. lowered_at_most (g.Good.Property.holds board) rank board;
}
