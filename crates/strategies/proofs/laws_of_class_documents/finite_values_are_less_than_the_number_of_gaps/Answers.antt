use Rattle.strategies.proofs.FewValues.{few_values}
use Rattle.strategies.proofs.laws_of_class_documents.finite_values_are_less_than_the_number_of_gaps.Goals as goal

pub returns : goal.returns
returns c = few_values
