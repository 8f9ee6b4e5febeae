use Rattle.nested_cycles.proofs.Dominations.{in_one_copy, from_one_copy}
use Rattle.nested_cycles.proofs.laws.copies_in_a_cycle.Goals as goal

pub returns-clause-one_copy : goal.returns-clause-one_copy
returns-clause-one_copy c = λ digit word other. (from_one_copy digit word other, in_one_copy digit word other)
