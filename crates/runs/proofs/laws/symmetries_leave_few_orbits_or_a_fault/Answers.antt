use Rattle.runs.proofs.SymmetricSolutions.{few_orbits_or_many, given_or_lacking, one_lacking}
use Rattle.runs.proofs.laws.symmetries_leave_few_orbits_or_a_fault.Goals as goal

pub returns : goal.returns
returns c = record {
  either = few_orbits_or_many;
  one_fault = one_lacking;
  not_both = λ board is text fault. given_or_lacking board is text fault;
}
