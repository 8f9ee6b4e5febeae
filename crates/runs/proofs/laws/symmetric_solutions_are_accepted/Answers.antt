use Rattle.runs.proofs.AcceptedSymmetries.{symmetric_document_accepted, symmetric_document_faultless}
use Rattle.runs.proofs.SymmetricSolutions.{one_symmetric_solution, one_unsolved_up_to, symmetric_solution_or_fault}
use Rattle.runs.proofs.SymmetricSolutions.{symmetric_solution_or_unsolved}
use Rattle.runs.proofs.laws.symmetric_solutions_are_accepted.Goals as goal

pub returns : goal.returns
returns c = record {
  verdict = symmetric_document_accepted;
  faultless_document = symmetric_document_faultless;
  one = one_symmetric_solution;
  either = symmetric_solution_or_unsolved;
  one_fault = one_unsolved_up_to;
  not_both = symmetric_solution_or_fault;
}
