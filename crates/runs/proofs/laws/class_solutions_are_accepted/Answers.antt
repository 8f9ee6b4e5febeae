use Rattle.runs.proofs.ClassSolutions.{class_document_accepted, class_document_faultless, class_solution_or_fault}
use Rattle.runs.proofs.ClassSolutions.{one_class_solution, one_unsolved, solution_or_unsolved}
use Rattle.runs.proofs.laws.class_solutions_are_accepted.Goals as goal

pub returns : goal.returns
returns c = record {
  verdict = class_document_accepted;
  faultless_document = class_document_faultless;
  one = one_class_solution;
  either = solution_or_unsolved;
  one_fault = one_unsolved;
  not_both = class_solution_or_fault;
}
