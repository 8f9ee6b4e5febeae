use Rattle.command_line.specs.declared.asked.BoardLimit.TheVariants.{Small}
use Rattle.runs.proofs.AcceptedDocuments.{not_wrong}
use Rattle.runs.proofs.Solutions.{solution_exists, solution_or_wrong}
use Rattle.runs.proofs.OneOutcome.{one_solution, one_wrong}
use Rattle.runs.proofs.laws.solution_or_fault.Goals as goal

pub returns : goal.returns
returns c = record {
  solution = solution_exists;
  one = one_solution;
  either = solution_or_wrong;
  one_fault = one_wrong Small;
  not_both = λ text value written fault solution. not_wrong Small text solution.0 solution.1 fault;
}
