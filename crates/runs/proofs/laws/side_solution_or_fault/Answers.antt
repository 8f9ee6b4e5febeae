use Rattle.runs.proofs.SideSolutions.{one_side_solution, one_unsolved_for, side_solution_or_fault}
use Rattle.runs.proofs.SideSolutions.{side_solution_or_unsolved}
use Rattle.runs.proofs.laws.side_solution_or_fault.Goals as goal

pub returns : goal.returns
returns c = record {
  one = one_side_solution;
  either = side_solution_or_unsolved;
  one_fault = one_unsolved_for;
  not_both = side_solution_or_fault;
}
