use Rattle.domains.proofs.MinimaxEquation.{one_solution}
use Rattle.domains.proofs.laws_of_values.values_solve_one_equation.Goals as goal

pub returns : goal.returns
returns c = one_solution
