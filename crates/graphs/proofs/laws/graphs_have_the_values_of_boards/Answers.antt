use Rattle.graphs.proofs.Shown.{worth-is, forever-is}
use Rattle.graphs.proofs.laws.graphs_have_the_values_of_boards.Goals as goal

pub returns-clause-finite : goal.returns-clause-finite
returns-clause-finite c = λ board graph at is shows x value i. worth-is board graph at is shows x value i

pub returns-clause-forever : goal.returns-clause-forever
returns-clause-forever c = λ board graph at is shows x i. forever-is board graph at is shows x i
