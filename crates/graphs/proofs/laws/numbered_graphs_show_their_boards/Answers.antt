use Rattle.graphs.proofs.NumberedGraphs.{numbered-is, numbered-shows}
use Rattle.graphs.proofs.laws.numbered_graphs_show_their_boards.Goals as goal

pub returns-clause-graph : goal.returns-clause-graph
returns-clause-graph c = λ n is. numbered-is n is

pub returns-clause-shows : goal.returns-clause-shows
returns-clause-shows c = λ n is. numbered-shows n is
