use Rattle.graphs.specs.Numbered.{graph_of}
use Rattle.solver.proofs.AnswerSizes.{live-all}
use Rattle.solver.proofs.stage.opening.count_answers.Goals as goal

pub returns : goal.returns
returns g c =
    live-all (graph_of c.args.graph.now) c.args.gap c.answers.result c.len.result c.answers.ensures c.len.ensures
