use Rattle.std.proofs.Common.{rules}
use Rattle.std.proofs.lemmas.List.{places, with_items_is}
use Rattle.graphs.specs.Graph.{PlainGraph}
use Rattle.graphs.specs.Numbered.{graph_of}
use Rattle.solver.proofs.FirstWords.{first-words}
use Rattle.solver.proofs.stage.opening.first_words.Goals as goal

pub returns : goal.returns
returns g c =
    let a : PlainGraph = graph_of c.args.graph.now in
    rw (with_items_is c.in_ok-words.words c.zero_stuck.new.words (search (rules, places)))
    (first-words a c.args.counts.now _ _ c.configurations.ensures.graph c.requires (search rules) c.zero_stuck.ensures)
