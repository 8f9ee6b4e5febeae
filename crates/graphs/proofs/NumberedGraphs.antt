-- Either graph of a board is a graph, and shows the board.
use Rattle.std.proofs.Common.{◌≡◌, ◌-◌, ◌<◌, suc, subst, arith}
use Rattle.std.proofs.Math.Nat.{one-le-pow}
use Rattle.board_text.specs.PlainBoard.{places, PlainBoard, IsBoard}
use Rattle.board_text.proofs.Cited.{some_places}
use Rattle.classes.specs.Numbers.{ways}
use Rattle.graphs.specs.Graph.{IsGraph}
use Rattle.graphs.specs.Numbered.{Numbered, GraphNumbering, Ordered, Classes}
use Rattle.graphs.specs.Numbered.{graph_by, graph_of, configuration_by, configuration_of}
use Rattle.graphs.specs.Shows.{ShowsGame}
use Rattle.graphs.proofs.OrderedGraphs.{ordered-is, ordered-shows}
use Rattle.graphs.proofs.ClassGraphs.{classes-is, classes-show, some-ways}

graph-by : (k : GraphNumbering) (b : PlainBoard) → IsBoard b → IsGraph (graph_by k b)
unfolding graph_by
graph-by Ordered b is = ordered-is b is
graph-by Classes b is = classes-is b is

shows-by : (k : GraphNumbering) (b : PlainBoard) → IsBoard b → ShowsGame b (graph_by k b) (configuration_by k b)
unfolding graph_by configuration_by
shows-by Ordered b is = ordered-shows b is
shows-by Classes b is = classes-show b is

pub numbered-is : (n : Numbered) → IsBoard n.board → IsGraph (graph_of n)
numbered-is n is = graph-by n.numbering n.board is

pub numbered-shows : (n : Numbered) → IsBoard n.board → ShowsGame n.board (graph_of n) (configuration_of n)
numbered-shows n is = shows-by n.numbering n.board is

some-by : (k : GraphNumbering) (b : PlainBoard) → IsBoard b → 0 < (graph_by k b).configurations
unfolding graph_by
some-by Ordered b is = one-le-pow b.pebbles (places b) (some_places b is)
some-by Classes b is =
    let some = some_places b is in
    let whole : suc (places b - 1) ≡ places b = omega arith in
    subst (λ n. 0 < ways b.pebbles n) whole (let more = some-ways b.pebbles (places b - 1) in omega arith)

pub some-configurations : (n : Numbered) → IsBoard n.board → 0 < (graph_of n).configurations
some-configurations n is = some-by n.numbering n.board is
