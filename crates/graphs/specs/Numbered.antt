-- The two graphs of a board: its configurations in order, or their classes.
use Rattle.std.specs.Prelude.{ℕ, List}
use Rattle.board_text.specs.PlainBoard.{PlainBoard}
use Rattle.positions.specs.Ranks.{configuration_at}
use Rattle.graphs.specs.Graph.{PlainGraph}
use Rattle.graphs.specs.Ordered.{ordered}
use Rattle.graphs.specs.ClassGraph.{classes, class_at}

-- what numbers stand for: configurations in order, or their classes
pub data GraphNumbering : Type 0 where
  Ordered Classes : GraphNumbering

-- a board, and what its numbers stand for
pub record Numbered : Type 0 where
  pub board : PlainBoard
  pub numbering : GraphNumbering

abbrev pub numbered : PlainBoard → GraphNumbering → Numbered
numbered board numbering = record { board = board; numbering = numbering }

unfoldable pub graph_by : GraphNumbering → PlainBoard → PlainGraph
graph_by Ordered board = ordered board
graph_by Classes board = classes board

-- the graph, and the configuration that a number stands for
abbrev pub graph_of : Numbered → PlainGraph
graph_of n = graph_by n.numbering n.board

unfoldable pub configuration_by : GraphNumbering → PlainBoard → ℕ → List ℕ
configuration_by Ordered board x = configuration_at board x
configuration_by Classes board x = class_at board x

abbrev pub configuration_of : Numbered → ℕ → List ℕ
configuration_of n x = configuration_by n.numbering n.board x
