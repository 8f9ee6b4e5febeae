-- The meaning of a graph's tables.
use Rattle.std.specs.Prelude.{◌≡◌, ℕ, ◌<◌, ◌≤◌, List, length, slice_index}
use Rattle.board_text.specs.PlainBoard.{IsBoard}
use Rattle.positions.specs.Ranks.{configurations as board_configurations}
use Rattle.positions.specs.declared.space.TheConstants.{MAX_CONFIGURATIONS}
use Rattle.graphs.specs.Graph.{PlainGraph}
use Rattle.graphs.specs.Numbered.{Numbered, graph_of}

-- each configuration has the gap in which it is an answer, or the number of gaps
pub record IsStruckTable (a : PlainGraph) (struck : List ℕ) : Type 0 where
  pub size : length struck ≡ a.configurations
  pub each : (x : ℕ) → x < a.configurations → slice_index struck x ≡ a.struck x

-- these are the sizes of the graph, and the gap in which each configuration is an answer
pub record AreTables (n : Numbered) (configurations gaps places : ℕ)
    (struck : List ℕ) : Type 0 where
  pub is_board : IsBoard n.board
  pub few : configurations ≤ MAX_CONFIGURATIONS
  pub small : board_configurations n.board ≤ MAX_CONFIGURATIONS
  pub configurations_is : configurations ≡ (graph_of n).configurations
  pub gaps_is : gaps ≡ (graph_of n).gaps
  pub places_is : places ≡ (graph_of n).places
  pub struck_is : IsStruckTable (graph_of n) struck
