-- How long a number lasts is how long the board's configuration lasts that it stands for.
use Rattle.std.proofs.Common.{◌≡◌, ◌<◌, ℕ, suc, true, false, refl}
use Rattle.board_text.specs.PlainBoard.{PlainBoard, IsBoard, places}
use Rattle.positions.specs.declared.value.Value.TheVariants.{Finite, Forever}
use Rattle.positions.specs.Game.{LabellerTree}
use Rattle.positions.specs.Value.{HasValue}
use Rattle.graphs.specs.Graph.{PlainGraph, IsGraph, lasts}
use Rattle.graphs.specs.Lasting.{LastsForever}
use Rattle.graphs.specs.Numbered.{Numbered, graph_by, graph_of, configuration_of, GraphNumbering, Ordered, Classes}
use Rattle.graphs.specs.Shows.{ShowsGame}
use Rattle.graphs.proofs.NumberedGraphs.{numbered-is, numbered-shows}
use Rattle.graphs.proofs.Shown.{tree-of-lasts, lasts-of-tree, worth-is, forever-is}

module _ (n : Numbered) (board : IsBoard n.board) where
  abbrev a : PlainGraph
  a = graph_of n

  is : IsGraph a
  is = numbered-is n board

  shows : ShowsGame n.board a (configuration_of n)
  shows = numbered-shows n board

  pub tree_of_lasts : (depth x : ℕ) → x < a.configurations → lasts a depth x ≡ true
      → LabellerTree n.board depth (configuration_of n x)
  tree_of_lasts depth x i e = tree-of-lasts n.board a (configuration_of n) is shows depth x i e

  pub lasts_of_tree : (depth x : ℕ) → x < a.configurations → LabellerTree n.board depth (configuration_of n x)
      → lasts a depth x ≡ true
  lasts_of_tree depth x i tree = lasts-of-tree n.board a (configuration_of n) is shows depth x i tree

  pub value_of_lasts : (value x : ℕ) → x < a.configurations → lasts a value x ≡ true → lasts a (suc value) x ≡ false
      → HasValue n.board (configuration_of n x) (Finite value)
  value_of_lasts value x i e stops =
      (worth-is n.board a (configuration_of n) is shows x value i).0
      (record { is_rank = i; lasting = e; stopping = stops })

  pub lasts_of_value : (value x : ℕ) → x < a.configurations → HasValue n.board (configuration_of n x) (Finite value)
      → (lasts a value x ≡ true) × (lasts a (suc value) x ≡ false)
  lasts_of_value value x i has =
      let exact = (worth-is n.board a (configuration_of n) is shows x value i).1 has in
      (exact.lasting, exact.stopping)

  pub forever_of_lasts : (x : ℕ) → x < a.configurations → LastsForever a x
      → HasValue n.board (configuration_of n x) Forever
  forever_of_lasts x i e = (forever-is n.board a (configuration_of n) is shows x i).0 e

places-by : (k : GraphNumbering) (b : PlainBoard) → (graph_by k b).places ≡ places b
unfolding graph_by
places-by Ordered b = refl
places-by Classes b = refl

-- a gap has a member for each place
pub places_are : (n : Numbered) → (graph_of n).places ≡ places n.board
places_are n = places-by n.numbering n.board
