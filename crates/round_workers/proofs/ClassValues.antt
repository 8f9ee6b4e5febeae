-- The words of a solver by classes are the values of a board's classes.
use Rattle.std.proofs.Common.{◌≤◌, List, ℕ, arith}
use Rattle.board_text.specs.PlainBoard.{PlainBoard}
use Rattle.graphs.specs.Numbered.{configuration_by, graph_by, graph_of, numbered, Classes}
use Rattle.classes.specs.Numbers.{class_count}
use Rattle.gap_values.specs.ClassValues.{AreClassValues}
use Rattle.solver.specs.Words.{AreValueWords}

pub class-values : (board : PlainBoard) (words : List ℕ) → AreValueWords (numbered board Classes) words
    → AreClassValues board words
unfolding graph_by configuration_by
class-values board words are = record {
  size = are.size;
  each = are.each;
  few = λ class low finite. are.few class low (λ none. omega (arith, none, finite));
}

-- the graph by classes has a number for each class
pub each-class : (board : PlainBoard) (least : ℕ) → least ≤ (graph_of (numbered board Classes)).configurations
    → least ≤ class_count board
unfolding graph_by
each-class board least few = few
