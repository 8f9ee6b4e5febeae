-- The numbers of a board's configurations and of their gaps.
use Rattle.std.specs.Prelude.{ℕ, List}
use Rattle.board_text.specs.PlainBoard.{PlainBoard}
use Rattle.positions.specs.Gaps.{gap_of}
use Rattle.positions.specs.Ranks.{rank_of}
use Rattle.classes.specs.Classes.{class_of}
use Rattle.classes.specs.Numbers.{number_by_greatest}
use Rattle.graphs.specs.ClassGraph.{gap_number}
use Rattle.graphs.specs.Numbered.{Numbered, GraphNumbering, Ordered, Classes}

unfoldable pub number_by : GraphNumbering → PlainBoard → List ℕ → ℕ
number_by Ordered board configuration = rank_of board configuration
number_by Classes board configuration = number_by_greatest (class_of configuration)

-- the number of a configuration: its rank, or the number of its class
abbrev pub number_in : Numbered → List ℕ → ℕ
number_in n configuration = number_by n.numbering n.board configuration

unfoldable pub gap_by : GraphNumbering → PlainBoard → List ℕ → ℕ → ℕ
gap_by Ordered board configuration pebble = gap_of board configuration pebble
gap_by Classes board configuration pebble = gap_number configuration pebble

-- the number of the gap of a pebble at a configuration
abbrev pub gap_in : Numbered → List ℕ → ℕ → ℕ
gap_in n configuration pebble = gap_by n.numbering n.board configuration pebble
