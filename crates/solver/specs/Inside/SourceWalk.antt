-- The numbers that a walk over the open members of a gap has left.
use Rattle.std.specs.Prelude.{◌≡◌, ℕ, ◌-◌, ◌<◌, List, length}
use Rattle.graphs.specs.Graph.{PlainGraph}
use Rattle.solver.specs.Inside.Tables.{is_open, members_from}

-- the members of the gap from a place on that have no value yet
abbrev pub open_from : PlainGraph → List ℕ → ℕ → ℕ → List ℕ
open_from a words gap place = members_from a (is_open words) gap place (a.places - place)

-- the number is that of a gap, and each configuration has a word
pub record IsWalk (a : PlainGraph) (words : List ℕ) (gap : ℕ) : Type 0 where
  pub is_gap : gap < a.gaps
  pub words_length : length words ≡ a.configurations
