-- A graph that shows the game of a board: the one theorem by which a board enters.
use Rattle.std.specs.Prelude.{◌≡◌, ℕ, ◌<◌, ◌↔◌, List}
use Rattle.board_text.specs.PlainBoard.{PlainBoard}
use Rattle.positions.specs.Game.{Legal, LabellerTree, moved}
use Rattle.graphs.specs.Answers.{IsAnswerIn}
use Rattle.graphs.specs.Graph.{PlainGraph}

-- a request of the pebble at the configuration is answered in the gap: its answers are the legal
-- labels, and a labeller lasts as long at the member with a label as after a move there
pub record IsAsked (b : PlainBoard) (a : PlainGraph) (at : ℕ → List ℕ) (configuration : List ℕ)
    (pebble gap : ℕ) : Type 0 where
  pub legal : (label : ℕ) → Legal b configuration pebble label ↔ IsAnswerIn a gap label
  pub after : (depth label : ℕ) → Legal b configuration pebble label
      → LabellerTree b depth (moved configuration pebble label)
      ↔ LabellerTree b depth (at (a.member gap label))

-- the configuration `at x` stands for the number x: each of its pebbles has a gap, and each of its
-- gaps a pebble
pub record ShowsGame (b : PlainBoard) (a : PlainGraph) (at : ℕ → List ℕ) : Type 0 where
  pub gap_of : (c p : ℕ) → c < a.configurations → p < b.pebbles
      → (g : ℕ) × (g < a.gaps) × ((v : ℕ) × (v < a.places) × (a.member g v ≡ c))
      × IsAsked b a at (at c) p g
  pub pebble_of : (g v : ℕ) → g < a.gaps → v < a.places
      → (p : ℕ) × (p < b.pebbles) × IsAsked b a at (at (a.member g v)) p g
