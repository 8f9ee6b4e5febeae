-- The members and the answers of a gap.
use Rattle.std.specs.Prelude.{◌≡◌, ℕ, ◌<◌, ◌↔◌, true, List, slice_index}
use Rattle.board_text.specs.Domination.{has_bit}
use Rattle.board_text.specs.declared.board.TheConstants.{MAX_LABELS}
use Rattle.graphs.specs.Graph.{PlainGraph}

-- the label is an answer of the gap: the member with it is struck there
pub record IsAnswerIn (a : PlainGraph) (gap label : ℕ) : Type 0 where
  pub is_place : label < a.places
  pub struck : a.struck (a.member gap label) ≡ gap

-- the bits are those of the answers of the gap, all of which are labels
pub record AreAnswerBits (a : PlainGraph) (gap : ℕ) (row : List ℕ) : Type 0 where
  pub few : (label : ℕ) → IsAnswerIn a gap label → label < MAX_LABELS
  pub each : (label : ℕ) → label < MAX_LABELS → (has_bit row label ≡ true) ↔ IsAnswerIn a gap label

-- the list begins with the gap's members at the first `count` places
abbrev pub AreMembers : PlainGraph → ℕ → ℕ → List ℕ → Type 0
AreMembers a gap count members =
    (place : ℕ) → place < count → slice_index members place ≡ a.member gap place
