-- Gaps: a pebble, with places for all other pebbles.
use Rattle.std.specs.Prelude.{ℕ, ◌+◌, ◌-◌, ◌*◌, ◌/◌, ◌%◌, ◌^◌, ◌<◌, List, slice_index}
use Rattle.std.specs.List.{All, remove, insert}
use Rattle.board_text.specs.PlainBoard.{PlainBoard, DominatesPlace, places}
use Rattle.positions.specs.Game.{DominatesOthers}
use Rattle.positions.specs.Ranks.{number_of, digits_of}

-- the number of gaps of each pebble
abbrev pub gaps_each : PlainBoard → ℕ
gaps_each board = places board ^ (board.pebbles - 1)

-- the number of gaps of a board
abbrev pub gaps : PlainBoard → ℕ
gaps board = board.pebbles * gaps_each board

-- the gap of a pebble at a configuration: after the pebble,
-- the other pebbles' places, in order, read in base `places`
abbrev pub gap_of : PlainBoard → List ℕ → ℕ → ℕ
gap_of board configuration pebble =
    pebble * gaps_each board + number_of (places board) (remove configuration pebble)

-- the pebble of a gap
abbrev pub pebble_of : PlainBoard → ℕ → ℕ
pebble_of board gap = gap / gaps_each board

-- the places of the other pebbles
abbrev pub others_of : PlainBoard → ℕ → List ℕ
others_of board gap = digits_of (places board) (board.pebbles - 1) (gap % gaps_each board)

-- the member of a gap that has this place for its pebble
abbrev pub member_of : PlainBoard → ℕ → ℕ → List ℕ
member_of board gap place = insert (others_of board gap) (pebble_of board gap) place

-- the label may answer a request of a pebble while the others have these places
pub record AnswersGap (board : PlainBoard) (others : List ℕ) (label : ℕ) : Type 0 where
  pub is_label : label < board.labels
  pub dominates : All (DominatesPlace board label) others

-- the label may answer a request of the gap's pebble
abbrev pub IsAnswer : PlainBoard → ℕ → ℕ → Type 0
IsAnswer board gap label = AnswersGap board (others_of board gap) label

-- the pebble holds a label that dominates all others at the configuration
pub record IsDominator (board : PlainBoard) (configuration : List ℕ) (pebble : ℕ) : Type 0 where
  pub is_pebble : pebble < board.pebbles
  pub has_label : slice_index configuration pebble < board.labels
  pub dominates : DominatesOthers board configuration pebble (slice_index configuration pebble)
