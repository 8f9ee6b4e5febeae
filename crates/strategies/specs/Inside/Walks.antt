-- Walks over configurations by ranks: those that differ in the last pebble's place alone.
use Rattle.std.specs.Prelude.{◌≡◌, ℕ, ◌+◌, ◌-◌, ◌*◌, ◌^◌, ◌<◌, ◌≤◌, List, length, slice_index, take}
use Rattle.std.specs.List.{remove}
use Rattle.board_text.specs.PlainBoard.{PlainBoard, IsConfiguration, places}
use Rattle.board_text.specs.declared.board.TheConstants.{MAX_PEBBLES}
use Rattle.positions.specs.Game.{moved}
use Rattle.positions.specs.Ranks.{configurations, configuration_at}
use Rattle.positions.specs.declared.space.TheConstants.{MAX_CONFIGURATIONS}
use Rattle.classes.specs.Classes.{class_of}
use Rattle.classes.specs.ClassGaps.{gap_at}
use Rattle.classes.specs.Numbers.{number_by_greatest}
use Rattle.proof_text.specs.Inside.RowText.{row_head}
use Rattle.strategies.specs.Inside.MovesAt.{HeldPosition}

-- the places of all pebbles but the last
abbrev pub others_held : PlainBoard → List ℕ → List ℕ
others_held board held = take (board.pebbles - 1) held

-- for each number of first pebbles below a bound a row: for each of these pebbles the number of the
-- class of their places without its own, and after these the number of the class of all
pub record AreNumberRows (held : List ℕ) (bound : ℕ) (rests : List ℕ) : Type 0 where
  pub room : length rests ≡ 36
  pub rows : (size : ℕ) → size < bound → (pebble : ℕ) → pebble ≤ size
      → slice_index rests (MAX_PEBBLES * size + pebble)
      ≡ number_by_greatest (class_of (remove (take size held) pebble))

-- for each pebble below a bound, the number of the class of its gap
pub record AreGapNumbers (held : List ℕ) (bound : ℕ) (numbers : List ℕ) : Type 0 where
  pub room : length numbers ≡ MAX_PEBBLES
  pub each : (pebble : ℕ) → pebble < bound
      → slice_index numbers pebble ≡ number_by_greatest (gap_at held pebble)

-- tables for the same board, and from the first rank on its configurations that differ in the last
-- pebble's place alone, by that place
pub record IsGapWalk (board members : PlainBoard) (held : List ℕ) (first : ℕ)
    (rests gaps : List ℕ) : Type 0 where
  pub same_board : members ≡ board
  pub is_configuration : IsConfiguration board held
  pub ranks : (place : ℕ) → place < places board
      → configuration_at board (first + place) ≡ moved held (board.pebbles - 1) place
  pub numbers : AreNumberRows held board.pebbles rests
  pub gaps_are : AreGapNumbers held board.pebbles gaps

-- for each pebble, the difference in rank that one step of its place makes
pub record ArePlaceSteps (board : PlainBoard) (steps : List ℕ) : Type 0 where
  pub room : length steps ≡ MAX_PEBBLES
  pub each : (pebble : ℕ) → pebble < board.pebbles
      → slice_index steps pebble ≡ places board ^ (board.pebbles - 1 - pebble)

-- the position is the configuration of the rank, on a board of the limits
pub record IsBestWalk (board : PlainBoard) (rank : ℕ) (steps : List ℕ)
    (position : HeldPosition) : Type 0 where
  pub same_board : position.board ≡ board
  pub below : rank < configurations board
  pub held_is : position.held ≡ configuration_at board rank
  pub few : configurations board ≤ MAX_CONFIGURATIONS
  pub steps_are : ArePlaceSteps board steps

-- the words are those of the board's places, and the head has the word and all places but the last
pub record IsLineWalk (here : HeldPosition) (labels : ℕ) (head : List ℕ) : Type 0 where
  pub same_labels : labels ≡ here.board.labels
  pub head_is : head ≡ row_head here.board.labels (others_held here.board here.held)
