-- Definitions for this crate's own functions, beside `Position`.
use Rattle.std.specs.Prelude.{◌≡◌, ℕ, ◌<◌, List, slice_index}
use Rattle.board_text.specs.PlainBoard.{PlainBoard, IsBoard}
use Rattle.positions.specs.Inside.LegalWords.{AreOfOthers}
use Rattle.positions.specs.Ranks.{configurations, configuration_at}

-- the space is that of the board, each pebble has its place at the configuration of the rank, and
-- the words tell which labels dominate the places of all other pebbles
pub record HasPlaces (board space : PlainBoard) (rank : ℕ) (places words : List ℕ) : Type 0 where
  pub is_board : IsBoard board
  pub same_board : space ≡ board
  pub is_rank : rank < configurations board
  pub each : (pebble : ℕ) → pebble < board.pebbles
      → slice_index places pebble ≡ slice_index (configuration_at board rank) pebble
  pub legal : AreOfOthers board places words
