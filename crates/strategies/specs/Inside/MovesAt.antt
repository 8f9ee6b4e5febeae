-- A board and one of its configurations, as the moves there see them.
use Rattle.std.specs.Prelude.{ℕ, List}
use Rattle.board_text.specs.PlainBoard.{PlainBoard}

-- a board, and the places that the pebbles hold
pub record HeldPosition : Type 0 where
  pub board : PlainBoard
  pub held : List ℕ

abbrev pub position : PlainBoard → List ℕ → HeldPosition
position board held = record { board = board; held = held }
