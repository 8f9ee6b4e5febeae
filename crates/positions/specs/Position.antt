-- A configuration of a board, from which moves are made.
use Rattle.std.specs.Prelude.{ℕ, List}
use Rattle.board_text.specs.PlainBoard.{PlainBoard}
use Rattle.positions.specs.Ranks.{configuration_at}

-- a board and a configuration of it
pub record Position : Type 0 where
  pub board : PlainBoard
  pub configuration : List ℕ

-- the position of a rank
abbrev pub position_at : PlainBoard → ℕ → Position
position_at board rank = record { board = board; configuration = configuration_at board rank }
