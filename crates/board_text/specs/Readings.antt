-- The two kinds of texts: a board's, or faulty.
use Rattle.std.specs.Prelude.{◌≡◌, ◌≢◌, ℕ, List}
use Rattle.board_text.specs.PlainBoard.{PlainBoard, IsBoard}
use Rattle.board_text.specs.BoardText.{board_text}
use Rattle.board_text.specs.BoardFaults.{HasBoardFault}
use Rattle.board_text.specs.declared.fault.BoardKind.{BoardKind}
use Rattle.board_text.specs.declared.fault.BoardKind.TheVariants.{Memory}

-- the text is that of some board
abbrev pub IsBoardText : List ℕ → Type 0
IsBoardText text = (board : PlainBoard) × IsBoard board × (text ≡ board_text board)

-- a line of the text has a fault other than out of memory
abbrev pub IsFaulty : List ℕ → Type 0
IsFaulty text = (line : ℕ) × (kind : BoardKind) × (kind ≢ Memory) × HasBoardFault text line kind
