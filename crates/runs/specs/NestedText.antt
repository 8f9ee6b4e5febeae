-- The text of a nested board.
use Rattle.std.specs.Prelude.{◌≡◌, ℕ, List}
use Rattle.board_text.specs.PlainBoard.{PlainBoard}
use Rattle.board_text.specs.BoardText.{board_text}
use Rattle.nested_cycles.specs.NestedBoard.{IsNestedBoard}

-- the text is the nested board's of this level and number of pebbles
abbrev pub IsNestedText : ℕ → ℕ → List ℕ → Type 0
IsNestedText levels pebbles text =
    (board : PlainBoard) × IsNestedBoard levels pebbles board × (text ≡ board_text board)
