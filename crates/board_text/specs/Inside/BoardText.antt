-- Definitions for this crate's own functions, beside `BoardText`.
use Rattle.std.specs.Prelude.{ℕ, List, ◌++◌}
use Rattle.board_text.specs.PlainBoard.{version_of}
use Rattle.board_text.specs.BoardText.{version_line, labels_line, pebbles_line, start_line}

-- the first four lines
abbrev pub board_head : ℕ → ℕ → List ℕ → List ℕ
board_head labels pebbles start =
    version_line (version_of labels start)
    ++ (labels_line labels ++ (pebbles_line pebbles ++ start_line labels start))
