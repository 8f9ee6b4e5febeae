-- The text of a board.
use Rattle.std.specs.Prelude.{ℕ, List, [], ◌∷◌, ◌++◌, codes}
use Rattle.std.specs.List.{flat_map}
use Rattle.board_text.specs.LineForms.{with_line_feed, number_line, numbers_line}
use Rattle.board_text.specs.PlaceForms.{places_line}
use Rattle.board_text.specs.PlainBoard.{PlainBoard, version_of}

abbrev pub version_line : ℕ → List ℕ
version_line version = number_line (codes "board") version

abbrev pub labels_line : ℕ → List ℕ
labels_line labels = number_line (codes "labels") labels

abbrev pub pebbles_line : ℕ → List ℕ
pebbles_line pebbles = number_line (codes "pebbles") pebbles

abbrev pub start_line : ℕ → List ℕ → List ℕ
start_line labels start = places_line labels (codes "start") start

abbrev pub beats_line : ℕ × ℕ → List ℕ
beats_line pair = numbers_line (codes "beats") (pair.0 ∷ pair.1 ∷ [])

abbrev pub end_line : List ℕ
end_line = with_line_feed (codes "end")

-- the prefix of the text up to its last pair
abbrev pub board_text_before_end : PlainBoard → List ℕ
board_text_before_end board =
    (version_line (version_of board.labels board.start) ++ (labels_line board.labels
    ++ (pebbles_line board.pebbles ++ start_line board.labels board.start)))
    ++ flat_map beats_line board.pairs

-- the text of a board
abbrev pub board_text : PlainBoard → List ℕ
board_text board = board_text_before_end board ++ end_line
