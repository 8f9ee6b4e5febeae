-- The memory that the values of a board keep.
use Rattle.std.specs.Prelude.{ℕ, ◌+◌, ◌-◌, ◌*◌, if◌then◌else◌, nat_le}
use Rattle.board_text.specs.PlainBoard.{PlainBoard, places}
use Rattle.classes.specs.Numbers.{ways}
use Rattle.gap_values.specs.declared.values.TheConstants.{FEW_LABELS}

-- the bytes of two sets of labels: of words of eight bytes, one for few labels, and else four
abbrev pub bytes_of_sets : PlainBoard → ℕ
bytes_of_sets board = if nat_le board.labels FEW_LABELS then 16 else 64

-- the bytes: four for each gap, for the round in which it closes, and two sets for each class of
-- all pebbles but two
abbrev pub kept_bytes : PlainBoard → ℕ
kept_bytes board =
    4 * ways (board.pebbles - 1) (places board)
    + bytes_of_sets board * ways (board.pebbles - 2) (places board)
