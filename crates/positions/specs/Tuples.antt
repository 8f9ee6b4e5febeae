-- Tuples of places of the pebbles but one, and the labels that may answer a request of that one.
use Rattle.std.specs.Prelude.{ℕ, ◌%◌}
use Rattle.board_text.specs.PlainBoard.{PlainBoard}
use Rattle.positions.specs.Gaps.{gaps_each}

-- the tuple of a gap: the places of all pebbles but the gap's, read in base `places`
abbrev pub tuple_of : PlainBoard → ℕ → ℕ
tuple_of board gap = gap % gaps_each board
