-- Sets of labels.
use Rattle.std.specs.Prelude.{◌≡◌, ℕ, ◌<◌, true, List}
use Rattle.board_text.specs.Domination.{has_bit}
use Rattle.board_text.specs.declared.board.TheConstants.{MAX_LABELS}

-- the label is in the set that has these bits
abbrev pub IsInSet : List ℕ → ℕ → Type 0
IsInSet bits label = (label < MAX_LABELS) × (has_bit bits label ≡ true)
