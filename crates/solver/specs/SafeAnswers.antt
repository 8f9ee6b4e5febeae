-- Answers after which a labeller lasts forever.
use Rattle.std.specs.Prelude.{ℕ}
use Rattle.board_text.specs.PlainBoard.{PlainBoard}
use Rattle.positions.specs.declared.value.Value.TheVariants.{Forever}
use Rattle.positions.specs.Gaps.{member_of, IsAnswer}
use Rattle.positions.specs.Value.{HasValue}

-- the label is an answer of the gap, and a labeller lasts forever after it
abbrev pub IsSafeAnswer : PlainBoard → ℕ → ℕ → Type 0
IsSafeAnswer board gap label =
    IsAnswer board gap label × HasValue board (member_of board gap label) Forever
