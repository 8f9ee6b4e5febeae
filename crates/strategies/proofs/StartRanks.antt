-- The value of the configuration that has the rank of the start.
use Rattle.std.proofs.Common.{◌≡◌, ℕ, List, ap, ◌∙◌, subst}
use Rattle.board_text.specs.PlainBoard.{PlainBoard, IsConfiguration}
use Rattle.positions.specs.declared.value.Value.{Value}
use Rattle.positions.specs.Value.{HasValue}
use Rattle.positions.specs.Ranks.{configuration_at, rank_of}
use Rattle.positions.proofs.Cited.{configuration_at-rank_of}

pub start_value : (board : PlainBoard) (start : ℕ) (value : Value) → IsConfiguration board board.start
    → start ≡ rank_of board board.start
    → HasValue board (configuration_at board start) value → HasValue board board.start value
start_value board start value is start_is has =
    subst (λ (c : List ℕ). HasValue board c value)
    (ap (configuration_at board) start_is ∙ configuration_at-rank_of board board.start is) has
