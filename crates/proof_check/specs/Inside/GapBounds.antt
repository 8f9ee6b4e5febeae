-- Numbers above those of the rows of all results of a request, by its gap.
use Rattle.std.specs.Prelude.{ℕ, ◌<◌, List, length, slice_index}
use Rattle.board_text.specs.PlainBoard.{PlainBoard}
use Rattle.positions.specs.Gaps.{IsAnswer, member_of}
use Rattle.positions.specs.Table.{RequestRow}
use Rattle.proof_check.specs.declared.gap_bounds.TheConstants.{NO_BOUND}
use Rattle.proof_text.specs.Rules.{IsListedBelow}

-- each answer of the gap leads to a row with a number below the bound, unless that is none
abbrev pub IsBound : PlainBoard → List RequestRow → ℕ → ℕ → Type 0
IsBound board rows gap bound = bound < NO_BOUND → (label : ℕ) → IsAnswer board gap label
    → IsListedBelow rows (member_of board gap label) bound

-- the bound of each gap
abbrev pub AreBounds : PlainBoard → List RequestRow → List ℕ → Type 0
AreBounds board rows bounds =
    (gap : ℕ) → gap < length bounds → IsBound board rows gap (slice_index bounds gap)
