-- The two limits of boards, and how they stand to each other.
use Rattle.std.proofs.Common.{◌-◌, ◌≤◌, ◌⊎◌, inl, inr, arith}
use Rattle.std.proofs.lemmas.Bool.{cases_lt}
use Rattle.board_text.specs.PlainBoard.{PlainBoard, IsBoard, places}
use Rattle.board_text.proofs.Cited.{some_places}
use Rattle.positions.specs.Ranks.{configurations}
use Rattle.positions.specs.declared.space.TheConstants.{MAX_CONFIGURATIONS}
use Rattle.classes.specs.Numbers.{class_count, ways}
use Rattle.classes.proofs.Cited.{few-of-small, ways-within}
use Rattle.gap_values.specs.declared.rounds.TheConstants.{MAX_GAPS}
use Rattle.runs.specs.Texts.{IsWithinLimit}
use Rattle.command_line.specs.declared.asked.BoardLimit.{BoardLimit}
use Rattle.command_line.specs.declared.asked.BoardLimit.TheVariants.{Small, Large}

-- a board has few enough gaps within either limit
pub few_gaps : (limit : BoardLimit) (board : PlainBoard) → IsBoard board → IsWithinLimit limit board
    → ways (board.pebbles - 1) (places board) ≤ MAX_GAPS
few_gaps Small board is few =
    let classes : class_count board ≤ MAX_CONFIGURATIONS = few-of-small board few in
    let less : ways (board.pebbles - 1) (places board) ≤ ways board.pebbles (places board) =
    ways-within (board.pebbles - 1) board.pebbles (places board) (places board) (omega arith) (omega arith)
    (some_places board is) in
    omega (arith, classes, less)
few_gaps Large board is few = few

pub within_or_beyond : (limit : BoardLimit) (board : PlainBoard)
    → IsWithinLimit limit board ⊎ (IsWithinLimit limit board → ⊥)
within_or_beyond Small board = elim (cases_lt MAX_CONFIGURATIONS (configurations board)) [
  | inl many ↦ inr (λ few. omega (arith, many, few))
  | inr few ↦ inl few
]
within_or_beyond Large board = elim (cases_lt MAX_GAPS (ways (board.pebbles - 1) (places board))) [
  | inl many ↦ inr (λ few. omega (arith, many, few))
  | inr few ↦ inl few
]
