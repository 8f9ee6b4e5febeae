-- Rows stand at the positions that the moves of their side reach.
use Rattle.std.proofs.Common.{◌↔◌, ℕ, List, Bool, IsTrue, subst}
use Rattle.board_text.specs.PlainBoard.{PlainBoard}
use Rattle.positions.specs.Table.{AnswerRow, RequestRow}
use Rattle.positions.specs.declared.value.Value.{Value}
use Rattle.positions.specs.declared.value.Value.TheVariants.{Finite}
use Rattle.positions.specs.Value.{HasValue}
use Rattle.positions.proofs.Cited.{same_value}
use Rattle.strategies.specs.Best.{IsLess}
use Rattle.strategies.specs.DocumentMoves.{IsAnswerable}
use Rattle.strategies.specs.Inside.NumberedPositions.{AreNumberedPositions, IsSideOf, NumberedPositions, answer_moves}
use Rattle.strategies.specs.Inside.NumberedPositions.{request_moves}
use Rattle.strategies.specs.Inside.Side.{adversary_side_over, labeller_side_over}
use Rattle.strategies.proofs.GatheredRows.{adversarys, labellers}
use Rattle.strategies.proofs.Spread.{answers_move, requests_move}

-- the value is 1 or more
pub answerable_is : (board : PlainBoard) (held : List ℕ) (value : Value) (some : Bool) → HasValue board held value
    → IsTrue some ↔ IsLess (Finite 0) value → IsTrue some ↔ IsAnswerable board held
answerable_is board held value some has is = (
  λ yes. record { value = value; has_value = has; some = is.0 yes },
  λ answerable. is.1 (subst (IsLess (Finite 0))
      (same_value board held answerable.value value answerable.has_value has) answerable.some),
)

module _ {R : Type 0} (over : NumberedPositions) (is : AreNumberedPositions over) where
  pub labellers_of : (shown : R → AnswerRow) (IsFilled : R → Type 0) (start : Value)
      → IsSideOf over (answer_moves over)
      (labeller_side_over shown IsFilled over.positions over.numbering over.board start)
  labellers_of shown IsFilled start = record {
    are = answers_move over;
    reached = λ number. (λ reached. reached, λ reached. reached);
    rows = labellers over.board over.positions is.positions over.numbering is.board.start shown IsFilled start;
  }

  pub adversarys_of : (shown : R → RequestRow) (IsFilled : R → Type 0)
      → IsSideOf over (request_moves over)
      (adversary_side_over shown IsFilled over.positions over.numbering over.board)
  adversarys_of shown IsFilled = record {
    are = requests_move over;
    reached = λ number. (λ reached. reached, λ reached. reached);
    rows = adversarys over.board over.positions is.positions over.numbering is.board.start shown IsFilled;
  }
