-- The rows of a document, gathered in the order of the numbers of their places.
use Rattle.std.proofs.Common.{◌≡◌, ℕ, ◌+◌, List, [], ◌∷◌, ◌++◌, sym, ap, ◌∙◌, subst, arith}
use Rattle.board_text.specs.PlainBoard.{PlainBoard, IsConfiguration}
use Rattle.positions.specs.declared.value.Value.{Value}
use Rattle.positions.specs.declared.value.Value.TheVariants.{Finite, Forever}
use Rattle.positions.specs.Table.{AnswerRow, RequestRow}
use Rattle.positions.specs.Value.{HasValue}
use Rattle.positions.proofs.Cited.{same_value}
use Rattle.proof_text.specs.Positions.{Positions}
use Rattle.strategies.specs.DocumentMoves.{IsAnswerable, IsAnswerMove, IsRequestMove, LeadsOver}
use Rattle.strategies.specs.Inside.Numbering.{Numbering, IsNumbering}
use Rattle.strategies.specs.Inside.Side.{Side, labeller_side_over, adversary_side_over, AreOfReached}
use Rattle.strategies.specs.PositionDocument.{IsLabellerRowOver, IsAdversaryRowOver}
use Rattle.strategies.proofs.RowLists.{AreExactlyBelow, pass_numbers, push_row}
use Rattle.strategies.proofs.OneList.{one_answer_row, one_request_row}
use Rattle.strategies.specs.Inside.NumberedPositions.{ArePositions}
use Rattle.strategies.proofs.ReachedByMoves.{answers_lead_to, lead_normal, requests_lead_to}

-- ---- rows stand at places that are reached

module _ (board : PlainBoard) (positions : Positions) (are : ArePositions board positions) (numbering : Numbering)
    (start : IsConfiguration board board.start) where
  abbrev from : List ℕ
  from = positions.normal board.start

  pub labellers : {R : Type 0} (shown : R → AnswerRow) (IsFilled : R → Type 0) (value : Value)
      → AreOfReached numbering board (labeller_side_over shown IsFilled positions numbering board value)
  labellers shown IsFilled value = record {
    is = λ row is_row. answers_lead_to board positions are from is_row.moves row.at (are.is board.start start)
        is_row.reached;
    reached = λ row number is_row at. record {
      moves = is_row.moves;
      reached = subst (LeadsOver positions (IsAnswerMove board) from is_row.moves) at is_row.reached;
      holds = subst (IsAnswerable board) at
          (record { value = is_row.value; has_value = is_row.has_value; some = is_row.some });
    };
    one = one_answer_row board positions value;
  }

  pub adversarys : {R : Type 0} (shown : R → RequestRow) (IsFilled : R → Type 0)
      → AreOfReached numbering board (adversary_side_over shown IsFilled positions numbering board)
  adversarys shown IsFilled = record {
    is = λ row is_row. requests_lead_to board positions are from is_row.moves row.at (are.is board.start start)
        is_row.reached;
    reached = λ row number is_row at. record {
      moves = is_row.moves;
      reached = subst (LeadsOver positions (IsRequestMove board) from is_row.moves) at is_row.reached;
      holds = tt;
    };
    one = one_request_row board positions are;
  }

  -- a fact of all normal places is one of the places of each row
  module _ (P : List ℕ → Type 0) (each : (c : List ℕ) → IsConfiguration board c → P (positions.normal c)) where
    pub labellers_normal : (value : Value) (row : AnswerRow) → IsLabellerRowOver positions board value row → P row.at
    labellers_normal value row is_row =
        lead_normal board positions are (IsAnswerMove board) (λ c pebble label move. move.best.0.legal.is_label) P each
        from is_row.moves row.at (are.is board.start start) (each board.start start) is_row.reached

    pub adversarys_normal : (row : RequestRow) → IsAdversaryRowOver positions board row → P row.at
    adversarys_normal row is_row =
        lead_normal board positions are (IsRequestMove board) (λ c pebble label move. move.legal.is_label) P each
        from is_row.moves row.at (are.is board.start start) (each board.start start) is_row.reached

-- places that last forever have no row
pub no_request : (board : PlainBoard) (positions : Positions) (places : List ℕ) → HasValue board places Forever
    → (row : RequestRow) → IsAdversaryRowOver positions board row → row.at ≡ places → ⊥
no_request board positions places forever row is_row at =
    let value : Forever ≡ Finite row.left =
    same_value board places Forever (Finite row.left) forever
    (subst (λ (c : List ℕ). HasValue board c (Finite row.left)) at is_row.has_value) in
    absurd cc

-- ---- number by number

module _ {R : Type 0} (board : PlainBoard) (numbering : Numbering) (are : IsNumbering board numbering) (side : Side R)
    (of_reached : AreOfReached numbering board side) where
  -- a row is at the places of its number
  pub at_number : (row : side.Row) (number : ℕ) → side.IsRow row → numbering.number (side.at row) ≡ number
      → side.at row ≡ numbering.places number
  at_number row number is_row same =
      sym (are.places_are (side.at row) (of_reached.is row is_row)) ∙ ap numbering.places same

  -- the next number has this row
  pub row_there : (number : ℕ) (rows : List side.Row) (row : side.Row)
      → AreExactlyBelow numbering.number side.IsRow side.at number rows
      → side.IsRow row → numbering.number (side.at row) ≡ number
      → AreExactlyBelow numbering.number side.IsRow side.at (number + 1) (rows ++ row ∷ [])
  row_there number rows row before is_row here =
      push_row numbering.number side.IsRow side.at number rows row before is_row here
      (λ other is_other same. of_reached.one row other is_row is_other
      (at_number row number is_row here ∙ sym (at_number other number is_other same)))

  -- the next number has no row
  pub no_row_there : (number : ℕ) (rows : List side.Row)
      → AreExactlyBelow numbering.number side.IsRow side.at number rows
      → ((row : side.Row) → side.IsRow row → numbering.number (side.at row) ≡ number → ⊥)
      → AreExactlyBelow numbering.number side.IsRow side.at (number + 1) rows
  no_row_there number rows before none =
      pass_numbers numbering.number side.IsRow side.at number (number + 1) rows (omega arith) before
      (λ row is_row above below. none row is_row (omega (arith, above, below)))
