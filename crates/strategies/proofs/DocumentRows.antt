-- The rows of a document.
use Rattle.std.proofs.Common.{◌≡◌, ℕ, zero, suc, ◌<◌, List, [], ◌∷◌, length, slice_index, refl, arith}
use Rattle.board_text.specs.PlainBoard.{PlainBoard, IsConfiguration}
use Rattle.positions.specs.declared.value.Value.{Value}
use Rattle.positions.specs.declared.value.Value.TheVariants.{Finite, Forever}
use Rattle.positions.specs.Game.{LabellerTree}
use Rattle.positions.specs.Value.{HasValue}
use Rattle.positions.specs.Table.{AnswerRow, RequestRow}
use Rattle.positions.proofs.Cited.{lasts_at_most}
use Rattle.strategies.specs.Best.{IsLess, IsBestAnswer}
use Rattle.proof_text.specs.Positions.{Positions}
use Rattle.strategies.specs.DocumentMoves.{IsAnswerMove, IsRequestMove, LeadsOver}
use Rattle.strategies.specs.PositionDocument.{turns_of, IsLabellerRowOver, IsAdversaryRowOver}
use Rattle.strategies.proofs.BestAnswers.{best_answer}
use Rattle.strategies.proofs.BestRequests.{best_request}
use Rattle.strategies.specs.Inside.NumberedPositions.{ArePositions}

-- a list of numbers, one for each below a bound
pub each_number : (P : ℕ → ℕ → Type 0) (count : ℕ) → ((k : ℕ) → k < count → (n : ℕ) × P k n)
    → (ns : List ℕ) × (length ns ≡ count) × ((k : ℕ) → k < count → P k (slice_index ns k))
each_number P zero some = ([], refl, λ k below. absurd (omega arith))
each_number P (suc count) some =
    let first = some 0 (omega arith) in
    let rest = each_number (λ k. P (suc k)) count (λ k below. some (suc k) (omega arith)) in
    let size : length rest.0 ≡ count = rest.1 in
    (first.0 ∷ rest.0, omega arith, front first.0 first.1 rest.0 rest.2)
  where
    front : (first : ℕ) → P 0 first → (ns : List ℕ) → ((k : ℕ) → k < count → P (suc k) (slice_index ns k)) → (k : ℕ)
        → k < suc count → P k (slice_index (first ∷ ns) k)
    front first here ns others zero below = here
    front first here ns others (suc k) below = others k (omega arith)

-- at a value of 1 or more a labeller answers one request
pub answers_one : (board : PlainBoard) (configuration : List ℕ) (value : Value) → HasValue board configuration value
    → IsLess (Finite 0) value
    → LabellerTree board 1 configuration
answers_one board configuration (Finite number) has some =
    lasts_at_most board configuration 1 number (omega (arith, some)) has.0
answers_one board configuration Forever has some = has 1

-- all places of value 1 or more that best answers lead to have a row
pub answer_row_for : (board : PlainBoard) (positions : Positions) (start value : Value) (moves : List (ℕ × ℕ))
    (to : List ℕ) → IsConfiguration board to
    → LeadsOver positions (IsAnswerMove board) (positions.normal board.start) moves to
    → HasValue board to value → IsLess (Finite 0) value
    → (row : AnswerRow) × IsLabellerRowOver positions board start row × (row.at ≡ to)
    × (row.turns ≡ turns_of start value)
answer_row_for board positions start value moves to is leads has some =
    let lasts = answers_one board to value has some in
    let answers = each_number (IsBestAnswer board to) board.pebbles
    (λ pebble below. let answer = lasts pebble below in best_answer board to pebble is answer.0 answer.1) in
    let row : AnswerRow = record { at = to; turns = turns_of start value; answers = answers.0 } in
    let is_row : IsLabellerRowOver positions board start row = record {
      moves = moves;
      reached = leads;
      value = value;
      has_value = has;
      some = some;
      turns = refl;
      one_each = answers.1;
      best = answers.2;
    } in
    (row, is_row, refl, refl)

-- all places of a finite value that best requests lead to have a row
pub request_row_for : (board : PlainBoard) (positions : Positions) → ArePositions board positions → (number : ℕ)
    (moves : List (ℕ × ℕ)) (to : List ℕ) → IsConfiguration board to
    → LeadsOver positions (IsRequestMove board) (positions.normal board.start) moves to
    → HasValue board to (Finite number)
    → (row : RequestRow) × IsAdversaryRowOver positions board row × (row.at ≡ to) × (row.left ≡ number)
request_row_for board positions are number moves to is leads has =
    let best = best_request board number to has in
    let asking = are.asking to number best.0 is best.1 in
    let row : RequestRow = record { at = to; left = number; request = asking.0 } in
    let is_row : IsAdversaryRowOver positions board row = record {
      moves = moves;
      reached = leads;
      has_value = has;
      asks = asking.1.asks;
      best = asking.1.best;
    } in
    (row, is_row, refl, refl)
