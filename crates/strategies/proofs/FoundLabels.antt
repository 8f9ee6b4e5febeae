-- The best request and the labels of the best answers, as the pebbles are gone through.
use Rattle.std.proofs.Common.{◌≡◌, ℕ, ◌+◌, ◌<◌, ◌≤◌, List, slice_set, Option, None, Some, sym, subst, arith}
use Rattle.board_text.specs.PlainBoard.{PlainBoard}
use Rattle.board_text.specs.declared.board.TheConstants.{MAX_PEBBLES}
use Rattle.gap_values.specs.declared.value_table.Best.{Best}
use Rattle.strategies.specs.Best.{IsBestAnswer, IsBestFor}
use Rattle.strategies.specs.DocumentMoves.{IsAnswerable}
use Rattle.strategies.specs.Inside.Answers.{label_of, value_with}
use Rattle.strategies.specs.Inside.RankMoves.{answered_with}
use Rattle.strategies.proofs.AskedRequests.{IsAskedBelow, asked-kept, asked-less}
use Rattle.strategies.proofs.MadeRows.{AreTakenBelow, has_answer, taken_more}

-- the best request below a bound, and the labels of the best answers, if the places have a value of 1 or more
pub record AreFound (board : PlainBoard) (held : List ℕ) (bound least : ℕ) (asked : Option ℕ) (labels : List ℕ)
    : Type 0 where
  pub request : IsAskedBelow board held bound least asked
  pub taken : IsAnswerable board held → AreTakenBelow board held bound labels

module _ (board : PlainBoard) (held : List ℕ) where
  -- places of value 1 or more have a best answer
  answer-label : IsAnswerable board held → (pebble : ℕ) → pebble < board.pebbles → (best : Option Best)
      → IsBestFor board held pebble best → IsBestAnswer board held pebble (label_of best)
  answer-label some pebble low None is = absurd (has_answer board held some pebble low is)
  answer-label some pebble low (Some best) is = is.0

  module _ (pebble least : ℕ) (asked : Option ℕ) (labels : List ℕ) (low : pebble < board.pebbles)
      (few : board.pebbles ≤ MAX_PEBBLES) (was : AreFound board held pebble least asked labels) (best : Option Best)
      (is : IsBestFor board held pebble best) (label requests : ℕ) (label_is : label ≡ label_of best)
      (requests_is : value_with requests ≡ answered_with best) where
    taken : IsAnswerable board held → AreTakenBelow board held (pebble + 1) (slice_set labels pebble label)
    taken some = taken_more board held pebble label labels (omega (arith, low, few)) (was.taken some)
        (subst (IsBestAnswer board held pebble) (sym label_is) (answer-label some pebble low best is))

    -- an answer that leaves less
    pub found-less : requests < least
        → AreFound board held (pebble + 1) requests (Some pebble) (slice_set labels pebble label)
    found-less less = record {
      request = asked-less board held pebble least asked was.request best is requests requests_is less;
      taken = taken;
    }

    -- one that doesn't
    pub found-kept : least ≤ requests → AreFound board held (pebble + 1) least asked (slice_set labels pebble label)
    found-kept not = record {
      request = asked-kept board held pebble least asked was.request best is requests requests_is not;
      taken = taken;
    }
