-- Laws of the numbers of places.
use Rattle.std.proofs.Common.{ℕ, ◌<◌, ◌≤◌, arith}
use Rattle.board_text.specs.PlainBoard.{PlainBoard}
use Rattle.positions.specs.Ranks.{configurations}
use Rattle.positions.proofs.Cited.{configuration_at_is, configuration_at-rank_of, rank_below, rank_of-configuration_at}
use Rattle.strategies.specs.Inside.Numbering.{IsNumbering, by_rank, by_order}
use Rattle.strategies.proofs.ClassNumbers.{class_numbered-order, last_number, number-ends, number-of}

pub are_ranks : (board : PlainBoard) → IsNumbering board (by_rank board)
are_ranks board = record {
  is = configuration_at_is board;
  again = rank_of-configuration_at board;
  number_is = rank_below board;
  places_are = configuration_at-rank_of board;
  end = configurations board;
  below = λ rank is. is;
}

-- an end past all configurations is past all ranks
pub ranks_end : (board : PlainBoard) (end : ℕ) → configurations board ≤ end → (rank : ℕ)
    → (by_rank board).IsNumber rank → rank < end
ranks_end board end enough rank is =
    let below : rank < configurations board = is in omega (arith, below, enough)

pub are_orders : (board : PlainBoard) → IsNumbering board (by_order board)
are_orders board = record {
  is = λ number is. is.is;
  again = λ number is. is.number_is;
  number_is = number-of board;
  places_are = class_numbered-order board;
  end = last_number board;
  below = number-ends board;
}
