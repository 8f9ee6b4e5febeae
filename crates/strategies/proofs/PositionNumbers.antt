-- The positions of a board by ranks, and by the numbers of normal places.
use Rattle.std.proofs.Common.{ℕ, ◌<◌, List, Some}
use Rattle.board_text.specs.PlainBoard.{PlainBoard, IsBoard}
use Rattle.symmetries.specs.AlikeTables.{AlikeBy}
use Rattle.positions.specs.Game.{moved}
use Rattle.positions.specs.Ranks.{configurations, configuration_at}
use Rattle.positions.proofs.Cited.{configuration_at_is, moved_is_configuration}
use Rattle.strategies.specs.Inside.NumberedPositions.{AreNumberedPositions, IsPosition, NumberedPositions}
use Rattle.strategies.specs.Inside.NumberedPositions.{position_number, over_by, over_normal, over_ranks}
use Rattle.strategies.specs.Inside.NormalForm.{IsNormalBy, normal_by}
use Rattle.strategies.proofs.AlikeRequests.{answers_lead, results_lead}
use Rattle.strategies.proofs.ClassGaps.{gaps_of_classes}
use Rattle.strategies.proofs.Numberings.{are_orders, are_ranks}
use Rattle.strategies.proofs.PositionLaws.{are_normal, are_plain}
use Rattle.strategies.proofs.RankGaps.{gaps_of_ranks}

pub after_is : (over : NumberedPositions) (held : List ℕ) (pebble label : ℕ) → IsPosition over held
    → label < over.board.labels → over.numbering.IsNumber (position_number over (moved held pebble label))
after_is over held pebble label is is_label =
    let next : List ℕ = moved held pebble label in
    is.positions.numbers.number_is (over.positions.normal next)
    (is.positions.positions.is next (moved_is_configuration over.board held pebble label is_label is.is_configuration))

pub ranks_are : (board : PlainBoard) → IsBoard board → AreNumberedPositions (over_ranks board)
ranks_are board is_board = record {
  board = is_board;
  positions = are_plain board;
  numbers = are_ranks board;
  answers = λ one other pebble partner is too inside there same.
      answers_lead (over_ranks board) one other pebble partner
      (gaps_of_ranks board one other pebble partner is too inside there same) there;
  results = λ one other pebble partner is too inside there same.
      results_lead (over_ranks board) one other pebble partner
      (gaps_of_ranks board one other pebble partner is too inside there same);
}

pub normal_are : (board : PlainBoard) (alike : AlikeBy) → IsBoard board → IsNormalBy board alike
    → AreNumberedPositions (over_by board (Some alike))
normal_are board alike is_board normal =
    let over : NumberedPositions = over_normal board (normal_by board alike) in
    record {
      board = is_board;
      positions = are_normal board (normal_by board alike) normal.form;
      numbers = are_orders board;
      answers = λ one other pebble partner is too inside there same.
          answers_lead over one other pebble partner
          (gaps_of_classes board (normal_by board alike) normal.form one other pebble partner is too inside there same)
          there;
      results = λ one other pebble partner is too inside there same.
          results_lead over one other pebble partner
          (gaps_of_classes board (normal_by board alike) normal.form one other pebble partner is too inside there same);
    }

pub rank_position : (board : PlainBoard) (rank : ℕ) → IsBoard board → rank < configurations board
    → IsPosition (over_ranks board) (configuration_at board rank)
rank_position board rank is_board below = record {
  positions = ranks_are board is_board;
  is_configuration = configuration_at_is board rank below;
}
