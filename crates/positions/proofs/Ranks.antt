-- Ranks and configurations of a board.
use Rattle.std.proofs.Common.{◌≡◌, ℕ, ◌^◌, ◌<◌, ◌↔◌, List, length, subst, sym, ◌∙◌}
use Rattle.board_text.specs.PlainBoard.{PlainBoard, IsConfiguration, places}
use Rattle.positions.specs.Ranks.{digits_of, configurations, rank_of, configuration_at, ComesBefore}
use Rattle.positions.proofs.Digits.{length-digits_of, number_of-digits_of, digits_of-number_of, number_below}
use Rattle.positions.proofs.Digits.{digits_below}
use Rattle.positions.proofs.RankOrder.{smaller_number, comes_before}

pub rank_below : (board : PlainBoard) (configuration : List ℕ) → IsConfiguration board configuration
    → rank_of board configuration < configurations board
rank_below board configuration is =
    subst (λ (n : ℕ). rank_of board configuration < places board ^ n) is.each_pebble
    (number_below (places board) configuration is.each_place)

pub rank_of-configuration_at : (board : PlainBoard) (rank : ℕ) → rank < configurations board
    → rank_of board (configuration_at board rank) ≡ rank
rank_of-configuration_at board rank below = number_of-digits_of (places board) board.pebbles rank below

pub configuration_at-rank_of : (board : PlainBoard) (configuration : List ℕ) → IsConfiguration board configuration
    → configuration_at board (rank_of board configuration) ≡ configuration
configuration_at-rank_of board configuration is =
    subst (λ (n : ℕ). digits_of (places board) n (rank_of board configuration) ≡ configuration) is.each_pebble
    (digits_of-number_of (places board) configuration is.each_place)

pub configuration_at_is : (board : PlainBoard) (rank : ℕ) → rank < configurations board
    → IsConfiguration board (configuration_at board rank)
configuration_at_is board rank below = record {
  each_pebble = length-digits_of (places board) board.pebbles rank;
  each_place = digits_below (places board) board.pebbles rank below;
}

pub in_order : (board : PlainBoard) (first second : List ℕ) → IsConfiguration board first → IsConfiguration board second
    → rank_of board first < rank_of board second ↔ ComesBefore first second
in_order board first second one other =
    let same : length first ≡ length second = one.each_pebble ∙ sym other.each_pebble in (
      comes_before (places board) first second other.each_place same,
      smaller_number (places board) first second one.each_place same,
    )
