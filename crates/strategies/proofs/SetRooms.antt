-- Sets have room for all numbers of positions, and of gaps.
use Rattle.std.proofs.Common.{◌≡◌, ℕ, ◌+◌, ◌^◌, ◌<◌, ◌≤◌, ◌∷◌, Some, arith, false, length}
use Rattle.std.specs.List.{remove}
use Rattle.std.proofs.Math.ListN.{length-replicate, replicate}
use Rattle.std.proofs.Math.Nat.{pow-le-pow_left, pow-le-pow_right}
use Rattle.board_text.specs.PlainBoard.{PlainBoard, IsBoard}
use Rattle.positions.specs.Gaps.{gaps}
use Rattle.positions.specs.Ranks.{configurations}
use Rattle.positions.proofs.Cited.{gap_below}
use Rattle.symmetries.specs.AlikeTables.{AlikeBy}
use Rattle.strategies.specs.Inside.NumberedPositions.{HasRoomForEach, over_by, over_ranks}
use Rattle.strategies.specs.Inside.ReachedLists.{none_listed, room_of_list}
use Rattle.strategies.specs.Inside.ReachedMarks.{none_reached, room_of_marks}
use Rattle.strategies.proofs.ClassNumbers.{last_number, number-ends, numbers-end}
use Rattle.strategies.proofs.ClassGaps.{others_are}

-- by marks
pub marks_have_room : (board : PlainBoard) (size many : ℕ) → size ≡ configurations board → many ≡ gaps board
    → HasRoomForEach (over_ranks board) (room_of_marks (none_reached size)) (room_of_marks (none_reached many))
marks_have_room board size many size_is many_is = record {
  numbers = λ rank is.
      let below : rank < configurations board = is in
      let long : length (replicate size false) ≡ size = length-replicate size false in
      omega (arith, below, long, size_is);
  gaps = λ held pebble is inside.
      let low = gap_below board held pebble is inside in
      let long : length (replicate many false) ≡ many = length-replicate many false in
      omega (arith, low, long, many_is);
}

-- a board within the limits has few numbers of classes
last_few : (board : PlainBoard) → IsBoard board → last_number board ≤ 257 ^ 6
last_few board is =
    let some : 0 < board.labels + 1 = omega arith in
    let low : board.pebbles ≤ 6 = omega (arith, is.pebbles.1) in
    let wide : (board.labels + 1) ^ board.pebbles ≤ (board.labels + 1) ^ 6 = pow-le-pow_right some low in
    let bound : board.labels + 1 ≤ 257 = omega (arith, is.labels.1) in
    let most : (board.labels + 1) ^ 6 ≤ 257 ^ 6 = pow-le-pow_left bound 6 in
    omega (arith, wide, most)

-- by lists
pub lists_have_room : (board : PlainBoard) (alike : AlikeBy) (most : ℕ) → IsBoard board
    → HasRoomForEach (over_by board (Some alike)) (room_of_list (none_listed most)) (room_of_list (none_listed most))
lists_have_room board alike most is_board = record {
  numbers = λ number is.
      let low : number < last_number board = number-ends board number is in
      omega (arith, low, last_few board is_board);
  gaps = λ held pebble is inside.
      let low = numbers-end board (0 ∷ remove held pebble) (others_are board held pebble is inside) in
      omega (arith, low, last_few board is_board);
}
