-- Ranks: configurations as numbers.
use Rattle.std.specs.Prelude.{◌≡◌, ℕ, zero, suc, ◌+◌, ◌*◌, ◌/◌, ◌%◌, ◌^◌, ◌<◌, List, [], ◌∷◌}
use Rattle.std.specs.Prelude.{length, take, slice_index}
use Rattle.board_text.specs.PlainBoard.{PlainBoard, places}

-- the places read in a base, the first most significant
abbrev pub number_of : ℕ → List ℕ → ℕ
number_of base [] = 0
number_of base (place ∷ others) = place * base ^ length others + number_of base others

-- `count` digits of a number in a base, the most significant first
abbrev pub digits_of : ℕ → ℕ → ℕ → List ℕ
digits_of base zero number = []
digits_of base (suc count) number =
    number / base ^ count ∷ digits_of base count (number % base ^ count)

-- the number of configurations of a board
abbrev pub configurations : PlainBoard → ℕ
configurations board = places board ^ board.pebbles

-- the rank of a configuration: its places read in base `places`, pebble 0 most significant
abbrev pub rank_of : PlainBoard → List ℕ → ℕ
rank_of board configuration = number_of (places board) configuration

-- the configuration of a rank
abbrev pub configuration_at : PlainBoard → ℕ → List ℕ
configuration_at board rank = digits_of (places board) board.pebbles rank

-- two lists agree before some index, and at that index the first has the smaller number
pub record ComesBefore (first second : List ℕ) : Type 0 where
  pub index : ℕ
  pub same_before : take index first ≡ take index second
  pub smaller_there : slice_index first index < slice_index second index
