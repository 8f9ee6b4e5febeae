-- The values of the classes of a board as words.
use Rattle.std.specs.Prelude.{◌≡◌, ℕ, ◌<◌, List, length, slice_index}
use Rattle.board_text.specs.PlainBoard.{PlainBoard, places}
use Rattle.positions.specs.Value.{HasValue}
use Rattle.classes.specs.Numbers.{class_count, class_with}
use Rattle.positions.specs.declared.space.TheConstants.{MAX_CONFIGURATIONS}
use Rattle.gap_values.specs.declared.closing.TheConstants.{OPEN}
use Rattle.gap_values.specs.RoundWords.{round_of_word}

-- each class has at its number the word of its value: the value, or the greatest word for Forever
pub record AreClassValues (board : PlainBoard) (words : List ℕ) : Type 0 where
  pub size : length words ≡ class_count board
  pub each : (class : ℕ) → class < class_count board
      → HasValue board (class_with (places board) board.pebbles class)
      (round_of_word (slice_index words class))
  pub few : (class : ℕ) → class < class_count board → slice_index words class < OPEN
      → slice_index words class < MAX_CONFIGURATIONS
