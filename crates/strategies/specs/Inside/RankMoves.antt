-- The best answers of gaps by the numbers of their classes.
use Rattle.std.specs.Prelude.{◌≡◌, ℕ, suc, ◌-◌, ◌<◌, ◌≤◌, List, length, Option, Some, None}
use Rattle.std.specs.Prelude.{slice_index_or}
use Rattle.board_text.specs.PlainBoard.{PlainBoard, IsBoard, IsConfiguration, places}
use Rattle.positions.specs.declared.value.Value.{Value}
use Rattle.positions.specs.declared.value.Value.TheVariants.{Finite, Forever}
use Rattle.positions.specs.declared.space.TheConstants.{MAX_CONFIGURATIONS}
use Rattle.positions.specs.Ranks.{configurations}
use Rattle.classes.specs.ClassGaps.{gap_at}
use Rattle.classes.specs.Numbers.{number_by_greatest, ways}
use Rattle.gap_values.specs.declared.value_table.Best.{Best}
use Rattle.strategies.specs.Best.{IsBestFor}

-- the best answer to each request whose gap has the number
abbrev pub IsBestOfNumber : (List ℕ → ℕ → ℕ) → PlainBoard → ℕ → Option Best → Type 0
IsBestOfNumber number_of board number best = (held : List ℕ) (pebble : ℕ)
    → IsConfiguration board held → pebble < board.pebbles → number_of held pebble ≡ number
    → IsBestFor board held pebble best

-- the number of the class of a request's gap
abbrev pub class_of_gap : List ℕ → ℕ → ℕ
class_of_gap held pebble = number_by_greatest (gap_at held pebble)

-- the best answers of the gaps with numbers below a bound, by number
pub record AreBestBelow (board : PlainBoard) (bound : ℕ) (answers : List (Option Best)) : Type 0
  where
    pub one_each : length answers ≡ bound
    pub best : (number : ℕ) → number < bound
        → IsBestOfNumber class_of_gap board number (slice_index_or answers number None)

-- the best answers of all gaps, by number
abbrev pub AreBestOfAll : PlainBoard → List (Option Best) → Type 0
AreBestOfAll board answers = AreBestBelow board (ways (board.pebbles - 1) (places board)) answers

-- ranks and tables of one board of the limits, and the best answers of its gaps
pub record AreRankMoves (board ranks members : PlainBoard) (answers : List (Option Best)) : Type 0
  where
    pub is_board : IsBoard board
    pub few : configurations board ≤ MAX_CONFIGURATIONS
    pub same_ranks : ranks ≡ board
    pub same_members : members ≡ board
    pub best : AreBestOfAll board answers

-- one more than a value
abbrev pub one_more : Value → Value
one_more (Finite number) = Finite (suc number)
one_more Forever = Forever

-- the number of requests that can be answered, if this is the best answer to the first
abbrev pub answered_with : Option Best → Value
answered_with (Some best) = one_more best.value
answered_with None = Finite 0

-- forever, or fewer requests than a small board has configurations
abbrev pub IsSmallValue : Value → Type 0
IsSmallValue (Finite number) = number < MAX_CONFIGURATIONS
IsSmallValue Forever = Unit {0}

-- the best answer, if there is one, leads to such a value
abbrev pub IsCountable : Option Best → Type 0
IsCountable (Some best) = IsSmallValue best.value
IsCountable None = Unit {0}
