-- The words of a table of gaps.
use Rattle.std.specs.Prelude.{◌≡◌, ℕ, zero, suc, ◌-◌, ◌<◌, ◌≤◌, nat_lt, if◌then◌else◌, List, length}
use Rattle.std.specs.Prelude.{slice_index, Option, Some, None}
use Rattle.std.specs.List.{remove}
use Rattle.board_text.specs.PlainBoard.{PlainBoard, places}
use Rattle.positions.specs.declared.value.Value.{Value}
use Rattle.classes.specs.ClassGaps.{gap_at}
use Rattle.classes.specs.Numbers.{ways, number_by_greatest}
use Rattle.gap_values.specs.GapTables.{IsClosedBefore, IsGapTable}
use Rattle.gap_values.specs.RoundWords.{round_of_word}
use Rattle.gap_values.specs.declared.closing.TheConstants.{OPEN}

-- the table of gaps that these words are
abbrev pub gap_table : List ℕ → List ℕ → Value
gap_table words gap = round_of_word (slice_index words (number_by_greatest gap))

-- a word for each gap of the board
abbrev pub AreGapWords : PlainBoard → List ℕ → Type 0
AreGapWords board words = length words ≡ ways (board.pebbles - 1) (places board)

-- the gap is before the end, and closed in a round before the bound
abbrev pub IsClosedUpTo : List ℕ → ℕ → ℕ → ℕ → Type 0
IsClosedUpTo words bound end gap = (gap < end)
    × IsClosedBefore (round_of_word (slice_index words gap)) bound

-- the words are those of a table of gaps
pub record AreRounds (board : PlainBoard) (words : List ℕ) : Type 0 where
  pub size : AreGapWords board words
  pub table : IsGapTable board (gap_table words)

-- the word of the gap that leaves out the place at an index
abbrev pub word_without : List ℕ → List ℕ → ℕ → ℕ
word_without words class index = slice_index words (number_by_greatest (remove class index))

-- the least of the words of the gaps at the places of a class before an index, or the greatest word
unfoldable pub least_word : List ℕ → List ℕ → ℕ → ℕ
least_word words class zero = OPEN
least_word words class (suc index) =
    if nat_lt (word_without words class index) (least_word words class index)
    then word_without words class index else least_word words class index

-- the word of the gap of a pebble
abbrev pub gap_word : List ℕ → List ℕ → ℕ → ℕ
gap_word words held pebble = slice_index words (number_by_greatest (gap_at held pebble))

-- the pebble is the first of those before an end whose gap has the word, which stands for a round;
-- or no pebble does, and the word stands for none
abbrev pub IsFirstWith : List ℕ → List ℕ → ℕ → ℕ → Option ℕ → Type 0
IsFirstWith words held end word (Some pebble) = (pebble < end) × (word < OPEN)
    × (gap_word words held pebble ≡ word)
    × ((other : ℕ) → other < pebble → word < gap_word words held other)
IsFirstWith words held end word None = word ≡ OPEN

-- no gap of the pebbles before an end has a lesser word, and the pebble is the first with it
pub record IsFirstGap (words held : List ℕ) (end word : ℕ) (pebble : Option ℕ) : Type 0 where
  pub least : (other : ℕ) → other < end → word ≤ gap_word words held other
  pub first : IsFirstWith words held end word pebble
