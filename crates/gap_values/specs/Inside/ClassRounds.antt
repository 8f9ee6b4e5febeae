-- The rounds in which gaps close, by the values of classes.
use Rattle.std.specs.Prelude.{ℕ, suc, ◌↔◌, List, slice_index}
use Rattle.board_text.specs.PlainBoard.{PlainBoard}
use Rattle.positions.specs.Gaps.{AnswersGap}
use Rattle.classes.specs.ClassGaps.{member_with}
use Rattle.classes.specs.Numbers.{number_by_greatest}
use Rattle.gap_values.specs.GapTables.{IsClosedBefore}
use Rattle.gap_values.specs.RoundWords.{round_of_word}

-- the word of the gap's member with this place
abbrev pub member_word : List ℕ → List ℕ → ℕ → ℕ
member_word words gap place = slice_index words (number_by_greatest (member_with gap place))

-- the word is that of the round in which the gap closes: the first one that is greater than the
-- values of all results of its answers
abbrev pub IsRoundOf : PlainBoard → List ℕ → List ℕ → ℕ → Type 0
IsRoundOf board words gap word =
    (bound : ℕ) → IsClosedBefore (round_of_word word) (suc bound)
    ↔ ((label : ℕ) → AnswersGap board gap label
    → IsClosedBefore (round_of_word (member_word words gap label)) bound)
