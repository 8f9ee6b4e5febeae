-- The best answer to a request, by the gap of the other pebbles.
use Rattle.std.specs.Prelude.{◌≡◌, ℕ, ◌<◌, ◌≤◌, List, Option, None, Some}
use Rattle.board_text.specs.PlainBoard.{PlainBoard}
use Rattle.positions.specs.Counts.{IsSmallest}
use Rattle.positions.specs.declared.value.Value.{Value}
use Rattle.positions.specs.declared.value.Value.TheVariants.{Finite, Forever}
use Rattle.positions.specs.Value.{HasValue, HasValueAtMost}
use Rattle.positions.specs.Gaps.{AnswersGap}
use Rattle.classes.specs.ClassGaps.{gap_at, member_with}
use Rattle.gap_values.specs.declared.closing.TheConstants.{OPEN}
use Rattle.gap_values.specs.declared.value_table.Best.{Best}
use Rattle.gap_values.specs.RoundWords.{round_of_word}

-- the label may answer, and the value of no other answer's result is greater: wherever its own is
-- at most a number, theirs are
pub record HasGreatestMember (board : PlainBoard) (gap : List ℕ) (label : ℕ) : Type 0 where
  pub answers : AnswersGap board gap label
  pub greatest : (other : ℕ) → AnswersGap board gap other → (most : ℕ)
      → HasValueAtMost board (member_with gap label) most
      → HasValueAtMost board (member_with gap other) most

-- the smallest of the labels whose results have the greatest value, with that value; or none, if no
-- label may answer
abbrev pub IsBestOfGap : PlainBoard → List ℕ → Option Best → Type 0
IsBestOfGap board gap None = (label : ℕ) → AnswersGap board gap label → ⊥
IsBestOfGap board gap (Some best) = IsSmallest (HasGreatestMember board gap) (Some best.label)
    × HasValue board (member_with gap best.label) best.value

-- the word is that of the value of the label's result
pub record HasWordAfter (board : PlainBoard) (gap : List ℕ) (label word : ℕ) : Type 0 where
  pub few : word ≤ OPEN
  pub value : HasValue board (member_with gap label) (round_of_word word)

-- no result of an answer has a greater value than the word's
abbrev pub IsMostAfter : PlainBoard → List ℕ → ℕ → Type 0
IsMostAfter board gap word = (word ≤ OPEN)
    × ((label : ℕ) → AnswersGap board gap label → word < OPEN
    → HasValueAtMost board (member_with gap label) word)

-- the result of each answer of the gap has a value below the number
abbrev pub LeadBelow : PlainBoard → List ℕ → ℕ → Type 0
LeadBelow board gap number = (label : ℕ) → AnswersGap board gap label
    → (depth : ℕ) × (depth < number) × HasValue board (member_with gap label) (Finite depth)

-- the first pebble of the configuration a request of which leads to values below this finite one
-- alone, if there is one; none for `Forever`
abbrev pub IsFirstBelow : PlainBoard → List ℕ → Value → Option ℕ → Type 0
IsFirstBelow board held (Finite number) request =
    IsSmallest (λ pebble. (pebble < board.pebbles) × LeadBelow board (gap_at held pebble) number)
    request
IsFirstBelow board held Forever request = request ≡ None
