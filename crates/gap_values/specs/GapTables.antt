-- Tables of gaps: for each gap of classes the round in which it closes, if it does.
use Rattle.std.specs.Prelude.{ℕ, suc, ◌<◌, ◌-◌, ◌↔◌, List}
use Rattle.board_text.specs.PlainBoard.{PlainBoard, places}
use Rattle.positions.specs.declared.value.Value.{Value}
use Rattle.positions.specs.declared.value.Value.TheVariants.{Finite, Forever}
use Rattle.classes.specs.Classes.{IsClass}
use Rattle.positions.specs.Gaps.{AnswersGap}
use Rattle.classes.specs.ClassGaps.{gap_at, member_with}

-- a round before the bound; `Forever` is none
abbrev pub IsClosedBefore : Value → ℕ → Type 0
IsClosedBefore (Finite round) bound = round < bound
IsClosedBefore Forever bound = ⊥

-- some gap of the configuration closes before the bound
abbrev pub HasClosedGap : PlainBoard → (List ℕ → Value) → List ℕ → ℕ → Type 0
HasClosedGap board closed configuration bound =
    (pebble : ℕ) × (pebble < board.pebbles)
    × IsClosedBefore (closed (gap_at configuration pebble)) bound

-- for each answer of the gap a gap of the result closes before the bound
abbrev pub ClosesBy : PlainBoard → (List ℕ → Value) → List ℕ → ℕ → Type 0
ClosesBy board closed gap bound =
    (label : ℕ) → AnswersGap board gap label
    → HasClosedGap board closed (member_with gap label) bound

-- each gap closes in the first round before which, for each of its answers, a gap of the result has
-- closed: in round 0 if it has no answers
abbrev pub IsGapTable : PlainBoard → (List ℕ → Value) → Type 0
IsGapTable board closed =
    (gap : List ℕ) → IsClass (places board) (board.pebbles - 1) gap → (bound : ℕ)
    → IsClosedBefore (closed gap) (suc bound) ↔ ClosesBy board closed gap bound

-- the round in which the first gap of the configuration closes; `Forever` if none does
abbrev pub IsFirstClosed : PlainBoard → (List ℕ → Value) → List ℕ → Value → Type 0
IsFirstClosed board closed configuration value =
    (bound : ℕ) → IsClosedBefore value bound ↔ HasClosedGap board closed configuration bound
