-- The rules of checking, for the rows of a document of any version and for the start's number.
use Rattle.std.specs.Prelude.{◌≡◌, ℕ, suc, ◌-◌, ◌<◌, ◌≤◌, List, length, Some, slice_get}
use Rattle.std.specs.List.{All, Contains}
use Rattle.board_text.specs.PlainBoard.{PlainBoard}
use Rattle.positions.specs.Game.{Legal, moved}
use Rattle.positions.specs.Table.{AnswerRow, RequestRow}
use Rattle.positions.specs.declared.claim.Claim.{Claim}
use Rattle.positions.specs.declared.claim.Claim.TheVariants.{Exactly, AtLeast, AtMost, Forever}
use Rattle.positions.specs.declared.turns.Turns.{Turns}
use Rattle.positions.specs.declared.turns.Turns.TheVariants.{Count, Always}
use Rattle.proof_text.specs.Positions.{Positions}
use Rattle.proof_text.specs.Proof.{PlainProof}

-- the turns are at least the wanted ones
abbrev pub IsEnough : Turns → Turns → Type 0
IsEnough (Count wanted) (Count turns) = wanted ≤ turns
IsEnough (Count wanted) Always = Unit {0}
IsEnough Always (Count turns) = ⊥
IsEnough Always Always = Unit {0}

-- the turns that are left after one of them
abbrev pub one_less : Turns → Turns
one_less (Count turns) = Count (turns - 1)
one_less Always = Always

-- some turns are wanted
abbrev pub IsWanted : Turns → Type 0
IsWanted (Count turns) = 1 ≤ turns
IsWanted Always = Unit {0}

-- the places are listed for the wanted turns or more
pub record IsListedFor (rows : List AnswerRow) (configuration : List ℕ)
    (wanted : Turns) : Type 0 where
  pub row : AnswerRow
  pub among : Contains rows row
  pub at : row.at ≡ configuration
  pub enough : IsEnough wanted row.turns

-- the places are listed for the wanted turns, if any are wanted
abbrev pub Serves : List AnswerRow → List ℕ → Turns → Type 0
Serves rows configuration wanted = IsWanted wanted → IsListedFor rows configuration wanted

-- the row's answer to a request is legal, and the rows serve the turns that are left at its result
pub record MeetsRequest (positions : Positions) (board : PlainBoard) (rows : List AnswerRow)
    (row : AnswerRow)
    (pebble : ℕ) : Type 0 where
  pub label : ℕ
  pub answer : slice_get row.answers pebble ≡ Some label
  pub legal : Legal board row.at pebble label
  pub serves : Serves rows (positions.normal (moved row.at pebble label)) (one_less row.turns)

-- the row meets each request
abbrev pub MeetsRequests : Positions → PlainBoard → List AnswerRow → AnswerRow → Type 0
MeetsRequests positions board rows row =
    (pebble : ℕ) → pebble < board.pebbles → MeetsRequest positions board rows row pebble

-- each labeller's row meets each request
abbrev pub LabellerObeys : Positions → PlainBoard → List AnswerRow → Type 0
LabellerObeys positions board rows = All (MeetsRequests positions board rows) rows

-- the places are listed with a number below the bound
pub record IsListedBelow (rows : List RequestRow) (configuration : List ℕ)
    (bound : ℕ) : Type 0 where
  pub row : RequestRow
  pub among : Contains rows row
  pub at : row.at ≡ configuration
  pub below : row.left < bound

-- a legal answer to the row's request leads to a row with a smaller number
abbrev pub MeetsAnswer : Positions → PlainBoard → List RequestRow → RequestRow → ℕ → Type 0
MeetsAnswer positions board rows row label = Legal board row.at (positions.asked row) label
    → IsListedBelow rows (positions.normal (moved row.at (positions.asked row) label)) row.left

-- the row asks a pebble, and each legal answer does
pub record MeetsAnswers (positions : Positions) (board : PlainBoard) (rows : List RequestRow)
    (row : RequestRow) : Type 0 where
  pub asks : positions.asked row < length row.at
  pub each : (label : ℕ) → MeetsAnswer positions board rows row label

-- each adversary's row meets each legal answer
abbrev pub AdversaryObeys : Positions → PlainBoard → List RequestRow → Type 0
AdversaryObeys positions board rows = All (MeetsAnswers positions board rows) rows

-- the turns that a claim wants of the start
abbrev pub wanted_of : Claim → Turns
wanted_of (Exactly number) = Count number
wanted_of (AtLeast number) = Count number
wanted_of (AtMost number) = Count 0
wanted_of Forever = Always

-- the start's number serves the claim's bound from above, if it has one
abbrev pub StartIsBelow : List RequestRow → List ℕ → Claim → Type 0
StartIsBelow rows start (Exactly number) = IsListedBelow rows start (suc number)
StartIsBelow rows start (AtLeast number) = Unit {0}
StartIsBelow rows start (AtMost number) = IsListedBelow rows start (suc number)
StartIsBelow rows start Forever = Unit {0}

-- the numbers at the start serve the claim, and each row obeys
pub record BreaksNoRule (positions : Positions) (board : PlainBoard)
    (proof : PlainProof) : Type 0 where
  pub start_serves : Serves proof.labeller (positions.normal board.start) (wanted_of proof.claim)
  pub start_below : StartIsBelow proof.adversary (positions.normal board.start) proof.claim
  pub labeller : LabellerObeys positions board proof.labeller
  pub adversary : AdversaryObeys positions board proof.adversary
