-- Why a document is refused: the first rule that is broken, in the order of checking, for documents
-- and faults of any kind.
use Rattle.std.specs.Prelude.{◌≡◌, ℕ, suc, ◌<◌, ◌⊎◌, List, Some, slice_get}
use Rattle.board_text.specs.PlainBoard.{PlainBoard}
use Rattle.positions.specs.Game.{Legal, moved}
use Rattle.positions.specs.Table.{AnswerRow, RequestRow}
use Rattle.positions.specs.declared.side.Side.{Side}
use Rattle.positions.specs.declared.side.Side.TheVariants.{Labeller, Adversary}
use Rattle.proof_text.specs.Positions.{Positions}
use Rattle.proof_text.specs.Proof.{PlainProof}
use Rattle.proof_text.specs.Rules.{IsListedFor, Serves, IsWanted, one_less, MeetsRequest}
use Rattle.proof_text.specs.Rules.{MeetsRequests, LabellerObeys, IsListedBelow}
use Rattle.proof_text.specs.Rules.{MeetsAnswer, MeetsAnswers, wanted_of, StartIsBelow}
use Rattle.proof_check.specs.FirstFaults.{HasRow, IsUnserved, FirstFault, FirstTurn, bound_of}

-- how rows stand for configurations, and the fault for each rule that is broken: of a row by its
-- places and the pebble or the label
pub record Refusals (F : Type 0) : Type 0 where
  pub positions : Positions
  pub start_missing : Side → F
  pub start_number : Side → F
  pub illegal_answer : List ℕ → ℕ → F
  pub unlisted : Side → List ℕ → ℕ → F
  pub too_small : List ℕ → ℕ → F
  pub not_stuck : List ℕ → ℕ → F
  pub too_large : List ℕ → ℕ → F

-- ---- rows

-- the rows don't serve the turns that a labeller's row leaves after the pebble's answer
abbrev pub IsWrongResult : {F : Type 0} → Refusals F → List AnswerRow → AnswerRow → ℕ → List ℕ → F
    → Type 0
IsWrongResult refusals rows row pebble result fault =
    IsUnserved (HasRow (λ r. r.at) rows result) (IsListedFor rows result (one_less row.turns))
    (refusals.unlisted Labeller row.at pebble) (refusals.too_small row.at pebble) fault

-- the fault of a labeller's row at a request of the pebble
abbrev pub IsWrongAt : {F : Type 0} → Refusals F → PlainBoard → List AnswerRow → AnswerRow → ℕ → F
    → Type 0
IsWrongAt refusals board rows row pebble fault =
    (label : ℕ) × (slice_get row.answers pebble ≡ Some label)
    × ((¬ Legal board row.at pebble label × (fault ≡ refusals.illegal_answer row.at pebble))
    ⊎ (Legal board row.at pebble label × IsWanted (one_less row.turns)
    × IsWrongResult refusals rows row pebble
    (refusals.positions.normal (moved row.at pebble label)) fault))

-- the rows don't serve the number that an adversary's row has before the label is answered
abbrev pub IsWrongNext : {F : Type 0} → Refusals F → List RequestRow → RequestRow → ℕ → List ℕ → F
    → Type 0
IsWrongNext refusals rows row label result fault =
    IsUnserved (HasRow (λ r. r.at) rows result) (IsListedBelow rows result row.left)
    (refusals.unlisted Adversary row.at label) (refusals.too_large row.at label) fault

-- the fault of an adversary's row at the label, which is a legal answer
abbrev pub IsWrongAfter : {F : Type 0} → Refusals F → List RequestRow → RequestRow → ℕ → F → Type 0
IsWrongAfter refusals rows row label fault =
    ((row.left ≡ 0) × (fault ≡ refusals.not_stuck row.at label))
    ⊎ ((0 < row.left) × IsWrongNext refusals rows row label
    (refusals.positions.normal (moved row.at (refusals.positions.asked row) label)) fault)

-- the fault of a labeller's row, at its first faulty pebble
abbrev pub IsWrongAnswer : {F : Type 0} → Refusals F → PlainBoard → List AnswerRow → AnswerRow → F
    → Type 0
IsWrongAnswer refusals board rows row =
    FirstTurn (λ pebble. pebble < board.pebbles) (MeetsRequest refusals.positions board rows row)
    (IsWrongAt refusals board rows row)

-- the fault of an adversary's row, at its first faulty label
abbrev pub IsWrongRequest : {F : Type 0} → Refusals F → PlainBoard → List RequestRow → RequestRow
    → F → Type 0
IsWrongRequest refusals board rows row =
    FirstTurn (Legal board row.at (refusals.positions.asked row))
    (MeetsAnswer refusals.positions board rows row) (IsWrongAfter refusals rows row)

-- the first faulty labeller's row has the fault
abbrev pub LabellerBreach : {F : Type 0} → Refusals F → PlainBoard → List AnswerRow → F → Type 0
LabellerBreach refusals board rows =
    FirstFault (MeetsRequests refusals.positions board rows) (IsWrongAnswer refusals board rows)
    rows

-- the first faulty adversary's row has the fault
abbrev pub AdversaryBreach : {F : Type 0} → Refusals F → PlainBoard → List RequestRow → F → Type 0
AdversaryBreach refusals board rows =
    FirstFault (MeetsAnswers refusals.positions board rows) (IsWrongRequest refusals board rows)
    rows

-- ---- the start

-- the fault of the start's number in the labeller's rows
abbrev pub IsWrongStart : {F : Type 0} → Refusals F → PlainBoard → PlainProof → F → Type 0
IsWrongStart refusals board proof fault =
    let start : List ℕ = refusals.positions.normal board.start in
    IsWanted (wanted_of proof.claim)
    × IsUnserved (HasRow (λ r. r.at) proof.labeller start)
    (IsListedFor proof.labeller start (wanted_of proof.claim))
    (refusals.start_missing Labeller) (refusals.start_number Labeller) fault

-- the fault of the start's number in the adversary's rows
abbrev pub IsWrongBound : {F : Type 0} → Refusals F → PlainBoard → PlainProof → F → Type 0
IsWrongBound refusals board proof fault =
    let start : List ℕ = refusals.positions.normal board.start in
    (number : ℕ) × (bound_of proof.claim ≡ Some number)
    × IsUnserved (HasRow (λ r. r.at) proof.adversary start)
    (IsListedBelow proof.adversary start (suc number))
    (refusals.start_missing Adversary) (refusals.start_number Adversary) fault

-- ---- the document

-- the start's numbers serve the claim
pub record StartServes (positions : Positions) (board : PlainBoard)
    (proof : PlainProof) : Type 0 where
  pub labeller : Serves proof.labeller (positions.normal board.start) (wanted_of proof.claim)
  pub adversary : StartIsBelow proof.adversary (positions.normal board.start) proof.claim

-- The fault is the first in the order of checking: the start's numbers, for the labeller and then
-- the adversary, then the labeller's rows, then the adversary's.
abbrev pub IsFirstFault : {F : Type 0} → Refusals F → PlainBoard → PlainProof → F → Type 0
IsFirstFault refusals board proof fault =
    let positions : Positions = refusals.positions in
    IsWrongStart refusals board proof fault
    ⊎ (Serves proof.labeller (positions.normal board.start) (wanted_of proof.claim)
    × IsWrongBound refusals board proof fault)
    ⊎ (StartServes positions board proof × LabellerBreach refusals board proof.labeller fault)
    ⊎ (StartServes positions board proof × LabellerObeys positions board proof.labeller
    × AdversaryBreach refusals board proof.adversary fault)
