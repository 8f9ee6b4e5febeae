-- The row that is found for some places, and the faults of its number.
use Rattle.std.specs.Prelude.{◌≡◌, ℕ, List}
use Rattle.std.specs.List.{Contains}
use Rattle.positions.specs.Table.{AnswerRow, RequestRow}
use Rattle.positions.specs.declared.turns.Turns.{Turns}
use Rattle.proof_text.specs.Rules.{IsListedFor, IsListedBelow, IsWanted}
use Rattle.proof_check.specs.FirstFaults.{HasRow, IsUnserved}

-- the row is the only one for the places
pub record IsRowFor {X : Type 0} (at : X → List ℕ) (rows : List X) (places : List ℕ)
    (row : X) : Type 0 where
  pub among : Contains rows row
  pub at_is : at row ≡ places
  pub only : (other : X) → Contains rows other → at other ≡ places → other ≡ row

-- some turns are wanted, and the labeller's rows don't serve them
abbrev pub IsUnservedFor : {F : Type 0} → List AnswerRow → List ℕ → Turns → F → F → F → Type 0
IsUnservedFor rows places wanted missing short fault =
    IsWanted wanted × IsUnserved (HasRow (λ row. row.at) rows places)
    (IsListedFor rows places wanted) missing short fault

-- the adversary's rows don't list the places with a number below the bound
abbrev pub IsUnservedBelow : {F : Type 0} → List RequestRow → List ℕ → ℕ → F → F → F → Type 0
IsUnservedBelow rows places bound missing large fault =
    IsUnserved (HasRow (λ row. row.at) rows places)
    (IsListedBelow rows places bound) missing large fault
