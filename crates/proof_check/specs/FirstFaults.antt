-- The first rule that a document breaks, in the order of checking, for rows and faults of any kind.
use Rattle.std.specs.Prelude.{◌≡◌, ℕ, ◌<◌, ◌⊎◌, List, ◌∷◌, ◌++◌, Option, Some, None}
use Rattle.std.specs.List.{All, Contains}
use Rattle.positions.specs.declared.claim.Claim.{Claim}
use Rattle.positions.specs.declared.claim.Claim.TheVariants.{Exactly, AtLeast, AtMost, Forever}

-- a row is for the places
abbrev pub HasRow : {X : Type 0} → (X → List ℕ) → List X → List ℕ → Type 0
HasRow {X} at rows places = (row : X) × Contains rows row × (at row ≡ places)

-- no row: the fault `missing`; a row that doesn't serve: the fault `short`
abbrev pub IsUnserved : {F : Type 0} → Type 0 → Type 0 → F → F → F → Type 0
IsUnserved Listed Served missing short fault =
    (¬ Listed × (fault ≡ missing)) ⊎ (Listed × ¬ Served × (fault ≡ short))

-- the first row that isn't right stands here: those before are, and this one
pub record FirstWrong {X : Type 0} (IsRight : X → Type 0) (rows : List X) (row : X) : Type 0 where
  pub before : List X
  pub after : List X
  pub parts : rows ≡ before ++ row ∷ after
  pub right : All IsRight before

-- the first faulty row has the fault
pub record FirstFault {X F : Type 0} (IsRight : X → Type 0) (IsWrong : X → F → Type 0)
    (rows : List X) (fault : F) : Type 0 where
  pub row : X
  pub first : FirstWrong IsRight rows row
  pub wrong : IsWrong row fault

-- the first turn of a row that isn't met has the fault
pub record FirstTurn {F : Type 0} (IsTurn Meets : ℕ → Type 0) (IsWrong : ℕ → F → Type 0)
    (fault : F) : Type 0 where
  pub turn : ℕ
  pub is_turn : IsTurn turn
  pub before : (earlier : ℕ) → earlier < turn → Meets earlier
  pub wrong : IsWrong turn fault

-- the bound of the claim from above, if it has one
abbrev pub bound_of : Claim → Option ℕ
bound_of (Exactly number) = Some number
bound_of (AtLeast number) = None
bound_of (AtMost number) = Some number
bound_of Forever = None
