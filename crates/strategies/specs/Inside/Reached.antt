-- Sets of the numbers of positions that were reached.
use Rattle.std.specs.Prelude.{◌≡◌, ◌≢◌, ℕ, ◌<◌, ◌↔◌, ◌⊎◌, List, All, AllPairs, Contains, length}
use Rattle.strategies.specs.declared.unmade.Unmade.{Unmade}
use Rattle.strategies.specs.declared.unmade.Unmade.TheVariants.{Memory, TooLong}

-- the numbers that were reached, and those of them from which no step was taken yet
pub record ReachedBy : Type 1 where
  pub Among : ℕ → Type 0
  pub IsLeft : ℕ → Type 0

-- the numbers below the bound have room, and more than so many are too many; so many steps are at
-- most still to be taken
pub record Room : Type 0 where
  pub bound : ℕ
  pub most : ℕ
  pub steps : ℕ

-- a step was taken
pub record HasLessRoom (before after : Room) : Type 0 where
  pub bound : after.bound ≡ before.bound
  pub most : after.most ≡ before.most
  pub steps : after.steps < before.steps

-- nothing is reached
abbrev pub NothingIsReached : ReachedBy → Type 0
NothingIsReached set = (number : ℕ) → ¬ set.Among number × ¬ set.IsLeft number

-- no number is left
abbrev pub NoneIsLeft : ReachedBy → Type 0
NoneIsLeft set = (number : ℕ) → set.IsLeft number → ⊥

-- the number was left, and is left no more
pub record IsTakenFrom (before : ReachedBy) (number : ℕ) (after : ReachedBy) : Type 0 where
  pub was_left : before.IsLeft number
  pub same : (other : ℕ) → after.Among other ↔ before.Among other
  pub left : (other : ℕ) → after.IsLeft other ↔ (before.IsLeft other × (other ≢ number))

-- the numbers of which the fact holds are reached too, and those that weren't reached before are
-- left
pub record AreReachedWith (before : ReachedBy) (P : ℕ → Type 0) (after : ReachedBy) : Type 0 where
  pub each : (number : ℕ) → after.Among number ↔ (before.Among number ⊎ P number)
  pub kept : (number : ℕ) → before.IsLeft number → after.IsLeft number
  pub fresh : (number : ℕ) → after.Among number → before.Among number ⊎ after.IsLeft number
  pub only : (number : ℕ) → after.IsLeft number
      → before.IsLeft number ⊎ ((¬ before.Among number) × after.Among number)

-- more numbers were reached than so many, or out of memory
abbrev pub HasTooMany : ReachedBy → ℕ → Unmade → Type 0
HasTooMany set most TooLong = (numbers : List ℕ)
    × AllPairs (λ first second. first ≢ second) numbers
    × All set.Among numbers × (most < length numbers)
HasTooMany set most Memory = Unit {0}

-- exactly the numbers of which the fact holds, in ascending order
pub record AreInOrder (P : ℕ → Type 0) (ordered : List ℕ) : Type 0 where
  pub each : (number : ℕ) → Contains ordered number ↔ P number
  pub ascending : AllPairs (λ first second. first < second) ordered
