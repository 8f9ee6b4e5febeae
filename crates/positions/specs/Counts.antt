-- Facts about numbers: the count and the smallest of the numbers that they hold of.
use Rattle.std.specs.Prelude.{◌≡◌, ℕ, ◌<◌, ◌≤◌, ◌↔◌, List, length, Contains, AllPairs, Option, Some}
use Rattle.std.specs.Prelude.{None}

-- there are `size` numbers of which the fact holds
pub record HasSize (P : ℕ → Type 0) (size : ℕ) : Type 0 where
  pub members : List ℕ
  pub ascending : AllPairs (λ first second. first < second) members
  pub each : (number : ℕ) → Contains members number ↔ P number
  pub so_many : length members ≡ size

-- the smallest number of which the fact holds, or none if it holds of none
abbrev pub IsSmallest : (ℕ → Type 0) → Option ℕ → Type 0
IsSmallest P (Some number) = P number × ((other : ℕ) → P other → number ≤ other)
IsSmallest P None = (other : ℕ) → P other → ⊥
