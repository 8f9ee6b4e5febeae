-- The number of the row of each rank.
use Rattle.std.specs.Prelude.{◌≡◌, ◌≢◌, ℕ, ◌<◌, ◌≤◌, List, length, slice_index}
use Rattle.std.specs.List.{All, AllPairs, Contains}
use Rattle.positions.specs.declared.space.TheConstants.{MAX_CONFIGURATIONS}

-- rows of different ranks, in ascending order
abbrev pub AreAscending : {X : Type 0} → (X → ℕ) → List X → Type 0
AreAscending {X} rank rows = AllPairs (λ first second. rank first < rank second) rows

-- the same, with each rank below the size
pub record AreRanked {X : Type 0} (rank : X → ℕ) (size : ℕ) (rows : List X) : Type 0 where
  pub few : length rows ≤ MAX_CONFIGURATIONS
  pub each : All (λ row. rank row < size) rows
  pub ascending : AreAscending rank rows

-- the row has the rank, and is one of these
abbrev pub IsRowOf : {X : Type 0} → (X → ℕ) → List X → ℕ → X → Type 0
IsRowOf rank rows number row = Contains rows row × (rank row ≡ number)

-- a row of this rank has the count
abbrev pub IsCountOf : {X : Type 0} → (X → ℕ) → (X → ℕ) → List X → ℕ → ℕ → Type 0
IsCountOf {X} rank count rows number value =
    (row : X) × IsRowOf rank rows number row × (count row ≡ value)

-- at each rank is 0, or the count of its row
abbrev pub AreCounts : {X : Type 0} → (X → ℕ) → (X → ℕ) → List X → List ℕ → Type 0
AreCounts rank count rows counts = (number : ℕ) → number < length counts
    → 0 < slice_index counts number
    → IsCountOf rank count rows number (slice_index counts number)

-- rows of different ranks are found by searching, and their counts in a table, if there is one
pub record AreFound {X : Type 0} (rank count : X → ℕ) (rows : List X)
    (counts : List ℕ) : Type 0 where
  pub ascending : AreAscending rank rows
  pub counted : AreCounts rank count rows counts

-- no row has the rank
abbrev pub HasNone : {X : Type 0} → (X → ℕ) → List X → ℕ → Type 0
HasNone {X} rank rows number = (row : X) → Contains rows row → rank row ≢ number
