-- Numbers that lie in a range.
use Rattle.std.specs.Prelude.{◌≡◌, ℕ, ◌<◌, ◌≤◌, List, length, All}

-- from the lowest to the highest, both included
abbrev pub InRange : ℕ → ℕ → ℕ → Type 0
InRange low high n = (low ≤ n) × (n ≤ high)

-- `count` numbers, each below the bound
abbrev pub AreNumbers : ℕ → ℕ → List ℕ → Type 0
AreNumbers count bound ns = (length ns ≡ count) × All (λ n. n < bound) ns
