-- Definitions for this crate's own functions, beside `LineForms`.
use Rattle.std.specs.Prelude.{◌≡◌, ◌≢◌, ℕ, List, ◌++◌, Option, Some, None}
use Rattle.board_text.specs.Ranges.{AreNumbers}
use Rattle.board_text.specs.LineForms.{spaced_numbers, NoDigit}

-- The same for numbers, each with a space before it.
abbrev pub TakesNumbers : ℕ → ℕ → Option (List ℕ) → List ℕ → List ℕ → Type 0
TakesNumbers count bound None old new = (ns : List ℕ) (more : List ℕ) → AreNumbers count bound ns
    → NoDigit more → old ≢ spaced_numbers ns ++ more
TakesNumbers count bound (Some ns) old new =
    AreNumbers count bound ns × (old ≡ spaced_numbers ns ++ new) × NoDigit new
