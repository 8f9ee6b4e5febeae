-- Marks, a bit each.
use Rattle.std.specs.Prelude.{◌≡◌, ◌<◌, ◌≤◌, ◌↔◌, ℕ, List, Bool, true, false, map, AllPairs}
use Rattle.std.specs.Prelude.{Contains, slice_index_or}
use Rattle.std.specs.List.{range_with_len}
use Rattle.board_text.specs.Domination.{has_bit}

-- whether the bit of each number below the size is set
abbrev pub marks_of : ℕ → List ℕ → List Bool
marks_of size words = map (has_bit words) (range_with_len 0 size)

-- the number is marked
abbrev pub IsMarked : List Bool → ℕ → Type 0
IsMarked marks number = slice_index_or marks number false ≡ true

-- exactly the numbers of which the fact holds, from the first to before the end, in ascending order
pub record AreListed (P : ℕ → Type 0) (first end : ℕ) (numbers : List ℕ) : Type 0 where
  pub each : (number : ℕ) → Contains numbers number
      ↔ (P number × (first ≤ number) × (number < end))
  pub ascending : AllPairs (λ one other. one < other) numbers
