-- The first control character of a text.
use Rattle.std.specs.Prelude.{◌≡◌, ℕ, zero, suc, ◌+◌, ◌≤◌, List, ◌∷◌, length, drop, slice_index}
use Rattle.console.specs.Showing.{shown}

-- the number of bytes of the control character at the index, or 0 if none begins there
abbrev pub IsWidth : List ℕ → ℕ → ℕ → Type 0
IsWidth bytes at zero = shown (drop at bytes) ≡ slice_index bytes at ∷ shown (drop (at + 1) bytes)
IsWidth bytes at (suc more) = (at + suc more ≤ length bytes)
    × (shown (drop at bytes) ≡ 63 ∷ shown (drop (at + suc more) bytes))
