-- The answers of the steps of a round, in the order of the steps.
use Rattle.std.specs.Prelude.{◌≡◌, ℕ, List, map, slice_get, Option, Some}
use Rattle.retro_core.specs.declared.step.Step.{Step}
use Rattle.retro_core.specs.declared.step.Seen.{Seen}
use Rattle.retro_core.specs.declared.step.Seen.TheVariants as seen

-- the answer of the step at a place of a list of steps, counted from 0
abbrev pub answer_in_history : List (Step × Seen) → ℕ → Option Seen
answer_in_history steps index = slice_get (map (λ made. made.1) steps) index

-- the step at the place is a strike that closed the gap, and answered so
abbrev pub IsClosedAt : List (Step × Seen) → ℕ → ℕ → Type 0
IsClosedAt steps gap index =
    (config : ℕ) × (answer_in_history steps index ≡ Some (seen.Struck config (Some gap)))
