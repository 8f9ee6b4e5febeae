-- Domains in which each short list of labels is dominated.
use Rattle.std.specs.Prelude.{◌≡◌, ℕ, ◌<◌, List, length, All}
use Rattle.board_text.specs.PlainBoard.{PlainBoard, Dominates}

-- each list of `count` labels has a label that dominates them all
abbrev pub AreDominated : PlainBoard → ℕ → Type 0
AreDominated board count =
    (labels : List ℕ) → length labels ≡ count → All (λ label. label < board.labels) labels
    → (label : ℕ) × (label < board.labels) × All (λ other. Dominates board label other) labels

-- each pebble holds a label
abbrev pub IsHeld : PlainBoard → List ℕ → Type 0
IsHeld board configuration =
    (length configuration ≡ board.pebbles) × All (λ place. place < board.labels) configuration
