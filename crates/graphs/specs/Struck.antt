-- The gap in which a configuration is an answer: that of the pebble whose label dominates all
-- others.
use Rattle.std.specs.Prelude.{ℕ, zero, suc, ◌==◌, ◌&&◌, ◌||◌, not, nat_lt, Bool, cond, List}
use Rattle.std.specs.Prelude.{slice_index}
use Rattle.std.specs.List.{list_any, list_all, remove}
use Rattle.board_text.specs.PlainBoard.{PlainBoard}

-- whether the label x dominates the label y
abbrev pub beats : PlainBoard → ℕ → ℕ → Bool
beats board x y = list_any (λ pair. pair.0 == x && pair.1 == y) board.pairs

-- whether the label dominates the label of a place, if that holds one
abbrev pub beats_place : PlainBoard → ℕ → ℕ → Bool
beats_place board label place = not (nat_lt place board.labels) || beats board label place

-- whether the pebble holds a label that dominates the labels of all other pebbles
abbrev pub is_dominator : PlainBoard → List ℕ → ℕ → Bool
is_dominator board configuration pebble =
    nat_lt (slice_index configuration pebble) board.labels
    && list_all (beats_place board (slice_index configuration pebble)) (remove configuration pebble)

-- the gap of a dominating pebble among the first `count`, or `none` if none of them dominates
abbrev pub struck_among : PlainBoard → List ℕ → (ℕ → ℕ) → ℕ → ℕ → ℕ
struck_among board configuration gap none zero = none
struck_among board configuration gap none (suc count) =
    cond (is_dominator board configuration count) (gap count)
    (struck_among board configuration gap none count)
