-- Walks over the labels for which a fact holds.
use Rattle.std.proofs.Common.{◌≡◌, ℕ, ◌<◌, ◌≤◌, ◌↔◌, true, List, Some, None, ap, arith}
use Rattle.board_text.specs.Domination.{has_bit}
use Rattle.board_text.specs.declared.board.TheConstants.{MAX_LABELS}
use Rattle.positions.specs.Counts.{IsSmallest}
use Rattle.positions.specs.LabelWalk.{Walk, TakesSmallest}

-- the walk's labels are those from its bound on for which the fact holds
abbrev pub AreFrom : (ℕ → Type 0) → Walk → Type 0
AreFrom P walk = (label : ℕ) → label < MAX_LABELS → (has_bit walk.left label ≡ true) ↔ ((walk.from ≤ label) × P label)

pub walk_begins : (P : ℕ → Type 0) (words : List ℕ) (walk : Walk) → walk ≡ record { left = words; from = 0 }
    → ((label : ℕ) → label < MAX_LABELS → (has_bit words label ≡ true) ↔ P label) → AreFrom P walk
walk_begins P words walk begins bits =
    rw begins (λ label small. (λ set. (omega arith, (bits label small).0 set), λ is. (bits label small).1 is.1))

pub from_zero : (words : List ℕ) (walk : Walk) → walk ≡ record { left = words; from = 0 } → walk.from ≡ 0
from_zero words walk begins = ap (λ (w : Walk). w.from) begins

module _ (P : ℕ → Type 0) (few : (label : ℕ) → P label → label < MAX_LABELS) (walk : Walk) (are : AreFrom P walk) where
  -- a step comes to the next label for which the fact holds
  pub next_of : (after : Walk) (label : ℕ) → TakesSmallest walk after label
      → IsSmallest (λ l. (walk.from ≤ l) × P l) (Some label)
  next_of after label step = (
    (are label step.smallest.0.0).0 step.smallest.0.1,
    λ other is. step.smallest.1 other (few other is.1, (are other (few other is.1)).1 is),
  )

  pub after_step : (after : Walk) (label : ℕ) → TakesSmallest walk after label → AreFrom P after
  after_step after label step other small =
      let from : walk.from ≤ label = ((are label step.smallest.0.0).0 step.smallest.0.1).0 in (
        λ set. let both = (step.left other small).0 set in let later : label < other = both.1 in
            (omega (arith, step.from, later), ((are other small).0 both.0).1),
        λ is. let later : after.from ≤ other = is.0 in
            (step.left other small).1 (
              (are other small).1 (omega (arith, from, step.from, later), is.1),
              omega (arith, step.from, later),
            ),
      )

  pub none_left : ((label : ℕ) → label < MAX_LABELS → has_bit walk.left label ≡ true → ⊥)
      → IsSmallest (λ l. (walk.from ≤ l) × P l) None
  none_left none other is = none other (few other is.1) ((are other (few other is.1)).1 is)
