-- The pebble that a row asks by its place is one of the row's exactly if the place is.
use Rattle.std.proofs.Common.{◌≡◌, ℕ, ◌<◌, ◌==◌, false, true≢false, length, get_or, sym, ◌∙◌, arith, inl, inr}
use Rattle.std.proofs.Common.{eq-eqb, eqb-true}
use Rattle.std.specs.List.{Contains}
use Rattle.std.proofs.lemmas.Bool.{cases_lt}
use Rattle.std.proofs.lemmas.List.{get_or_default}
use Rattle.std.proofs.lemmas.List.Sums.{fails_before_first, passes_at_first}
use Rattle.positions.specs.Table.{RequestRow}
use Rattle.proof_text.specs.Positions.{asked_pebble}

pub asked_below : (row : RequestRow) → Contains row.at row.request → asked_pebble row < length row.at
asked_below row (index, inside, is) = elim (cases_lt index (asked_pebble row)) [
  | inl before ↦
      let fails : (get_or row.at index row.request == row.request) ≡ false =
      fails_before_first (λ place. place == row.request) row.at index row.request before in
      absurd (true≢false (sym (eq-eqb (get_or row.at index row.request) row.request is) ∙ fails))
  | inr behind ↦ omega (arith, inside, behind)
]

-- the pebble is on the place that is asked
pub asked_place : (row : RequestRow) → asked_pebble row < length row.at
    → get_or row.at (asked_pebble row) 0 ≡ row.request
asked_place row low =
    eqb-true (get_or row.at (asked_pebble row) 0) row.request
    (passes_at_first (λ place. place == row.request) row.at 0 low)

pub asked_is : (row : RequestRow) → asked_pebble row < length row.at → Contains row.at row.request
asked_is row low =
    let first : ℕ = asked_pebble row in
    (first, low, get_or_default row.at first row.request 0 low ∙ asked_place row low)
