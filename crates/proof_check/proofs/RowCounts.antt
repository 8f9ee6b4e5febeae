-- What the counts of rows show.
use Rattle.std.proofs.Common.{◌≡◌, ℕ, ◌+◌, ◌-◌, ◌<◌, ◌≤◌, min, arith, inl, inr}
use Rattle.std.proofs.Math.Nat.{min-eq_left, min-eq_right, min-le_left, min-le_right}
use Rattle.std.proofs.lemmas.Bool.{cases_lt}
use Rattle.positions.specs.declared.turns.Turns.{Turns}
use Rattle.positions.specs.declared.turns.Turns.TheVariants.{Count, Always}
use Rattle.proof_text.specs.Rules.{IsEnough}
use Rattle.proof_check.specs.Inside.RowCounts.{count_of_left, count_of_turns}
use Rattle.proof_check.specs.declared.gap_bounds.TheConstants.{NO_BOUND}
use Rattle.proof_check.specs.declared.turns.TheConstants.{ENDLESS}

-- turns with no smaller a count are enough
pub enough_by_count : (wanted : ℕ) (turns : Turns) → wanted ≤ count_of_turns turns → IsEnough (Count wanted) turns
enough_by_count wanted (Count turns) most =
    let low : min turns (ENDLESS - 1) ≤ turns = min-le_left turns (ENDLESS - 1) in
    omega (arith, most, low)
enough_by_count wanted Always most = tt

pub always_by_count : (turns : Turns) → ENDLESS ≤ count_of_turns turns → IsEnough Always turns
always_by_count (Count turns) most =
    let low : min turns (ENDLESS - 1) ≤ ENDLESS - 1 = min-le_right turns (ENDLESS - 1) in
    absurd (omega (arith, most, low))
always_by_count Always most = tt

-- a number is below a bound that is no less than its count
pub below_count : (left count bound : ℕ) → count_of_left left ≡ count → count ≤ bound → bound < NO_BOUND → left < bound
below_count left count bound is most small = elim (cases_lt left NO_BOUND) [
  | inl less ↦
      let next : count_of_left left ≡ left + 1 = min-eq_left (omega (arith, less)) in
      omega (arith, next, is, most)
  | inr high ↦
      let greatest : count_of_left left ≡ NO_BOUND = min-eq_right (omega (arith, high)) in
      absurd (omega (arith, greatest, is, most, small))
]
