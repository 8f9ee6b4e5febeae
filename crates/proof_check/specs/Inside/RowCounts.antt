-- The counts of rows, by which they are compared.
use Rattle.std.specs.Prelude.{ℕ, ◌+◌, ◌-◌, min}
use Rattle.positions.specs.declared.turns.Turns.{Turns}
use Rattle.positions.specs.declared.turns.Turns.TheVariants.{Count, Always}
use Rattle.proof_check.specs.declared.gap_bounds.TheConstants.{NO_BOUND}
use Rattle.proof_check.specs.declared.turns.TheConstants.{ENDLESS}

-- a count that is greater for more turns, and the greatest for turns without end alone
abbrev pub count_of_turns : Turns → ℕ
count_of_turns (Count turns) = min turns (ENDLESS - 1)
count_of_turns Always = ENDLESS

-- the bound above a number, if there is one
abbrev pub count_of_left : ℕ → ℕ
count_of_left left = min (left + 1) NO_BOUND
