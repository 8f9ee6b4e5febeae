-- Values of configurations, also of two boards, side by side.
use Rattle.std.specs.Prelude.{ℕ, ◌↔◌, List}
use Rattle.board_text.specs.PlainBoard.{PlainBoard}
use Rattle.positions.specs.declared.value.Value.{Value}
use Rattle.positions.specs.Value.{HasValue}
use Rattle.strategies.specs.Best.{IsLess}

-- the value is not greater than the bound; forever is greater than all numbers
abbrev pub IsAtMost : Value → Value → Type 0
IsAtMost value bound = ¬ IsLess bound value

-- the first board's configuration has no greater value than the second's
abbrev pub IsWorthAtMost : PlainBoard → List ℕ → PlainBoard → List ℕ → Type 0
IsWorthAtMost first configuration second other =
    (value bound : Value) → HasValue first configuration value → HasValue second other bound
    → IsAtMost value bound

-- the two configurations have the same value
abbrev pub AreWorthTheSame : PlainBoard → List ℕ → PlainBoard → List ℕ → Type 0
AreWorthTheSame first configuration second other =
    (value : Value) → HasValue first configuration value ↔ HasValue second other value
