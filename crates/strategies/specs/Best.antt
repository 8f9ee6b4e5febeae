-- Best answers and best requests, by the values of configurations.
use Rattle.std.specs.Prelude.{◌≡◌, ℕ, ◌<◌, ◌↔◌, List, Option, Some, None}
use Rattle.board_text.specs.PlainBoard.{PlainBoard}
use Rattle.positions.specs.declared.value.Value.{Value}
use Rattle.positions.specs.declared.value.Value.TheVariants.{Finite, Forever}
use Rattle.positions.specs.Game.{Legal, moved}
use Rattle.positions.specs.Value.{HasValue}
use Rattle.positions.specs.Counts.{IsSmallest}
use Rattle.gap_values.specs.declared.value_table.Best.{Best}

-- the first value is smaller than the second; forever is greater than all numbers
abbrev pub IsLess : Value → Value → Type 0
IsLess (Finite first) (Finite second) = first < second
IsLess (Finite first) Forever = Unit {0}
IsLess Forever second = ⊥

-- the first configuration's value is smaller than the second's
pub record HasSmallerValue (board : PlainBoard) (first second : List ℕ) : Type 0 where
  pub smaller : Value
  pub greater : Value
  pub of_first : HasValue board first smaller
  pub of_second : HasValue board second greater
  pub less : IsLess smaller greater

-- the first configuration's value is not greater than the second's
pub record HasNoGreaterValue (board : PlainBoard) (first second : List ℕ) : Type 0 where
  pub value : Value
  pub bound : Value
  pub of_first : HasValue board first value
  pub of_second : HasValue board second bound
  pub not_greater : ¬ IsLess bound value

-- the label is legal for the pebble, and no legal label has a result of a greater value
pub record HasGreatestResult (board : PlainBoard) (configuration : List ℕ)
    (pebble label : ℕ) : Type 0 where
  pub legal : Legal board configuration pebble label
  pub greatest : (other : ℕ) → Legal board configuration pebble other
      → HasNoGreaterValue board (moved configuration pebble other)
      (moved configuration pebble label)

-- the smallest legal label whose result has the greatest value
abbrev pub IsBestAnswer : PlainBoard → List ℕ → ℕ → ℕ → Type 0
IsBestAnswer board configuration pebble label =
    IsSmallest (HasGreatestResult board configuration pebble) (Some label)

-- the best answer to a request of the pebble; there is none exactly if no label is legal
pub record IsBestAnswerIfAny (board : PlainBoard) (configuration : List ℕ) (pebble : ℕ)
    (answer : Option ℕ) : Type 0 where
  pub best : IsSmallest (HasGreatestResult board configuration pebble) answer
  pub none : (answer ≡ None) ↔ ((label : ℕ) → Legal board configuration pebble label → ⊥)

-- the best answer to a request of the pebble, with the value of its result; none if no label is
-- legal
abbrev pub IsBestFor : PlainBoard → List ℕ → ℕ → Option Best → Type 0
IsBestFor board configuration pebble (Some best) =
    IsBestAnswer board configuration pebble best.label
    × HasValue board (moved configuration pebble best.label) best.value
IsBestFor board configuration pebble None =
    (label : ℕ) → Legal board configuration pebble label → ⊥

-- all legal results of a request of the pebble have a smaller value than the configuration
pub record LowersValue (board : PlainBoard) (configuration : List ℕ) (pebble : ℕ) : Type 0 where
  pub is_pebble : pebble < board.pebbles
  pub lowers : (label : ℕ) → Legal board configuration pebble label
      → HasSmallerValue board (moved configuration pebble label) configuration

-- the smallest pebble all of whose legal results have a smaller value
abbrev pub IsBestRequest : PlainBoard → List ℕ → ℕ → Type 0
IsBestRequest board configuration pebble =
    IsSmallest (LowersValue board configuration) (Some pebble)

-- the best request; there is none exactly if the value is forever
pub record IsBestRequestIfAny (board : PlainBoard) (configuration : List ℕ) (request : Option ℕ)
    : Type 0 where
  pub best : IsSmallest (LowersValue board configuration) request
  pub none : (request ≡ None) ↔ HasValue board configuration Forever
