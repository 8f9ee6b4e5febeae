-- How many pebbles a domain carries for ever.
use Rattle.std.specs.Prelude.{◌≡◌, ℕ, suc, List, length}
use Rattle.board_text.specs.PlainBoard.{PlainBoard, ArePairs, plain_board}
use Rattle.positions.specs.Value.{HasValue}
use Rattle.positions.specs.declared.value.Value.TheVariants.{Forever}

-- the domain with this number of pebbles
abbrev pub with_pebbles : PlainBoard → ℕ → PlainBoard
with_pebbles board count = plain_board board.labels count board.start board.pairs

-- this number of pebbles lasts for ever from some configuration
abbrev pub Carries : PlainBoard → ℕ → Type 0
Carries board count =
    (configuration : List ℕ) × (length configuration ≡ count)
    × HasValue (with_pebbles board count) configuration Forever

-- this number of pebbles lasts for ever from some configuration, and one more from none
pub record CarriesExactly (board : PlainBoard) (count : ℕ) : Type 0 where
  pub carries : Carries board count
  pub no_more : Carries board (suc count) → ⊥

-- some domain of this number of labels, of which no two dominate each other, carries exactly this
-- number of pebbles
abbrev pub SomeCarries : ℕ → ℕ → Type 0
SomeCarries labels count =
    (board : PlainBoard) × (board.labels ≡ labels) × ArePairs board.labels board.pairs
    × CarriesExactly board count
