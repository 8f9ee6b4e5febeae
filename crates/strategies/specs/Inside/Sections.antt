-- The labels of rows, and why a section isn't made.
use Rattle.std.specs.Prelude.{◌≡◌, ◌≢◌, ℕ, ◌<◌, ◌≤◌, List, All, AllPairs, length, slice_index}
use Rattle.board_text.specs.PlainBoard.{PlainBoard}
use Rattle.board_text.specs.declared.board.TheConstants.{MAX_PEBBLES}
use Rattle.strategies.specs.Best.{IsBestAnswer}
use Rattle.strategies.specs.Inside.Numbering.{Numbering}
use Rattle.strategies.specs.Inside.Side.{Side, MayStandAt}
use Rattle.strategies.specs.declared.unmade.Unmade.{Unmade}
use Rattle.strategies.specs.declared.unmade.Unmade.TheVariants.{Memory, TooLong}

-- the labels of the best answers are in the places of their pebbles, and all others are 0
pub record AreTaken (board : PlainBoard) (held labels : List ℕ) : Type 0 where
  pub room : length labels ≡ MAX_PEBBLES
  pub best : (pebble : ℕ) → pebble < board.pebbles
      → IsBestAnswer board held pebble (slice_index labels pebble)
  pub rest : (pebble : ℕ) → board.pebbles ≤ pebble → slice_index labels pebble ≡ 0

-- more places than so many, at which a row of the side may stand
abbrev pub AreMoreReached : {R : Type 0} → Numbering → Side R → ℕ → Type 0
AreMoreReached numbering side most = (numbers : List ℕ)
    × AllPairs (λ first second. first ≢ second) numbers
    × All (MayStandAt numbering side) numbers × (most < length numbers)

-- why a section of at most so many rows isn't made: it has more, or out of memory
abbrev pub HasNoSection : {R : Type 0} → Numbering → Side R → ℕ → Unmade → Type 0
HasNoSection numbering side most TooLong = AreMoreReached numbering side most
HasNoSection numbering side most Memory = Unit {0}
