-- The moves that documents follow: best answers, and legal answers to best requests.
use Rattle.std.specs.Prelude.{◌≡◌, ℕ, ◌<◌, List, [], ◌∷◌}
use Rattle.board_text.specs.PlainBoard.{PlainBoard}
use Rattle.positions.specs.declared.value.Value.{Value}
use Rattle.positions.specs.declared.value.Value.TheVariants.{Finite}
use Rattle.positions.specs.Game.{Legal, moved}
use Rattle.positions.specs.Value.{HasValue}
use Rattle.proof_text.specs.Positions.{Positions}
use Rattle.strategies.specs.Best.{IsLess, IsBestAnswer, IsBestRequest}

-- the configuration's value is 1 or more
pub record IsAnswerable (board : PlainBoard) (configuration : List ℕ) : Type 0 where
  pub value : Value
  pub has_value : HasValue board configuration value
  pub some : IsLess (Finite 0) value

-- the pebble is asked at a value of 1 or more, and the label is the best answer
pub record IsAnswerMove (board : PlainBoard) (configuration : List ℕ)
    (pebble label : ℕ) : Type 0 where
  pub is_pebble : pebble < board.pebbles
  pub answerable : IsAnswerable board configuration
  pub best : IsBestAnswer board configuration pebble label

-- the pebble is the best request, and the label is a legal answer
pub record IsRequestMove (board : PlainBoard) (configuration : List ℕ)
    (pebble label : ℕ) : Type 0 where
  pub best : IsBestRequest board configuration pebble
  pub legal : Legal board configuration pebble label

-- these moves of pebbles to labels, each of the kind, lead from one configuration to another, where
-- the normal places are taken after each move
abbrev pub LeadsOver : Positions → (List ℕ → ℕ → ℕ → Type 0) → List ℕ → List (ℕ × ℕ) → List ℕ
    → Type 0
LeadsOver positions IsMove from [] to = from ≡ to
LeadsOver positions IsMove from ((pebble, label) ∷ moves) to =
    IsMove from pebble label
    × LeadsOver positions IsMove (positions.normal (moved from pebble label)) moves to
