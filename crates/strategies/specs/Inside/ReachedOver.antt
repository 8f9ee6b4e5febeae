-- Steps from places to the normal places of others, and those that are reached from the start's, by
-- numbers of places.
use Rattle.std.specs.Prelude.{◌≡◌, ℕ, ◌<◌, List}
use Rattle.board_text.specs.PlainBoard.{PlainBoard}
use Rattle.positions.specs.Game.{Legal, moved}
use Rattle.proof_text.specs.Positions.{Positions}
use Rattle.strategies.specs.Best.{IsBestAnswer, IsBestRequest}
use Rattle.strategies.specs.DocumentMoves.{IsAnswerable, IsAnswerMove, IsRequestMove, LeadsOver}
use Rattle.strategies.specs.Inside.Numbering.{Numbering}

-- the number of the normal places of a configuration
abbrev pub number_over : Positions → Numbering → List ℕ → ℕ
number_over positions numbering configuration =
    numbering.number (positions.normal configuration)

-- the best answer to a request of the pebble leads from the configuration to the normal places of
-- this number, which have a value of 1 or more
pub record IsAnswerStepOver (positions : Positions) (numbering : Numbering) (board : PlainBoard)
    (from : List ℕ) (pebble to : ℕ) : Type 0 where
  pub is_pebble : pebble < board.pebbles
  pub label : ℕ
  pub best : IsBestAnswer board from pebble label
  pub to_is : to ≡ number_over positions numbering (moved from pebble label)
  pub some : IsAnswerable board (positions.normal (moved from pebble label))

-- the best answer to some request leads from the places of one number to those of the other
abbrev pub AnswerLeadsOver : Positions → Numbering → PlainBoard → ℕ → ℕ → Type 0
AnswerLeadsOver positions numbering board from to = (pebble : ℕ)
    × IsAnswerStepOver positions numbering board (numbering.places from) pebble to

-- the label is a legal answer to the best request, and leads from the configuration to the normal
-- places of this number
pub record IsRequestStepOver (positions : Positions) (numbering : Numbering) (board : PlainBoard)
    (from : List ℕ) (label to : ℕ) : Type 0 where
  pub pebble : ℕ
  pub best : IsBestRequest board from pebble
  pub legal : Legal board from pebble label
  pub to_is : to ≡ number_over positions numbering (moved from pebble label)

-- some legal answer to the best request leads from the places of one number to those of the other
abbrev pub RequestLeadsOver : Positions → Numbering → PlainBoard → ℕ → ℕ → Type 0
RequestLeadsOver positions numbering board from to = (label : ℕ)
    × IsRequestStepOver positions numbering board (numbering.places from) label to

-- the label is a legal answer to a request of the pebble, and leads from the configuration to the
-- normal places of this number
pub record IsLegalStepOver (positions : Positions) (numbering : Numbering) (board : PlainBoard)
    (from : List ℕ) (pebble label to : ℕ) : Type 0 where
  pub legal : Legal board from pebble label
  pub to_is : to ≡ number_over positions numbering (moved from pebble label)

-- some legal answer to a request of the pebble does
abbrev pub LegalLeadsOver : Positions → Numbering → PlainBoard → List ℕ → ℕ → ℕ → Type 0
LegalLeadsOver positions numbering board from pebble to = (label : ℕ)
    × IsLegalStepOver positions numbering board from pebble label to

-- moves of the kind lead from the start's normal places to those of the number, which have the
-- property
pub record IsReachedOver (positions : Positions) (numbering : Numbering) (board : PlainBoard)
    (IsMove : List ℕ → ℕ → ℕ → Type 0) (Holds : List ℕ → Type 0) (number : ℕ) : Type 0 where
  pub moves : List (ℕ × ℕ)
  pub reached : LeadsOver positions IsMove (positions.normal board.start) moves
      (numbering.places number)
  pub holds : Holds (numbering.places number)

-- best answers lead to the places of the number, which have a value of 1 or more
abbrev pub IsReachedByAnswersOver : Positions → Numbering → PlainBoard → ℕ → Type 0
IsReachedByAnswersOver positions numbering board =
    IsReachedOver positions numbering board (IsAnswerMove board) (IsAnswerable board)

-- legal answers to best requests lead to the places of the number
abbrev pub IsReachedByRequestsOver : Positions → Numbering → PlainBoard → ℕ → Type 0
IsReachedByRequestsOver positions numbering board =
    IsReachedOver positions numbering board (IsRequestMove board) (λ configuration. Unit {0})
