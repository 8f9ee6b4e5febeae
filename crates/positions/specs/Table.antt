-- Strategies as tables, and the plays that they answer.
-- No definition here reads the numbers of rows.
use Rattle.std.specs.Prelude.{◌≡◌, ℕ, ◌<◌, ◌≤◌, nat_eq, List, [], ◌∷◌, length, Option, Some, IsSome}
use Rattle.std.specs.Prelude.{slice_get}
use Rattle.std.specs.List.{find, All}
use Rattle.std.specs.Option.{option_and_then, option_map}
use Rattle.board_text.specs.PlainBoard.{PlainBoard}
use Rattle.positions.specs.declared.turns.Turns.{Turns}
use Rattle.positions.specs.Game.{Legal, moved}
use lib.Pointwise.{pointwise}

-- a labeller's row: a configuration, the number of turns that
-- it is listed for, and an answer for each pebble
pub record AnswerRow : Type 0 where
  pub at : List ℕ
  pub turns : Turns
  pub answers : List ℕ

-- an adversary's row: a configuration, an upper bound on the answers that are left, and the pebble
-- that is requested there
pub record RequestRow : Type 0 where
  pub at : List ℕ
  pub left : ℕ
  pub request : ℕ

-- the table's answer to a request at a configuration, if that is listed
abbrev pub answer_at : List AnswerRow → List ℕ → ℕ → Option ℕ
answer_at table configuration pebble =
    option_and_then (λ row. slice_get row.answers pebble)
    (find (λ row. pointwise nat_eq row.at configuration) table)

-- the pebble that the table requests at a configuration, if that is listed
abbrev pub request_at : List RequestRow → List ℕ → Option ℕ
request_at table configuration =
    option_map (λ row. row.request) (find (λ row. pointwise nat_eq row.at configuration) table)

-- the table gives the request at the configuration this answer, and it is legal
pub record AnswersLegally (board : PlainBoard) (table : List AnswerRow) (configuration : List ℕ)
    (pebble label : ℕ) : Type 0 where
  pub answer : answer_at table configuration pebble ≡ Some label
  pub legal : Legal board configuration pebble label

-- each request of the list, in turn, gets a legal answer
abbrev pub AnswersAll : PlainBoard → List AnswerRow → List ℕ → List ℕ → Type 0
AnswersAll board table configuration [] = Unit {0}
AnswersAll board table configuration (pebble ∷ requests) =
    (label : ℕ) × AnswersLegally board table configuration pebble label
    × AnswersAll board table (moved configuration pebble label) requests

-- each list of at most `most` requests gets legal answers
abbrev pub Answers : PlainBoard → List AnswerRow → ℕ → List ℕ → Type 0
Answers board table most configuration =
    (requests : List ℕ) → length requests ≤ most → All (λ pebble. pebble < board.pebbles) requests
    → AnswersAll board table configuration requests

-- the table has a row for the configuration
abbrev pub IsListed : List AnswerRow → List ℕ → Type 0
IsListed table configuration = IsSome (find (λ row. pointwise nat_eq row.at configuration) table)

-- each request at a listed configuration gets a legal answer, which leads to a listed one
abbrev pub IsClosed : PlainBoard → List AnswerRow → Type 0
IsClosed board table =
    (configuration : List ℕ) → IsListed table configuration → (pebble : ℕ) → pebble < board.pebbles
    → (label : ℕ) × AnswersLegally board table configuration pebble label
    × IsListed table (moved configuration pebble label)

-- the table requests this pebble at the configuration
pub record Requests (board : PlainBoard) (table : List RequestRow) (configuration : List ℕ)
    (pebble : ℕ) : Type 0 where
  pub request : request_at table configuration ≡ Some pebble
  pub is_pebble : pebble < board.pebbles

-- these labels, each a legal answer to the table's request in turn,
-- lead from one configuration to another
abbrev pub Leads : PlainBoard → List RequestRow → List ℕ → List ℕ → List ℕ → Type 0
Leads board table from [] to = from ≡ to
Leads board table from (label ∷ labels) to =
    (pebble : ℕ) × Requests board table from pebble × Legal board from pebble label
    × Leads board table (moved from pebble label) labels to

-- the table requests a pebble wherever a play leads, and a play has at most `most` answers
abbrev pub StopsAfter : PlainBoard → List RequestRow → ℕ → List ℕ → Type 0
StopsAfter board table most from =
    (labels : List ℕ) → (to : List ℕ) → Leads board table from labels to
    → ((pebble : ℕ) × Requests board table to pebble) × (length labels ≤ most)
