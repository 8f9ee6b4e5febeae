-- Strategies as tables whose rows stand for configurations, and the plays that they answer: after
-- each answer a play is at the places of the row that stands for the result.
use Rattle.std.specs.Prelude.{◌≡◌, ℕ, ◌<◌, ◌≤◌, nat_eq, List, [], ◌∷◌, length, Some}
use Rattle.std.specs.List.{find, All}
use Rattle.board_text.specs.PlainBoard.{PlainBoard}
use Rattle.positions.specs.declared.claim.Claim.{Claim}
use Rattle.positions.specs.declared.claim.Claim.TheVariants as claims
use Rattle.positions.specs.Game.{Legal, moved}
use Rattle.positions.specs.Table.{AnswerRow, RequestRow, AnswersLegally, IsListed}
use Rattle.proof_text.specs.Positions.{Positions}
use lib.Pointwise.{pointwise}

-- each request of the list, in turn, gets a legal answer
abbrev pub AnswersAllOver : Positions → PlainBoard → List AnswerRow → List ℕ → List ℕ → Type 0
AnswersAllOver positions board table places [] = Unit {0}
AnswersAllOver positions board table places (pebble ∷ requests) =
    (label : ℕ) × AnswersLegally board table places pebble label
    × AnswersAllOver positions board table (positions.normal (moved places pebble label)) requests

-- each list of at most `most` requests gets legal answers
abbrev pub AnswersOver : Positions → PlainBoard → List AnswerRow → ℕ → List ℕ → Type 0
AnswersOver positions board table most places =
    (requests : List ℕ) → length requests ≤ most → All (λ pebble. pebble < board.pebbles) requests
    → AnswersAllOver positions board table places requests

-- each request at listed places gets a legal answer, whose result has a row
abbrev pub IsClosedOver : Positions → PlainBoard → List AnswerRow → Type 0
IsClosedOver positions board table =
    (places : List ℕ) → IsListed table places → (pebble : ℕ) → pebble < board.pebbles
    → (label : ℕ) × AnswersLegally board table places pebble label
    × IsListed table (positions.normal (moved places pebble label))

-- the row for the places asks this pebble
pub record RequestsOver (positions : Positions) (board : PlainBoard) (table : List RequestRow)
    (places : List ℕ)
    (pebble : ℕ) : Type 0 where
  pub row : RequestRow
  pub is_row : find (λ row. pointwise nat_eq row.at places) table ≡ Some row
  pub asks : positions.asked row ≡ pebble
  pub is_pebble : pebble < board.pebbles

-- these labels, each a legal answer to the table's request in turn, lead from some places to others
abbrev pub PlaysOver : Positions → PlainBoard → List RequestRow → List ℕ → List ℕ → List ℕ → Type 0
PlaysOver positions board table from [] to = from ≡ to
PlaysOver positions board table from (label ∷ labels) to =
    (pebble : ℕ) × RequestsOver positions board table from pebble × Legal board from pebble label
    × PlaysOver positions board table (positions.normal (moved from pebble label)) labels to

-- the table requests a pebble wherever a play leads, and a play has at most `most` answers
abbrev pub StopsOver : Positions → PlainBoard → List RequestRow → ℕ → List ℕ → Type 0
StopsOver positions board table most from =
    (labels : List ℕ) → (to : List ℕ) → PlaysOver positions board table from labels to
    → ((pebble : ℕ) × RequestsOver positions board table to pebble) × (length labels ≤ most)

-- the tables show the claim: the labeller's that a number of requests is answered, the adversary's
-- that no more are
abbrev pub ShowsOver : Positions → PlainBoard → List AnswerRow → List RequestRow → Claim → Type 0
ShowsOver positions board labeller adversary (claims.Exactly number) =
    AnswersOver positions board labeller number (positions.normal board.start)
    × StopsOver positions board adversary number (positions.normal board.start)
ShowsOver positions board labeller adversary (claims.AtLeast number) =
    AnswersOver positions board labeller number (positions.normal board.start)
ShowsOver positions board labeller adversary (claims.AtMost number) =
    StopsOver positions board adversary number (positions.normal board.start)
ShowsOver positions board labeller adversary claims.Forever =
    IsClosedOver positions board labeller × IsListed labeller (positions.normal board.start)
