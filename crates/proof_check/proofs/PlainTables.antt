-- Tables by configurations show what they show over positions.
use Rattle.std.proofs.Common.{◌≡◌, ℕ, nat_eq, List, [], ◌∷◌, Option, Some, None, ap, ◌∙◌}
use Rattle.std.specs.List.{find}
use Rattle.std.specs.Option.{option_map}
use Rattle.board_text.specs.PlainBoard.{PlainBoard}
use Rattle.positions.specs.declared.claim.Claim.{Claim}
use Rattle.positions.specs.declared.claim.Claim.TheVariants.{Exactly, AtLeast, AtMost, Forever}
use Rattle.positions.specs.Claim.{Shows}
use Rattle.positions.specs.Game.{moved}
use Rattle.positions.specs.Table.{AnswerRow, RequestRow, Answers, AnswersAll, Leads, Requests, StopsAfter}
use Rattle.proof_text.specs.Positions.{configuration_positions}
use Rattle.proof_check.specs.PositionTables.{AnswersAllOver, AnswersOver, PlaysOver, RequestsOver, ShowsOver, StopsOver}
use lib.Pointwise.{pointwise}

module _ (board : PlainBoard) where
  answers_plainly : (table : List AnswerRow) (requests : List ℕ) (from : List ℕ)
      → AnswersAllOver configuration_positions board table from requests → AnswersAll board table from requests
  answers_plainly table [] from answers = tt
  answers_plainly table (pebble ∷ requests) from answers =
      (answers.0, answers.1, answers_plainly table requests (moved from pebble answers.0) answers.2)

  answers : (table : List AnswerRow) (most : ℕ) (from : List ℕ)
      → AnswersOver configuration_positions board table most from → Answers board table most from
  answers table most from over =
      λ requests short pebbles. answers_plainly table requests from (over requests short pebbles)

  -- the row that a request was found by
  row_of : (found : Option RequestRow) (pebble : ℕ) → option_map (λ row. row.request) found ≡ Some pebble
      → (row : RequestRow) × (found ≡ Some row) × (row.request ≡ pebble)
  row_of None pebble is = absurd cc
  row_of (Some row) pebble is = let same : row.request ≡ pebble = cc in (row, (λ i. Some row), same)

  requests_too : (table : List RequestRow) (from : List ℕ) (pebble : ℕ) → Requests board table from pebble
      → RequestsOver configuration_positions board table from pebble
  requests_too table from pebble is =
      let found = row_of (find (λ row. pointwise nat_eq row.at from) table) pebble is.request in
      record { row = found.0; is_row = found.1; asks = found.2; is_pebble = is.is_pebble }

  requests_plainly : (table : List RequestRow) (from : List ℕ) (pebble : ℕ)
      → RequestsOver configuration_positions board table from pebble → Requests board table from pebble
  requests_plainly table from pebble is = record {
    request = ap (option_map (λ row. row.request)) is.is_row ∙ ap Some is.asks;
    is_pebble = is.is_pebble;
  }

  plays_too : (table : List RequestRow) (labels : List ℕ) (from to : List ℕ) → Leads board table from labels to
      → PlaysOver configuration_positions board table from labels to
  plays_too table [] from to leads = leads
  plays_too table (label ∷ labels) from to leads = (
    leads.0,
    requests_too table from leads.0 leads.1,
    leads.2,
    plays_too table labels (moved from leads.0 label) to leads.3,
  )

  stops : (table : List RequestRow) (most : ℕ) (from : List ℕ)
      → StopsOver configuration_positions board table most from → StopsAfter board table most from
  stops table most from over = λ labels to leads.
      let ends = over labels to (plays_too table labels from to leads) in
      ((ends.0.0, requests_plainly table to ends.0.0 ends.0.1), ends.1)

  pub shows_plainly : (labeller : List AnswerRow) (adversary : List RequestRow) (claim : Claim)
      → ShowsOver configuration_positions board labeller adversary claim → Shows board labeller adversary claim
  shows_plainly labeller adversary (Exactly number) shows =
      (answers labeller number board.start shows.0, stops adversary number board.start shows.1)
  shows_plainly labeller adversary (AtLeast number) shows = answers labeller number board.start shows
  shows_plainly labeller adversary (AtMost number) shows = stops adversary number board.start shows
  shows_plainly labeller adversary Forever shows = shows
