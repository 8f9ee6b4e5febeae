-- A claim that tables show holds of the start.
use Rattle.std.proofs.Common.{ℕ, suc, List, inl, inr, arith}
use Rattle.std.proofs.lemmas.Bool.{cases_lt}
use Rattle.board_text.specs.PlainBoard.{PlainBoard, IsConfiguration}
use Rattle.positions.specs.declared.value.Value.{Value}
use Rattle.positions.specs.declared.value.Value.TheVariants.{Finite, Forever}
use Rattle.positions.specs.declared.claim.Claim.{Claim}
use Rattle.positions.specs.declared.claim.Claim.TheVariants as claims
use Rattle.positions.specs.Game.{LabellerTree}
use Rattle.positions.specs.Value.{HasValue}
use Rattle.positions.specs.Claim.{Shows, Holds}
use Rattle.positions.specs.Table.{AnswerRow, RequestRow}
use Rattle.positions.proofs.Trees.{not_both_trees, lasts_at_most}
use Rattle.positions.proofs.Values.{at_most_from_tree}
use Rattle.positions.proofs.Finiteness.{some_value}
use Rattle.positions.proofs.Tables.{tree_from_answers, tree_from_closed, tree_from_stops}

-- a labeller that lasts a number of requests has that value or more
at_least : (board : PlainBoard) (number : ℕ) → LabellerTree board number board.start
    → (value : Value) → HasValue board board.start value → Holds board (claims.AtLeast number)
at_least board number lasts Forever has = inl has
at_least board number lasts (Finite depth) has =
    elim (cases_lt depth number) [
      | inl less ↦ absurd (not_both_trees board (suc depth) board.start
          (lasts_at_most board board.start (suc depth) number (omega arith) lasts) has.1)
      | inr enough ↦ inr (depth, enough, has)
    ]

pub claim_holds : (board : PlainBoard) (labeller : List AnswerRow) (adversary : List RequestRow) (claim : Claim)
    → IsConfiguration board board.start → Shows board labeller adversary claim → Holds board claim
claim_holds board labeller adversary (claims.Exactly number) is shows = (
  tree_from_answers board labeller number board.start shows.0,
  tree_from_stops board adversary number board.start shows.1,
)
claim_holds board labeller adversary (claims.AtLeast number) is shows =
    let value = some_value board board.start is in
    at_least board number (tree_from_answers board labeller number board.start shows) value.0 value.1
claim_holds board labeller adversary (claims.AtMost number) is shows =
    at_most_from_tree board number board.start (tree_from_stops board adversary number board.start shows)
claim_holds board labeller adversary claims.Forever is shows =
    λ depth. tree_from_closed board labeller depth board.start shows.0 shows.1
