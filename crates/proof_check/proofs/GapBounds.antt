-- Numbers above those of the rows of all results of a request, by its gap.
use Rattle.std.proofs.Common.{ℕ, ◌<◌, ◌≤◌, List, arith}
use Rattle.board_text.specs.PlainBoard.{PlainBoard, IsConfiguration}
use Rattle.positions.specs.Game.{Legal, moved}
use Rattle.positions.specs.Gaps.{gap_of}
use Rattle.positions.specs.LabelWalk.{Walk}
use Rattle.positions.specs.Table.{RequestRow}
use Rattle.positions.proofs.Cited.{legal_is_answer, member_of-gap_of}
use Rattle.proof_check.specs.Inside.GapBounds.{IsBound}
use Rattle.proof_check.specs.declared.gap_bounds.TheConstants.{NO_BOUND}
use Rattle.proof_check.proofs.AdversarySteps.{AreMetBefore}
use Rattle.proof_text.specs.Rules.{IsListedBelow}

-- a row that is listed below a bound is listed below a larger one
pub listed_below_more : (rows : List RequestRow) (places : List ℕ) (bound more : ℕ) → bound ≤ more
    → IsListedBelow rows places bound → IsListedBelow rows places more
listed_below_more rows places bound more most is =
    let below : is.row.left < bound = is.below in
    record { row = is.row; among = is.among; at = is.at; below = omega (arith, below, most) }

-- the result of a legal answer is listed below the bound, unless that is none
abbrev pub IsServed : PlainBoard → List RequestRow → List ℕ → ℕ → ℕ → ℕ → Type 0
IsServed board rows configuration pebble bound label = bound < NO_BOUND
    → Legal board configuration pebble label → IsListedBelow rows (moved configuration pebble label) bound

-- what is served below a bound is served below a larger one
pub served_more : (board : PlainBoard) (rows : List RequestRow) (configuration : List ℕ) (pebble bound more : ℕ)
    (IsLegal : ℕ → Type 0) (walk : Walk) → bound ≤ more
    → AreMetBefore IsLegal (IsServed board rows configuration pebble bound) walk
    → AreMetBefore IsLegal (IsServed board rows configuration pebble more) walk
served_more board rows configuration pebble bound more IsLegal walk most are = record {
  most = are.most;
  left = are.left;
  before = λ label low small legal. listed_below_more rows (moved configuration pebble label) bound more most
      (are.before label low (omega (arith, most, small)) legal);
}

module _ (board : PlainBoard) (rows : List RequestRow) (configuration : List ℕ) (pebble bound : ℕ)
    (is : IsConfiguration board configuration) (inside : pebble < board.pebbles) where
  -- all results are listed below a bound, which is that of the gap
  pub bound_of_gap : ((label : ℕ) → IsServed board rows configuration pebble bound label)
      → IsBound board rows (gap_of board configuration pebble) bound
  bound_of_gap served small label answer =
      rw (member_of-gap_of board configuration pebble label is inside)
      (served label small ((legal_is_answer board configuration pebble label is inside).1 answer))

  -- the bound of the gap is one of all results
  pub served_by_gap : IsBound board rows (gap_of board configuration pebble) bound → bound < NO_BOUND → (label : ℕ)
      → Legal board configuration pebble label → IsListedBelow rows (moved configuration pebble label) bound
  served_by_gap is_bound small label legal =
      rw (← member_of-gap_of board configuration pebble label is inside)
      (is_bound small label ((legal_is_answer board configuration pebble label is inside).0 legal))
