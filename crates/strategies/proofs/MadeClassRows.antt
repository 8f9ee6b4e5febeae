-- Rows of a document over normal places, as they are made.
use Rattle.std.proofs.Common.{◌≡◌, ℕ, List, Option, Some, get_or, refl}
use Rattle.board_text.specs.PlainBoard.{PlainBoard}
use Rattle.positions.specs.declared.value.Value.TheVariants.{Finite}
use Rattle.positions.specs.Table.{RequestRow}
use Rattle.positions.specs.Value.{HasValue}
use Rattle.proof_text.specs.Positions.{normal_positions}
use Rattle.proof_text.proofs.Cited.{asked_below}
use Rattle.strategies.specs.Best.{IsBestRequest}
use Rattle.symmetries.specs.AlikeTables.{AlikeBy}
use Rattle.strategies.specs.Inside.NormalForm.{normal_by}
use Rattle.strategies.specs.Inside.NumberedPositions.{over_by}
use Rattle.strategies.specs.Inside.Numbering.{by_order, class_numbered, IsClassNumber}
use Rattle.strategies.specs.Inside.ReachedOver.{IsReachedByRequestsOver}
use Rattle.strategies.specs.PositionDocument.{IsAdversaryRowOver}
use Rattle.strategies.proofs.LikePebbles.{first-best}

pub adversary_row_is : (board : PlainBoard) (normal : List ℕ → List ℕ) (number pebble left : ℕ)
    → IsClassNumber board number → IsReachedByRequestsOver (normal_positions normal) (by_order board) board number
    → HasValue board (class_numbered board number) (Finite left)
    → IsBestRequest board (class_numbered board number) pebble
    → IsAdversaryRowOver (normal_positions normal) board (record {
      at = class_numbered board number;
      left = left;
      request = get_or (class_numbered board number) pebble 0;
    })
adversary_row_is board normal number pebble left is reached has best =
    let c : List ℕ = class_numbered board number in
    let row : RequestRow = record { at = c; left = left; request = get_or c pebble 0 } in
    let first = first-best board row pebble is.is best refl in
    record {
      moves = reached.moves;
      reached = reached.reached;
      has_value = has;
      asks = asked_below row first.0;
      best = first.1;
    }

-- ---- where positions are normal places

module _ (board : PlainBoard) (kind : Option AlikeBy) (alike : AlikeBy) (is : kind ≡ Some alike) (number : ℕ) where
  pub normal_places : (over_by board kind).numbering.places number ≡ class_numbered board number
  normal_places = rw is refl

  pub normal_number_is : (over_by board kind).numbering.IsNumber number → IsClassNumber board number
  normal_number_is here = rw is at here

  pub adversary_row_over : (pebble left : ℕ) → (over_by board kind).numbering.IsNumber number
      → IsReachedByRequestsOver (over_by board kind).positions (over_by board kind).numbering board number
      → HasValue board ((over_by board kind).numbering.places number) (Finite left)
      → IsBestRequest board ((over_by board kind).numbering.places number) pebble
      → IsAdversaryRowOver (over_by board kind).positions board (record {
        at = (over_by board kind).numbering.places number;
        left = left;
        request = get_or ((over_by board kind).numbering.places number) pebble 0;
      })
  adversary_row_over pebble left here reached has best = rw is
      (adversary_row_is board (normal_by board alike) number pebble left (rw is at here) (rw is at reached)
      (rw is at has) (rw is at best))
