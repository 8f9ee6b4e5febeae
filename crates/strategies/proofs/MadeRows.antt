-- One row of the labeller's in a document, as it is made.
use Rattle.std.proofs.Common.{◌≡◌, ℕ, ◌+◌, ◌<◌, ◌≤◌, List, length, slice_index, slice_set, take, None, inl, inr, refl}
use Rattle.std.proofs.Common.{sym, ◌∙◌, subst, arith}
use Rattle.std.proofs.Math.ListN.{length-set}
use Rattle.std.proofs.lemmas.Bool.{cases_eq}
use Rattle.std.proofs.lemmas.List.{get_or-set_same, get_or-set_other, length-take-le, get_or-take}
use Rattle.board_text.specs.PlainBoard.{PlainBoard, IsBoard}
use Rattle.board_text.specs.declared.board.TheConstants.{MAX_PEBBLES}
use Rattle.positions.specs.declared.value.Value.{Value}
use Rattle.positions.specs.declared.value.Value.TheVariants.{Finite}
use Rattle.positions.specs.Value.{HasValue}
use Rattle.proof_text.specs.Positions.{Positions}
use Rattle.positions.proofs.Cited.{same_value}
use Rattle.strategies.specs.Best.{IsLess, IsBestAnswer, IsBestFor}
use Rattle.strategies.specs.DocumentMoves.{IsAnswerable}
use Rattle.strategies.specs.Inside.Numbering.{Numbering}
use Rattle.strategies.specs.Inside.ReachedOver.{IsReachedByAnswersOver}
use Rattle.strategies.specs.Inside.Sections.{AreTaken}
use Rattle.strategies.specs.PositionDocument.{turns_of, IsLabellerRowOver}
use Rattle.strategies.proofs.DocumentRows.{answers_one}

-- the best answers to requests below a pebble are in their places, and all others are 0
pub record AreTakenBelow (board : PlainBoard) (configuration : List ℕ) (bound : ℕ) (labels : List ℕ) : Type 0 where
  pub six : length labels ≡ 6
  pub best : (pebble : ℕ) → pebble < bound → IsBestAnswer board configuration pebble (slice_index labels pebble)
  pub rest : (pebble : ℕ) → bound ≤ pebble → slice_index labels pebble ≡ 0

pub taken_more : (board : PlainBoard) (configuration : List ℕ) (pebble label : ℕ) (labels : List ℕ)
    → pebble < MAX_PEBBLES → AreTakenBelow board configuration pebble labels
    → IsBestAnswer board configuration pebble label
    → AreTakenBelow board configuration (pebble + 1) (slice_set labels pebble label)
taken_more board configuration pebble label labels low taken is = record {
  six = length-set labels pebble label ∙ taken.six;
  best = λ other below. elim (cases_eq other pebble) [
    | inl same ↦
        let inside : pebble < length labels = omega (arith, taken.six) in
        subst (λ (p : ℕ). IsBestAnswer board configuration p (slice_index (slice_set labels pebble label) p)) (sym same)
        (subst (IsBestAnswer board configuration pebble) (sym (get_or-set_same labels pebble label 0 inside)) is)
    | inr differ ↦ subst (IsBestAnswer board configuration other)
        (sym (get_or-set_other labels pebble other label 0 differ)) (taken.best other (omega (arith, differ)))
  ];
  rest = λ other above. get_or-set_other labels pebble other label 0 (λ same. omega arith)
      ∙ taken.rest other (omega arith);
}

pub all_taken : (board : PlainBoard) (configuration : List ℕ) (bound : ℕ) (labels : List ℕ) → bound ≡ board.pebbles
    → AreTakenBelow board configuration bound labels → AreTaken board configuration labels
all_taken board configuration bound labels end taken = record {
  room = taken.six;
  best = λ pebble below. taken.best pebble (omega (arith, below, end));
  rest = λ pebble above. taken.rest pebble (omega (arith, above, end));
}

-- places of value 1 or more have an answer to each request
pub has_answer : (board : PlainBoard) (places : List ℕ) → IsAnswerable board places → (pebble : ℕ)
    → pebble < board.pebbles → IsBestFor board places pebble None → ⊥
has_answer board places holds pebble is_pebble none =
    let answer = answers_one board places holds.value holds.has_value holds.some pebble is_pebble in
    none answer.0 answer.1

module _ (board : PlainBoard) (positions : Positions) (numbering : Numbering) (number : ℕ)
    (reached : IsReachedByAnswersOver positions numbering board number) where
  abbrev places : List ℕ
  places = numbering.places number

  -- the labeller's row there
  pub labeller_row_is : (start value : Value) (labels : List ℕ) → IsBoard board
      → HasValue board places value → AreTaken board places labels
      → IsLabellerRowOver positions board start
      (record { at = places; turns = turns_of start value; answers = take board.pebbles labels })
  labeller_row_is start value labels is_board has taken =
      let same : reached.holds.value ≡ value =
      same_value board places reached.holds.value value reached.holds.has_value has in
      let most = is_board.pebbles in
      let room : board.pebbles ≤ length labels = omega (arith, most, taken.room) in
      record {
        moves = reached.moves;
        reached = reached.reached;
        value = value;
        has_value = has;
        some = subst (IsLess (Finite 0)) same reached.holds.some;
        turns = refl;
        one_each = length-take-le board.pebbles labels room;
        best = λ pebble below. subst (IsBestAnswer board places pebble)
            (sym (get_or-take board.pebbles labels pebble 0 below))
            (taken.best pebble below);
      }
