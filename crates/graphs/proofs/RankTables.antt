-- The graph of ordered configurations, as its numbers have it.
use Rattle.std.proofs.Common.{◌≡◌, ◌<◌, ◌↔◌, ℕ, true, List, sym, subst, arith}
use Rattle.board_text.specs.PlainBoard.{PlainBoard, IsBoard}
use Rattle.board_text.specs.Domination.{has_bit}
use Rattle.board_text.specs.declared.board.TheConstants.{MAX_LABELS}
use Rattle.board_text.proofs.Cited.{label_is_place}
use Rattle.positions.specs.Gaps.{gaps, IsAnswer}
use Rattle.positions.specs.Tuples.{tuple_of}
use Rattle.graphs.specs.Answers.{IsAnswerIn, AreAnswerBits}
use Rattle.graphs.specs.Ordered.{ordered}
use Rattle.graphs.proofs.OrderedGraphs.{struck-there, there-struck}

-- the answers of a gap are its answers in the graph
module _ (b : PlainBoard) (is : IsBoard b) (g : ℕ) (i : g < gaps b) where
  pub answer-of : (v : ℕ) → IsAnswerIn (ordered b) g v → IsAnswer b g v
  answer-of v is_in = there-struck b is g v i is_in.is_place is_in.struck

  pub answer-in : (v : ℕ) → IsAnswer b g v → IsAnswerIn (ordered b) g v
  answer-in v answer =
      let place = label_is_place b v answer.is_label in
      record { is_place = place; struck = struck-there b is g v i place answer }

  bits-of-answers : (row : List ℕ) → ((v : ℕ) → v < MAX_LABELS → (has_bit row v ≡ true) ↔ IsAnswer b g v)
      → AreAnswerBits (ordered b) g row
  bits-of-answers row bits = record {
    few = λ v is_in. let low = (answer-of v is_in).is_label in omega (arith, low, is.labels.1);
    each = λ v small. (
      λ set. answer-in v ((bits v small).0 set),
      λ is_in. (bits v small).1 (answer-of v is_in),
    );
  }

-- the answers of a tuple are those of its gap
pub bits-of-tuple : (a b : PlainBoard) → a ≡ b → IsBoard b → (g tuple : ℕ) (row : List ℕ) → g < gaps b
    → tuple ≡ tuple_of b g
    → ((gap : ℕ) → gap < gaps a → tuple_of a gap ≡ tuple → (v : ℕ) → v < MAX_LABELS → (has_bit row v ≡ true)
    ↔ IsAnswer a gap v)
    → AreAnswerBits (ordered b) g row
bits-of-tuple a b same is g tuple row i tuple_is bits =
    bits-of-answers b is g i row
    (subst
    (λ (p : PlainBoard). (gap : ℕ) → gap < gaps p → tuple_of p gap ≡ tuple → (v : ℕ) → v < MAX_LABELS
    → (has_bit row v ≡ true) ↔ IsAnswer p gap v)
    same bits g i (sym tuple_is))
