-- The graph of classes, as its numbers have it.
use Rattle.std.proofs.Common.{◌≡◌, ◌+◌, ◌-◌, ◌<◌, ◌∙◌, ◌↔◌, ℕ, true, List, get_or, ap, sym, subst, arith}
use Rattle.board_text.specs.PlainBoard.{PlainBoard, IsBoard, places}
use Rattle.board_text.specs.Domination.{has_bit}
use Rattle.board_text.specs.declared.board.TheConstants.{MAX_LABELS}
use Rattle.board_text.proofs.Cited.{label_is_place}
use Rattle.classes.specs.Classes.{put}
use Rattle.positions.specs.Gaps.{AnswersGap}
use Rattle.classes.specs.Numbers.{ways, number_by_greatest}
use Rattle.classes.specs.Rows.{AreGapRows}
use Rattle.classes.specs.Walks.{GapMembers, TakesMember}
use Rattle.classes.proofs.Cited.{with-is}
use Rattle.graphs.specs.ClassGraph.{classes, gap_class}
use Rattle.graphs.specs.Answers.{IsAnswerIn, AreAnswerBits}
use Rattle.graphs.proofs.ClassGraphs.{gap-is, struck-there, there-struck}

-- the answers of a gap are its answers in the graph
module _ (b : PlainBoard) (is : IsBoard b) (g : ℕ) (i : g < ways (b.pebbles - 1) (places b)) where
  pub answer-of : (v : ℕ) → IsAnswerIn (classes b) g v → AnswersGap b (gap_class b g) v
  answer-of v is_in = there-struck b is g v i is_in.is_place is_in.struck

  pub answer-in : (v : ℕ) → AnswersGap b (gap_class b g) v → IsAnswerIn (classes b) g v
  answer-in v answer =
      let place = label_is_place b v answer.is_label in
      record { is_place = place; struck = struck-there b is g v i place answer }

  -- the row of the gap has the answers as bits
  pub bits-of-row : (rows : List (List ℕ)) (row : List ℕ) → AreGapRows b (b.pebbles - 1) rows → row ≡ get_or rows g row
      → AreAnswerBits (classes b) g row
  bits-of-row rows row are row_is =
      let number = (with-is (places b) (b.pebbles - 1) g i).number_is in
      let at : get_or rows (number_by_greatest (gap_class b g)) row ≡ row = ap (λ k. get_or rows k row) number
      ∙ sym row_is in
      let bits : (v : ℕ) → v < MAX_LABELS → (has_bit row v ≡ true) ↔ AnswersGap b (gap_class b g) v =
      subst (λ (r : List ℕ). (v : ℕ) → v < MAX_LABELS → (has_bit r v ≡ true) ↔ AnswersGap b (gap_class b g) v) at
      (are.each (gap_class b g) row (gap-is b is g i)) in record {
        few = λ v is_in. let low = (answer-of v is_in).is_label in omega (arith, low, is.labels.1);
        each = λ v small. (
          λ set. answer-in v ((bits v small).0 set),
          λ is_in. (bits v small).1 (answer-of v is_in),
        );
      }

-- ---- a walk over the members of a gap

-- the walk's next member was taken
pub record IsWalked (b : PlainBoard) (g : ℕ) (before after : GapMembers) (n : ℕ) : Type 0 where
  pub board : after.board ≡ b
  pub gap : after.gap ≡ gap_class b g
  pub place : after.place ≡ before.place + 1
  pub inside : before.place < places b
  pub member : n ≡ (classes b).member g before.place

pub walked : (b : PlainBoard) (g : ℕ) (before after : GapMembers) (n : ℕ) → before.board ≡ b
    → before.gap ≡ gap_class b g
    → TakesMember before after n → IsWalked b g before after n
walked b g before after n board gap takes = record {
  board = ap (λ (w : GapMembers). w.board) takes.rest ∙ board;
  gap = ap (λ (w : GapMembers). w.gap) takes.rest ∙ gap;
  place = ap (λ (w : GapMembers). w.place) takes.rest;
  inside = subst (λ (p : PlainBoard). before.place < places p) board takes.is_place;
  member = takes.number_is ∙ ap (λ l. number_by_greatest (put before.place l)) gap;
}
