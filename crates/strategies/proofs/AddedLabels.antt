-- The positions after all legal answers to a request, added by a walk over the legal labels.
use Rattle.std.proofs.Common.{◌≡◌, ℕ, ◌<◌, ◌≤◌, inl, inr, true, List, Some, sym, ◌∙◌, subst, arith}
use Rattle.std.proofs.lemmas.Bool.{cases_lt}
use Rattle.board_text.specs.Domination.{has_bit}
use Rattle.board_text.specs.PlainBoard.{IsBoard}
use Rattle.board_text.specs.declared.board.TheConstants.{MAX_LABELS}
use Rattle.positions.specs.Counts.{IsSmallest}
use Rattle.positions.specs.Game.{Legal, moved}
use Rattle.positions.specs.LabelWalk.{Walk, TakesSmallest}
use Rattle.positions.proofs.Cited.{AreFrom, after_step, next_of, none_left}
use Rattle.strategies.specs.Inside.NumberedPositions.{LegalLeads, NumberedPositions, position_number}
use Rattle.strategies.specs.Inside.Reached.{AreReachedWith, ReachedBy}
use Rattle.strategies.specs.Inside.ReachedOver.{IsLegalStepOver}
use Rattle.strategies.proofs.AddedNumbers.{Below, below_all, below_same, reached_more, reached_one, reached_same}

abbrev pub LegalStep : NumberedPositions → List ℕ → ℕ → ℕ → ℕ → Type 0
LegalStep over = IsLegalStepOver over.positions over.numbering over.board

-- the walk is over the legal labels from its bound on, and the normal places after those below are added
pub record AreAddedBefore (over : NumberedPositions) (from : List ℕ) (pebble : ℕ) (walk : Walk)
    (numbers more : ReachedBy) : Type 0 where
  pub most : walk.from ≤ MAX_LABELS
  pub left : AreFrom (Legal over.board from pebble) walk
  pub added : AreReachedWith numbers (Below (LegalStep over from pebble) walk.from) more

module _ (over : NumberedPositions) (is_board : IsBoard over.board) (from : List ℕ) (pebble : ℕ)
    (walk : Walk) (numbers some : ReachedBy) (so : AreAddedBefore over from pebble walk numbers some) where
  few : (label : ℕ) → Legal over.board from pebble label → label < MAX_LABELS
  few label legal = omega (arith, legal.is_label, is_board.labels.1)

  module _ (after : Walk) (label : ℕ) (step : TakesSmallest walk after label) where
    pub next_legal : IsSmallest (λ l. (walk.from ≤ l) × Legal over.board from pebble l) (Some label)
    next_legal = next_of (Legal over.board from pebble) few walk so.left after label step

    pub label_added : (to : ℕ) (more : ReachedBy) → to ≡ position_number over (moved from pebble label)
        → AreReachedWith some (λ other. other ≡ to) more → AreAddedBefore over from pebble after numbers more
    label_added to more to_is with =
        let leads = LegalStep over from pebble in
        let before = reached_same numbers some (Below leads walk.from) (Below leads label)
        (λ other. below_same leads walk.from label other next_legal.0.0 (λ number late early at.
        let least = next_legal.1 number (late, at.legal) in omega (arith, least, early))) so.added in
        record {
          most = let small : label < MAX_LABELS = step.smallest.0.0 in omega (arith, small, step.from);
          left = after_step (Legal over.board from pebble) few walk so.left after label step;
          added = subst (λ bound. AreReachedWith numbers (Below leads bound) more) (sym step.from)
              (reached_more numbers some more leads label before
              (reached_one some more (leads label) to with (record { legal = next_legal.0.1; to_is = to_is })
              (λ other at. at.to_is ∙ sym to_is)));
        }

  pub labels_added : ((label : ℕ) → label < MAX_LABELS → has_bit walk.left label ≡ true → ⊥)
      → AreReachedWith numbers (LegalLeads over from pebble) some
  labels_added ended =
      let leads = LegalStep over from pebble in
      reached_same numbers some (Below leads walk.from) (LegalLeads over from pebble)
      (λ to. below_all leads walk.from to (λ number at. elim (cases_lt number walk.from) [
        | inl early ↦ early
        | inr late ↦ absurd (none_left (Legal over.board from pebble) few walk so.left ended number (late, at.legal))
      ])) so.added
