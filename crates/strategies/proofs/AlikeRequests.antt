-- Requests that have the same answers with the same results lead to the same positions.
use Rattle.std.proofs.Common.{◌≡◌, ℕ, ◌<◌, ◌↔◌, List, ap, ◌∙◌, subst, sym}
use Rattle.positions.specs.Game.{Legal, moved}
use Rattle.positions.specs.Value.{HasValue}
use Rattle.positions.specs.declared.value.Value.{Value}
use Rattle.strategies.specs.Best.{HasGreatestResult}
use Rattle.strategies.specs.DocumentMoves.{IsAnswerable}
use Rattle.strategies.specs.Inside.NumberedPositions.{IsAnswerStep, LegalLeads, NumberedPositions}

-- the requests of the pebbles have the same legal answers, whose results have the same value and normal places
pub record AreAlike (over : NumberedPositions) (one other : List ℕ) (pebble partner : ℕ) : Type 0 where
  pub legal : (label : ℕ) → Legal over.board one pebble label ↔ Legal over.board other partner label
  pub value : (label : ℕ) → label < over.board.labels → (value : Value)
      → HasValue over.board (moved one pebble label) value ↔ HasValue over.board (moved other partner label) value
  pub normal : (label : ℕ) → label < over.board.labels
      → over.positions.normal (moved one pebble label) ≡ over.positions.normal (moved other partner label)

module _ (over : NumberedPositions) (one other : List ℕ) (pebble partner : ℕ)
    (alike : AreAlike over one other pebble partner) where
  alike_too : AreAlike over other one partner pebble
  alike_too = record {
    legal = λ label. ((alike.legal label).1, (alike.legal label).0);
    value = λ label is_label value. ((alike.value label is_label value).1, (alike.value label is_label value).0);
    normal = λ label is_label. sym (alike.normal label is_label);
  }

  -- their legal answers lead to the same positions
  pub results_lead : (to : ℕ) → LegalLeads over one pebble to → LegalLeads over other partner to
  results_lead to (label, step) = (
    label,
    record {
      legal = (alike.legal label).0 step.legal;
      to_is = step.to_is ∙ ap over.numbering.number (alike.normal label step.legal.is_label);
    },
  )

  -- a result of a greatest value of the one request has one of the other
  greatest_too : (label : ℕ) → HasGreatestResult over.board one pebble label
      → HasGreatestResult over.board other partner label
  greatest_too label great = record {
    legal = (alike.legal label).0 great.legal;
    greatest = λ rival legal.
        let here : Legal over.board one pebble rival = (alike.legal rival).1 legal in
        let less = great.greatest rival here in
        record {
          value = less.value;
          bound = less.bound;
          of_first = (alike.value rival legal.is_label less.value).0 less.of_first;
          of_second = (alike.value label great.legal.is_label less.bound).0 less.of_second;
          not_greater = less.not_greater;
        };
  }

module _ (over : NumberedPositions) (one other : List ℕ) (pebble partner : ℕ)
    (alike : AreAlike over one other pebble partner) (there : partner < over.board.pebbles) where
  -- so their best answers lead to the same
  pub answers_lead : (to : ℕ) → IsAnswerStep over one pebble to → IsAnswerStep over other partner to
  answers_lead to step =
      let label : ℕ = step.label in
      let is_label : label < over.board.labels = step.best.0.legal.is_label in
      record {
        is_pebble = there;
        label = label;
        best = (
          greatest_too over one other pebble partner alike label step.best.0,
          λ rival great. step.best.1 rival
              (greatest_too over other one partner pebble (alike_too over one other pebble partner alike) rival great),
        );
        to_is = step.to_is ∙ ap over.numbering.number (alike.normal label is_label);
        some = subst (IsAnswerable over.board) (alike.normal label is_label) step.some;
      }
