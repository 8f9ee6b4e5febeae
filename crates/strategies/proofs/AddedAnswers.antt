-- The positions added at a step by best answers.
use Rattle.std.proofs.Common.{◌≡◌, ℕ, ◌<◌, ◌≤◌, List, None, Some, sym, ap, ◌∙◌, subst, arith}
use Rattle.board_text.specs.PlainBoard.{IsConfiguration}
use Rattle.positions.specs.declared.value.Value.TheVariants.{Finite}
use Rattle.positions.specs.Game.{moved}
use Rattle.positions.specs.Value.{HasValue}
use Rattle.positions.proofs.Cited.{moved_is_configuration}
use Rattle.gap_values.specs.declared.value_table.Best.{Best}
use Rattle.strategies.specs.Best.{IsBestFor, IsLess}
use Rattle.strategies.specs.DocumentMoves.{IsAnswerable}
use Rattle.strategies.specs.Inside.NumberedPositions.{AreNumberedPositions, IsAnswerStep, NumberedPositions}
use Rattle.strategies.specs.Inside.NumberedPositions.{answer_moves, position_number}
use Rattle.strategies.specs.Inside.Reached.{AreReachedWith, ReachedBy}
use Rattle.strategies.proofs.AddedNumbers.{Below, below_all, reached_known, reached_one, reached_same}
use Rattle.strategies.proofs.BestAnswers.{same_answer}
use Rattle.strategies.proofs.ValueOrder.{worthless}

module _ (over : NumberedPositions) (is : AreNumberedPositions over) (from : List ℕ) (pebble : ℕ)
    (numbers : ReachedBy) where
  pub no_answer_added : IsBestFor over.board from pebble None
      → AreReachedWith numbers (IsAnswerStep over from pebble) numbers
  no_answer_added none =
      reached_known numbers (IsAnswerStep over from pebble) (λ to step. absurd (none step.label step.best.0.legal))

  module _ (here : IsConfiguration over.board from) (best : Best)
      (is_best : IsBestFor over.board from pebble (Some best)) where
    abbrev next : List ℕ
    next = moved from pebble best.label

    has_next : HasValue over.board (over.positions.normal next) best.value
    has_next = is.positions.same_value next
        (moved_is_configuration over.board from pebble best.label is_best.0.0.legal.is_label here) best.value is_best.1

    same_label : (to : ℕ) (step : IsAnswerStep over from pebble to) → step.label ≡ best.label
    same_label to step = same_answer over.board from pebble step.label best.label step.best is_best.0

    pub worthless_not_added : ¬ IsLess (Finite 0) best.value
        → AreReachedWith numbers (IsAnswerStep over from pebble) numbers
    worthless_not_added not = reached_known numbers (IsAnswerStep over from pebble) (λ to step.
        absurd (worthless over.board (over.positions.normal next) best.value has_next not
        (subst (λ (l : ℕ). IsAnswerable over.board (over.positions.normal (moved from pebble l)))
        (same_label to step) step.some)))

    pub answer_added : (after : ReachedBy) (to : ℕ) → pebble < over.board.pebbles → IsLess (Finite 0) best.value
        → to ≡ position_number over (moved from pebble best.label)
        → AreReachedWith numbers (λ other. other ≡ to) after
        → AreReachedWith numbers (IsAnswerStep over from pebble) after
    answer_added after to is_pebble some to_is with =
        reached_one numbers after (IsAnswerStep over from pebble) to with (record {
          is_pebble = is_pebble;
          label = best.label;
          best = is_best.0;
          to_is = to_is;
          some = record { value = best.value; has_value = has_next; some = some };
        })
        (λ other step. step.to_is ∙ ap (λ (l : ℕ). position_number over (moved from pebble l)) (same_label other step)
        ∙ sym to_is)

-- the best answers to all requests
pub answers_added : (over : NumberedPositions) (from : List ℕ) (bound : ℕ) (numbers more : ReachedBy)
    → over.board.pebbles ≤ bound
    → AreReachedWith numbers (Below (IsAnswerStep over from) bound) more
    → AreReachedWith numbers ((answer_moves over).Leads from) more
answers_added over from bound numbers more end added =
    let step = IsAnswerStep over from in
    reached_same numbers more (Below step bound) ((answer_moves over).Leads from)
    (λ to. below_all step bound to
    (λ pebble is. let low : pebble < over.board.pebbles = is.is_pebble in omega (arith, low, end))) added
