-- Requests of one gap of ranks have the same answers and results.
use Rattle.std.proofs.Common.{◌≡◌, ℕ, ◌<◌, List, refl, sym, ◌∙◌, subst}
use Rattle.board_text.specs.PlainBoard.{PlainBoard, IsConfiguration}
use Rattle.positions.specs.Game.{moved}
use Rattle.positions.specs.Gaps.{gap_of}
use Rattle.positions.specs.Value.{HasValue}
use Rattle.strategies.specs.Inside.NumberedPositions.{over_ranks}
use Rattle.strategies.proofs.AlikeRequests.{AreAlike}
use Rattle.strategies.proofs.GapAnswers.{IsMemberOf, legal_there, member_there}

module _ (board : PlainBoard) (one other : List ℕ) (pebble partner : ℕ) (is : IsConfiguration board one)
    (too : IsConfiguration board other) (inside : pebble < board.pebbles) (there : partner < board.pebbles)
    (same : gap_of board one pebble ≡ gap_of board other partner) where
  here_is : IsMemberOf board one pebble (gap_of board one pebble)
  here_is = record { is_configuration = is; is_pebble = inside; its_gap = refl }

  other_is : IsMemberOf board other partner (gap_of board one pebble)
  other_is = record { is_configuration = too; is_pebble = there; its_gap = sym same }

  one_result : (label : ℕ) → moved one pebble label ≡ moved other partner label
  one_result label = sym (member_there board one pebble (gap_of board one pebble) here_is label)
      ∙ member_there board other partner (gap_of board one pebble) other_is label

  pub gaps_of_ranks : AreAlike (over_ranks board) one other pebble partner
  gaps_of_ranks = record {
    legal = λ label.
        let first = legal_there board one pebble (gap_of board one pebble) here_is label in
        let second = legal_there board other partner (gap_of board one pebble) other_is label in
        (λ legal. second.1 (first.0 legal), λ legal. first.1 (second.0 legal));
    value = λ label is_label value. (
      subst (λ (c : List ℕ). HasValue board c value) (one_result label),
      subst (λ (c : List ℕ). HasValue board c value) (sym (one_result label)),
    );
    normal = λ label is_label. one_result label;
  }
