-- The answers of a gap of ranks are those of its pebble at its members; and no best answer means no legal label.
use Rattle.std.proofs.Common.{◌≡◌, ◌<◌, ◌↔◌, ℕ, List, Option, None, Some, option_map, refl, subst}
use Rattle.board_text.specs.PlainBoard.{PlainBoard, IsConfiguration}
use Rattle.positions.specs.Game.{Legal, moved}
use Rattle.positions.specs.Gaps.{IsAnswer, gap_of, member_of}
use Rattle.positions.proofs.Cited.{legal_is_answer, member_of-gap_of}
use Rattle.gap_values.specs.declared.value_table.Best.{Best}
use Rattle.strategies.specs.Best.{IsBestFor}

-- the configuration is a member of the gap, and the gap is one of the pebble
pub record IsMemberOf (board : PlainBoard) (configuration : List ℕ) (pebble gap : ℕ) : Type 0 where
  pub is_configuration : IsConfiguration board configuration
  pub is_pebble : pebble < board.pebbles
  pub its_gap : gap_of board configuration pebble ≡ gap

module _ (board : PlainBoard) (configuration : List ℕ) (pebble gap : ℕ)
    (is : IsMemberOf board configuration pebble gap) where
  pub legal_there : (label : ℕ) → Legal board configuration pebble label ↔ IsAnswer board gap label
  legal_there label = subst (λ (g : ℕ). Legal board configuration pebble label ↔ IsAnswer board g label) is.its_gap
      (legal_is_answer board configuration pebble label is.is_configuration is.is_pebble)

  pub member_there : (label : ℕ) → member_of board gap label ≡ moved configuration pebble label
  member_there label = subst (λ (g : ℕ). member_of board g label ≡ moved configuration pebble label) is.its_gap
      (member_of-gap_of board configuration pebble label is.is_configuration is.is_pebble)

-- ---- the best answer to a request of a pebble

module _ (board : PlainBoard) (configuration : List ℕ) (pebble : ℕ) where
  pub best_is_none : (best : Option Best) → IsBestFor board configuration pebble best
      → (option_map (λ (b : Best). b.label) best ≡ None) ↔ ((label : ℕ) → Legal board configuration pebble label → ⊥)
  best_is_none (Some best) is = (λ same. absurd cc, λ none. absurd (none best.label is.0.0.legal))
  best_is_none None none = (λ _. none, λ _. refl)
