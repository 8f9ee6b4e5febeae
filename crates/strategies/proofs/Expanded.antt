-- The positions after the answers to the requests of one gap are added once.
use Rattle.std.proofs.Common.{◌≡◌, ℕ, ◌<◌, ◌↔◌, inl, inr, List, Result, Ok, Err, IfOk, ap, sym, ◌∙◌, subst, None}
use Rattle.board_text.specs.PlainBoard.{IsConfiguration}
use Rattle.positions.specs.Counts.{IsSmallest}
use Rattle.positions.specs.Game.{Legal, moved}
use Rattle.strategies.specs.Best.{IsBestRequest, LowersValue}
use Rattle.strategies.specs.Inside.NumberedPositions.{AreExpanded, IsOfGaps, LegalLeads, NumberedPositions, StepSets}
use Rattle.strategies.specs.Inside.NumberedPositions.{TakesSteps, position_number, request_moves}
use Rattle.strategies.specs.Inside.Reached.{AreReachedWith, NothingIsReached, ReachedBy}
use Rattle.strategies.proofs.AddedNumbers.{reached_known, reached_same}
use Rattle.strategies.proofs.BestRequests.{same_request}

pub none_expanded : (over : NumberedPositions) (Leads : List ℕ → ℕ → ℕ → Type 0) (expanded : ReachedBy)
    (Among : ℕ → Type 0) → NothingIsReached expanded → AreExpanded over Leads expanded.Among Among
none_expanded over Leads expanded Among none from pebble is inside among to leads =
    absurd ((none (over.gap from pebble)).0 among)

-- the positions to which one request leads were added, and its gap
pub expanded_more : (over : NumberedPositions) (Leads : List ℕ → ℕ → ℕ → Type 0) → IsOfGaps over Leads
    → (from : List ℕ) (pebble gap : ℕ) (expanded after numbers more : ReachedBy)
    → IsConfiguration over.board from → pebble < over.board.pebbles → gap ≡ over.gap from pebble
    → AreExpanded over Leads expanded.Among numbers.Among
    → AreReachedWith expanded (λ other. other ≡ gap) after
    → AreReachedWith numbers (Leads from pebble) more → AreExpanded over Leads after.Among more.Among
expanded_more over Leads of_gaps from pebble gap expanded after numbers more is inside gap_is are with added other
    partner too there among to leads =
    elim ((with.each (over.gap other partner)).0 among) [
      | inl old ↦ (added.each to).1 (inl (are other partner too there old to leads))
      | inr same ↦ (added.each to).1
          (inr (of_gaps other from partner pebble too is there inside (same ∙ gap_is) to leads))
    ]

-- the gap was expanded before
pub gap_known : (over : NumberedPositions) (Leads : List ℕ → ℕ → ℕ → Type 0) (from : List ℕ) (pebble gap : ℕ)
    (expanded : ReachedBy) (numbers : ReachedBy)
    → IsConfiguration over.board from → pebble < over.board.pebbles → gap ≡ over.gap from pebble
    → AreExpanded over Leads expanded.Among numbers.Among → expanded.Among gap
    → AreReachedWith numbers (Leads from pebble) numbers
gap_known over Leads from pebble gap expanded numbers is inside gap_is are there =
    reached_known numbers (Leads from pebble) (are from pebble is inside (subst expanded.Among gap_is there))

-- what was expanded stays so while more is reached, and no gap is noted
pub steps_taken : {V E : Type 0} (over : NumberedPositions) (Step : List ℕ → ℕ → ℕ → Type 0) (P : ℕ → Type 0)
    (before after : StepSets) (result : Result V E)
    → AreExpanded over Step before.expanded.Among before.reached.Among → after.expanded ≡ before.expanded
    → after.gaps ≡ before.gaps → IfOk result (λ _. AreReachedWith before.reached P after.reached)
    → IfOk result (λ _. after.numbers ≡ before.numbers) → IfOk result (λ _. TakesSteps over Step P before after)
steps_taken over Step P before after (Ok value) are same gaps added room = record {
  added = added;
  expanded = subst (λ (set : ReachedBy). AreExpanded over Step set.Among after.reached.Among) (sym same)
      (λ from pebble is inside there to leads. (added.each to).1 (inl (are from pebble is inside there to leads)));
  room = room;
  gap_room = gaps;
}
steps_taken over Step P before after (Err fault) are same gaps added room = tt

-- ---- the best request

pub no_request_added : (over : NumberedPositions) (from : List ℕ) (numbers : ReachedBy)
    → IsSmallest (LowersValue over.board from) None
    → AreReachedWith numbers ((request_moves over).Leads from) numbers
no_request_added over from numbers none =
    reached_known numbers ((request_moves over).Leads from) (λ to leads. absurd (none leads.1.pebble leads.1.best.0))

module _ (over : NumberedPositions) (from : List ℕ) (pebble : ℕ) (best : IsBestRequest over.board from pebble) where
  -- it leads to the positions after its legal answers
  leads_is : (to : ℕ) → LegalLeads over from pebble to ↔ (request_moves over).Leads from to
  leads_is to = (
    λ leads. (leads.0, record { pebble = pebble; best = best; legal = leads.1.legal; to_is = leads.1.to_is }),
    λ leads.
        let same : leads.1.pebble ≡ pebble = same_request over.board from leads.1.pebble pebble leads.1.best best in (
          leads.0,
          record {
            legal = subst (λ (p : ℕ). Legal over.board from p leads.0) same leads.1.legal;
            to_is = leads.1.to_is ∙ ap (λ (p : ℕ). position_number over (moved from p leads.0)) same;
          },
        ),
  )

  pub results_added : (numbers more : ReachedBy) → AreReachedWith numbers (LegalLeads over from pebble) more
      → AreReachedWith numbers ((request_moves over).Leads from) more
  results_added numbers more added =
      reached_same numbers more (LegalLeads over from pebble) ((request_moves over).Leads from) leads_is added
