-- A walk over the answers of a gap that looks for one after which a labeller lasts forever.
use Rattle.std.proofs.Common.{◌≡◌, ℕ, ◌<◌, ◌≤◌, ◌↔◌, true, List, Some, None, inl, inr, subst, arith}
use Rattle.std.proofs.lemmas.Bool.{cases_lt}
use Rattle.board_text.specs.Domination.{has_bit}
use Rattle.board_text.specs.PlainBoard.{PlainBoard, IsBoard}
use Rattle.board_text.specs.declared.board.TheConstants.{MAX_LABELS}
use Rattle.positions.specs.declared.value.Value.TheVariants.{Forever}
use Rattle.positions.specs.Counts.{IsSmallest}
use Rattle.positions.specs.Gaps.{member_of, IsAnswer}
use Rattle.positions.specs.LabelWalk.{Walk, TakesSmallest}
use Rattle.positions.specs.Value.{HasValue}
use Rattle.positions.proofs.Cited.{AreFrom, after_step, from_zero, next_of, none_left, walk_begins}
use Rattle.solver.specs.LabelSets.{IsInSet}
use Rattle.solver.specs.SafeAnswers.{IsSafeAnswer}

-- the walk is over the gap's answers from its bound on, and no safe answer is below the bound
pub record IsSafeWalk (board : PlainBoard) (gap : ℕ) (walk : Walk) : Type 0 where
  pub most : walk.from ≤ MAX_LABELS
  pub left : AreFrom (IsAnswer board gap) walk
  pub none : (smaller : ℕ) → smaller < walk.from → IsSafeAnswer board gap smaller → ⊥

module _ (board : PlainBoard) (is : IsBoard board) (gap : ℕ) (walk : Walk) (so : IsSafeWalk board gap walk) where
  few : (label : ℕ) → IsAnswer board gap label → label < MAX_LABELS
  few label answer = omega (arith, answer.is_label, is.labels.1)

  module _ (after : Walk) (label : ℕ) (step : TakesSmallest walk after label) where
    pub next-answer : IsSmallest (λ l. (walk.from ≤ l) × IsAnswer board gap l) (Some label)
    next-answer = next_of (IsAnswer board gap) few walk so.left after label step

    pub safe-first : HasValue board (member_of board gap label) Forever
        → IsSmallest (IsSafeAnswer board gap) (Some label)
    safe-first forever = (
      (next-answer.0.1, forever),
      λ other safe. elim (cases_lt other walk.from) [
        | inl early ↦ absurd (so.none other early safe)
        | inr late ↦ next-answer.1 other (late, safe.0)
      ],
    )

    pub safe-next : ¬ HasValue board (member_of board gap label) Forever → IsSafeWalk board gap after
    safe-next ends = record {
      most = let small : label < MAX_LABELS = step.smallest.0.0 in omega (arith, small, step.from);
      left = after_step (IsAnswer board gap) few walk so.left after label step;
      none = λ smaller below safe. elim (cases_lt smaller walk.from) [
        | inl early ↦ so.none smaller early safe
        | inr late ↦
            let least : label ≤ smaller = next-answer.1 smaller (late, safe.0) in
            let same : smaller ≡ label = omega (arith, below, step.from, least) in
            ends (subst (λ l. HasValue board (member_of board gap l) Forever) same safe.1)
      ];
    }

  pub safe-none : ((label : ℕ) → label < MAX_LABELS → has_bit walk.left label ≡ true → ⊥)
      → IsSmallest (IsSafeAnswer board gap) None
  safe-none over other safe = elim (cases_lt other walk.from) [
    | inl early ↦ so.none other early safe
    | inr late ↦ none_left (IsAnswer board gap) few walk so.left over other (late, safe.0)
  ]

-- a walk over a set that has the gap's answers begins
pub safe-begins : (board : PlainBoard) (gap : ℕ) (labels : List ℕ)
    → ((label : ℕ) → IsInSet labels label ↔ IsAnswer board gap label)
    → (walk : Walk) → walk ≡ record { left = labels; from = 0 } → IsSafeWalk board gap walk
safe-begins board gap labels each walk begins = record {
  most = let zero_is = from_zero labels walk begins in omega (arith, zero_is);
  left = walk_begins (IsAnswer board gap) labels walk begins
      (λ label small. (λ set. (each label).0 (small, set), λ answer. ((each label).1 answer).1));
  none = λ smaller below safe. absurd (let zero_is = from_zero labels walk begins in omega (arith, zero_is, below));
}
