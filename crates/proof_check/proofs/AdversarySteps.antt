-- A walk over the legal answers to an adversary's row, of either version.
use Rattle.std.proofs.Common.{◌≡◌, ◌↔◌, ℕ, ◌<◌, ◌≤◌, true, List, length, inl, inr, subst, arith, below_more}
use Rattle.std.proofs.lemmas.Bool.{cases_lt}
use Rattle.board_text.specs.Domination.{has_bit}
use Rattle.board_text.specs.PlainBoard.{PlainBoard}
use Rattle.board_text.specs.declared.board.TheConstants.{MAX_LABELS}
use Rattle.positions.specs.Game.{Legal}
use Rattle.positions.specs.LabelWalk.{Walk, TakesSmallest}
use Rattle.positions.specs.Position.{Position, position_at}
use Rattle.positions.specs.Ranks.{configuration_at}
use Rattle.positions.specs.Table.{RequestRow}
use Rattle.proof_text.specs.Positions.{Positions}
use Rattle.proof_text.specs.Rules.{MeetsAnswer, MeetsAnswers}
use Rattle.proof_check.specs.FirstFaults.{FirstTurn}
use Rattle.positions.proofs.Cited.{AreFrom, after_step, from_zero, next_of, none_left, walk_begins}

-- a legal label is below MAX_LABELS, so a walk over labels comes to it
pub legal_few : (board : PlainBoard) (position : Position) (rank pebble : ℕ) → position ≡ position_at board rank
    → position.board.labels ≤ MAX_LABELS → (label : ℕ) → Legal board (configuration_at board rank) pebble label
    → label < MAX_LABELS
legal_few board position rank pebble is few label legal =
    let most : board.labels ≤ MAX_LABELS = subst (λ (p : Position). p.board.labels ≤ MAX_LABELS) is few in
    omega (arith, legal.is_label, most)

-- the walk is over the legal labels from its bound on, and each label below that is met
pub record AreMetBefore (IsLegal Meets : ℕ → Type 0) (walk : Walk) : Type 0 where
  pub most : walk.from ≤ MAX_LABELS
  pub left : AreFrom IsLegal walk
  pub before : (earlier : ℕ) → earlier < walk.from → Meets earlier

-- a walk over the legal labels begins
pub none_met : (IsLegal Meets : ℕ → Type 0) (words : List ℕ) (walk : Walk) → walk ≡ record { left = words; from = 0 }
    → ((label : ℕ) → label < MAX_LABELS → (has_bit words label ≡ true) ↔ IsLegal label)
    → AreMetBefore IsLegal Meets walk
none_met IsLegal Meets words walk begins bits =
    let zero_is = from_zero words walk begins in
    record {
      most = omega (arith, zero_is);
      left = walk_begins IsLegal words walk begins bits;
      before = λ earlier low. absurd (omega (arith, zero_is, low));
    }

-- what isn't legal is met
module _ (IsLegal Meets : ℕ → Type 0) (few : (label : ℕ) → IsLegal label → label < MAX_LABELS)
    (skipped : (label : ℕ) → ¬ IsLegal label → Meets label) (walk : Walk) (are : AreMetBefore IsLegal Meets walk) where
  met : (label : ℕ) → ¬ ((walk.from ≤ label) × IsLegal label) → Meets label
  met label none = elim (cases_lt label walk.from) [
    | inl low ↦ are.before label low
    | inr late ↦ skipped label (λ legal. none (late, legal))
  ]

  module _ (after : Walk) (label : ℕ) (step : TakesSmallest walk after label) where
    pub next_legal : IsLegal label
    next_legal = (next_of IsLegal few walk are.left after label step).0.1

    -- all before the next legal label are met
    before_next : (earlier : ℕ) → earlier < label → Meets earlier
    before_next earlier low =
        let next = next_of IsLegal few walk are.left after label step in
        met earlier (λ is. omega (arith, next.1 earlier is, low))

    pub met_on : Meets label → AreMetBefore IsLegal Meets after
    met_on meets = record {
      most = omega (arith, few label next_legal, step.from);
      left = after_step IsLegal few walk are.left after label step;
      before = rw step.from (below_more Meets label before_next meets);
    }

  -- no legal label is left, and all are met
  pub all_met : ((label : ℕ) → label < MAX_LABELS → has_bit walk.left label ≡ true → ⊥) → (label : ℕ) → Meets label
  all_met over label = met label (none_left IsLegal few walk are.left over label)

-- the legal answers to the request of a row, each met by a row with a smaller number
module _ (P : Positions) (board : PlainBoard) (rows : List RequestRow) (row : RequestRow) where
  abbrev pub AreAnswered : Walk → Type 0
  AreAnswered = AreMetBefore (Legal board row.at (P.asked row)) (MeetsAnswer P board rows row)

  module _ (most : board.labels ≤ MAX_LABELS) (walk : Walk) (are : AreAnswered walk) where
    few : (label : ℕ) → Legal board row.at (P.asked row) label → label < MAX_LABELS
    few label legal = omega (arith, legal.is_label, most)

    skipped : (label : ℕ) → ¬ Legal board row.at (P.asked row) label → MeetsAnswer P board rows row label
    skipped label not legal = absurd (not legal)

    pub next_answer : (after : Walk) (label : ℕ) → TakesSmallest walk after label
        → Legal board row.at (P.asked row) label
    next_answer = next_legal (Legal board row.at (P.asked row)) (MeetsAnswer P board rows row) few skipped walk are

    pub answered_on : (after : Walk) (label : ℕ) → TakesSmallest walk after label
        → MeetsAnswer P board rows row label → AreAnswered after
    answered_on = met_on (Legal board row.at (P.asked row)) (MeetsAnswer P board rows row) few skipped walk are

    -- the fault of the next answer is the row's
    pub first_wrong : {F : Type 0} (IsWrong : ℕ → F → Type 0) (fault : F) (after : Walk) (label : ℕ)
        → TakesSmallest walk after label → IsWrong label fault
        → FirstTurn (Legal board row.at (P.asked row)) (MeetsAnswer P board rows row) IsWrong fault
    first_wrong IsWrong fault after label step wrong = record {
      turn = label;
      is_turn = next_answer after label step;
      before = before_next (Legal board row.at (P.asked row)) (MeetsAnswer P board rows row) few skipped walk are after
          label step;
      wrong = wrong;
    }

    pub all_answered : ((label : ℕ) → label < MAX_LABELS → has_bit walk.left label ≡ true → ⊥)
        → P.asked row < length row.at → MeetsAnswers P board rows row
    all_answered over asks = record {
      asks = asks;
      each = all_met (Legal board row.at (P.asked row)) (MeetsAnswer P board rows row) few skipped walk are over;
    }
