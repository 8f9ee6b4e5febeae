-- The fault of a document: it has one at most, which names a row as it should, and one that breaks no rule has none.
use Rattle.std.proofs.Common.{ℕ, List, Option, Some, None, MatchOption, inr}
use Rattle.std.specs.List.{All}
use Rattle.std.proofs.lemmas.List.Elements.{All-contains}
use Rattle.board_text.specs.PlainBoard.{PlainBoard, IsConfiguration}
use Rattle.positions.specs.Game.{Legal, moved}
use Rattle.positions.specs.Table.{AnswerRow, RequestRow}
use Rattle.positions.specs.declared.side.Side.{Side}
use Rattle.positions.specs.declared.side.Side.TheVariants.{Labeller, Adversary}
use Rattle.proof_text.specs.Proof.{PlainProof}
use Rattle.proof_text.specs.Rules.{BreaksNoRule, LabellerObeys, AdversaryObeys, MeetsRequest, MeetsRequests}
use Rattle.proof_text.specs.Rules.{MeetsAnswers, wanted_of}
use Rattle.proof_check.specs.Refusals.{Refusals, LabellerBreach, AdversaryBreach, IsWrongAnswer, IsWrongRequest}
use Rattle.proof_check.specs.Refusals.{StartServes, IsFirstFault}
use Rattle.proof_check.proofs.Steps.{IsStep, narrowed, first_turn, first_row}
use Rattle.proof_check.proofs.DocumentSteps.{request_step, answer_step, start_step, bound_step, document_step}

-- the faults of a row whose places are a configuration name it as they should
pub record AreNamed {F : Type 0} (refusals : Refusals F) (board : PlainBoard) (Names : F → Type 0) : Type 0 where
  pub missing : (side : Side) → Names (refusals.start_missing side)
  pub number : (side : Side) → Names (refusals.start_number side)
  pub illegal : (at : List ℕ) (pebble : ℕ) → IsConfiguration board at → Names (refusals.illegal_answer at pebble)
  pub unlisted : (side : Side) (at : List ℕ) (turn : ℕ) → IsConfiguration board at
      → Names (refusals.unlisted side at turn)
  pub small : (at : List ℕ) (pebble : ℕ) → IsConfiguration board at → Names (refusals.too_small at pebble)
  pub stuck : (at : List ℕ) (label : ℕ) → IsConfiguration board at → Names (refusals.not_stuck at label)
  pub large : (at : List ℕ) (label : ℕ) → IsConfiguration board at → Names (refusals.too_large at label)

-- the places of each row are a configuration
pub record HasPlaces (board : PlainBoard) (proof : PlainProof) : Type 0 where
  pub labeller : All (λ (row : AnswerRow). IsConfiguration board row.at) proof.labeller
  pub adversary : All (λ (row : RequestRow). IsConfiguration board row.at) proof.adversary

module _ {F : Type 0} (refusals : Refusals F) (board : PlainBoard) {Names : F → Type 0}
    (named : AreNamed refusals board Names) where
  -- ---- rows

  labeller_row : {Ready : Type 0} (rows : List AnswerRow) (row : AnswerRow) → (Ready → IsConfiguration board row.at)
      → IsStep Names Ready (MeetsRequests refusals.positions board rows row) (IsWrongAnswer refusals board rows row)
  labeller_row rows row is = first_turn (λ pebble below.
      request_step rows row.answers row.turns pebble (Legal board row.at pebble)
      (λ label. refusals.positions.normal (moved row.at pebble label))
      (refusals.illegal_answer row.at pebble) (refusals.unlisted Labeller row.at pebble)
      (refusals.too_small row.at pebble)
      (λ (meets : MeetsRequest refusals.positions board rows row pebble).
      (meets.label, meets.answer, meets.legal, meets.serves))
      (λ ready. named.illegal row.at pebble (is ready)) (λ ready. named.unlisted Labeller row.at pebble (is ready))
      (λ ready. named.small row.at pebble (is ready)))

  adversary_row : {Ready : Type 0} (rows : List RequestRow) (row : RequestRow) → (Ready → IsConfiguration board row.at)
      → IsStep Names Ready (MeetsAnswers refusals.positions board rows row) (IsWrongRequest refusals board rows row)
  adversary_row rows row is =
      narrowed (λ meets label legal. meets.each label) (λ fault w. w) (first_turn (λ label legal.
      answer_step rows row.left (refusals.positions.normal (moved row.at (refusals.positions.asked row) label))
      (refusals.not_stuck row.at label) (refusals.unlisted Adversary row.at label)
      (refusals.too_large row.at label) legal
      (λ ready. named.stuck row.at label (is ready)) (λ ready. named.unlisted Adversary row.at label (is ready))
      (λ ready. named.large row.at label (is ready))))

  -- ---- the document

  module _ (proof : PlainProof) where
    abbrev start : List ℕ
    start = refusals.positions.normal board.start

    abbrev Step : Type 0 → (F → Type 0) → Type 0
    Step = IsStep Names (HasPlaces board proof)

    labeller_step : Step (LabellerObeys refusals.positions board proof.labeller)
        (LabellerBreach refusals board proof.labeller)
    labeller_step = first_row proof.labeller (λ row among. labeller_row proof.labeller row (λ places.
        All-contains (λ (r : AnswerRow). IsConfiguration board r.at) proof.labeller row places.labeller among))

    adversary_step : Step (AdversaryObeys refusals.positions board proof.adversary)
        (AdversaryBreach refusals board proof.adversary)
    adversary_step = first_row proof.adversary (λ row among. adversary_row proof.adversary row (λ places.
        All-contains (λ (r : RequestRow). IsConfiguration board r.at) proof.adversary row places.adversary among))

    pub document : Step (BreaksNoRule refusals.positions board proof) (IsFirstFault refusals board proof)
    document =
        document_step (λ (starts : StartServes refusals.positions board proof). starts.labeller)
        (λ starts. starts.adversary)
        (λ (rules : BreaksNoRule refusals.positions board proof). rules.start_serves) (λ rules. rules.start_below)
        (λ rules. rules.labeller) (λ rules. rules.adversary)
        (start_step proof.labeller start (wanted_of proof.claim) (refusals.start_missing Labeller)
        (refusals.start_number Labeller) (λ _. named.missing Labeller) (λ _. named.number Labeller))
        (bound_step proof.adversary start proof.claim (refusals.start_missing Adversary)
        (refusals.start_number Adversary) (λ _. named.missing Adversary) (λ _. named.number Adversary))
        labeller_step adversary_step

-- if the start and the labeller's rows are right, a fault of the adversary's rows is the document's
pub by_adversary : {F : Type 0} (refusals : Refusals F) (board : PlainBoard) (proof : PlainProof) (found : Option F)
    → StartServes refusals.positions board proof → LabellerObeys refusals.positions board proof.labeller
    → MatchOption found (AdversaryObeys refusals.positions board proof.adversary)
    (AdversaryBreach refusals board proof.adversary)
    → MatchOption found (BreaksNoRule refusals.positions board proof) (IsFirstFault refusals board proof)
by_adversary refusals board proof None starts obeys is =
    record { start_serves = starts.labeller; start_below = starts.adversary; labeller = obeys; adversary = is }
by_adversary refusals board proof (Some fault) starts obeys is = inr (inr (inr (starts, obeys, is)))
