-- The document of a board over normal places has the form of documents.
use Rattle.std.proofs.Common.{◌≡◌, ℕ, ◌-◌, ◌<◌, ◌≤◌, List, [], ◌∷◌, length, get_or, ap, subst, sym, inl, inr, arith}
use Rattle.std.specs.List.{All}
use Rattle.std.proofs.lemmas.Bool.{cases_lt}
use Rattle.board_text.specs.PlainBoard.{PlainBoard, IsConfiguration, places}
use Rattle.positions.specs.declared.value.Value.{Value}
use Rattle.positions.specs.declared.value.Value.TheVariants.{Finite, Forever}
use Rattle.positions.specs.Game.{moved}
use Rattle.positions.specs.Value.{HasValue}
use Rattle.positions.specs.Claim.{claim_of}
use Rattle.positions.specs.Table.{AnswerRow, RequestRow}
use Rattle.positions.proofs.Cited.{moved_is_configuration}
use Rattle.proof_text.specs.declared.proof.TheConstants.{MAX_TURNS}
use Rattle.proof_text.specs.Proof.{PlainProof, IsClaim}
use Rattle.strategies.specs.DocumentMoves.{IsRequestMove, LeadsOver}
use Rattle.strategies.specs.Inside.Numbering.{by_order}
use Rattle.strategies.specs.PositionDocument.{AsksAdversary, IsAdversaryRowOver, IsDocumentOver}
use Rattle.strategies.proofs.ValueOrder.{at_least, less_than_finite}
use Rattle.classes.specs.Numbers.{class_count, ways}
use Rattle.classes.proofs.Cited.{ways-within}
use Rattle.proof_text.specs.Arranged.{arranged, document_number}
use Rattle.proof_text.specs.Positions.{Positions, normal_positions}
use Rattle.proof_text.specs.ClassProof.{IsClassRequestRow}
use Rattle.proof_text.specs.Documents.{IsClassProof}
use Rattle.proof_text.specs.RowForm.{AreRows}
use Rattle.proof_text.specs.Versions.{answers_by_classes, requests_by_classes}
use Rattle.proof_text.specs.declared.class_proof.TheConstants.{MAX_CLASS_ROWS}
use Rattle.proof_text.proofs.Cited.{asked_is}
use Rattle.strategies.specs.ClassDocument.{IsClassDocumentOf, FitsFormat}
use Rattle.strategies.specs.Inside.NormalForm.{IsNormalForm}
use Rattle.strategies.proofs.FewClasses.{IsArrangedAt, rows-few}
use Rattle.strategies.proofs.PositionLaws.{are_normal}
use Rattle.strategies.specs.Inside.NumberedPositions.{ArePositions}
use Rattle.strategies.proofs.FewValues.{few_values}
use Rattle.strategies.proofs.FormedRows.{answer_form, asked_at, no_adversary, no_labeller, row_at}
use Rattle.strategies.proofs.KeptRules.{start_is, start_value, answered_is, requested_is}
use Rattle.strategies.proofs.NormalForms.{arranged_form}
use Rattle.strategies.proofs.GatheredRows.{adversarys_normal, labellers_normal}

-- best requests don't raise the value
no_more : (board : PlainBoard) (normal : List ℕ → List ℕ) (form : IsNormalForm board normal) (from : List ℕ)
    (moves : List (ℕ × ℕ)) (to : List ℕ) (number after : ℕ)
    → IsConfiguration board from → HasValue board from (Finite number)
    → LeadsOver (normal_positions normal) (IsRequestMove board) from moves to → HasValue board to (Finite after)
    → after ≤ number
no_more board normal form from [] to number after is has leads other =
    at_least board after number to other.0 (subst (λ (c : List ℕ). HasValue board c (Finite number)) leads has)
no_more board normal form from ((pebble, label) ∷ moves) to number after is has leads other =
    let next : List ℕ = moved from pebble label in
    let is_next : IsConfiguration board next =
    moved_is_configuration board from pebble label leads.0.legal.is_label is in
    let less = less_than_finite board number next from has (leads.0.best.0.lowers label leads.0.legal) in
    let most : after ≤ less.0 = no_more board normal form (normal next) moves to less.0 after
    (form.is next is_next) (form.same_value next is_next (Finite less.0) less.2) leads.1 other in
    let below : less.0 < number = less.1 in omega arith

-- a board has no more gaps than classes
gaps_few : (board : PlainBoard) → IsConfiguration board board.start
    → ways (board.pebbles - 1) (places board) ≤ class_count board
gaps_few board is = elim (cases_lt 0 board.pebbles) [
  | inl some ↦
      let place : get_or board.start 0 0 < places board = is.each_place 0 0 (omega (arith, some, is.each_pebble)) in
      ways-within (board.pebbles - 1) board.pebbles (places board) (places board) (omega arith) (omega arith)
      (omega (arith, place))
  | inr none ↦
      let same : board.pebbles - 1 ≡ board.pebbles = omega (arith, none) in
      omega (arith, ap (λ pebbles. ways pebbles (places board)) same)
]

-- the claim of a finite value is in range, since the value is less than the number of gaps
claim_fits : (board : PlainBoard) (value : Value) → IsConfiguration board board.start
    → ways (board.pebbles - 1) (places board) ≤ MAX_TURNS → HasValue board board.start value
    → IsClaim (claim_of value)
claim_fits board (Finite number) is few has = omega (arith, few_values board board.start number is has, few)
claim_fits board Forever is few has = tt

pub few_gaps_claim : (positions : Positions) (board : PlainBoard) (proof : PlainProof)
    → IsConfiguration board board.start → IsDocumentOver positions (document_number board.labels) board proof
    → ways (board.pebbles - 1) (places board) ≤ MAX_TURNS → IsClaim proof.claim
few_gaps_claim positions board proof start is few =
    subst IsClaim (sym is.claim) (claim_fits board is.value start few is.has_value)

module _ (board : PlainBoard) (normal : List ℕ → List ℕ) (form : IsNormalForm board normal) (proof : PlainProof)
    (is_start : IsConfiguration board board.start)
    (is : IsDocumentOver (normal_positions normal) (document_number board.labels) board proof) where
  abbrev start : List ℕ
  start = normal board.start

  abbrev positions : Positions
  positions = normal_positions normal

  are : ArePositions board (normal_positions normal)
  are = are_normal board normal form

  has_start : HasValue board start is.value
  has_start = start_value board positions are (document_number board.labels)
      proof is_start is

  answers_placed : All (λ (row : AnswerRow). IsArrangedAt board row.at) proof.labeller
  answers_placed k d low =
      let is_row = row_at positions (document_number board.labels) board proof is k d low in record {
        is = answered_is board positions are (document_number board.labels)
            proof
            is_start is is_row.moves (get_or proof.labeller k d).at is_row.reached;
        arranged_is = labellers_normal board positions are (by_order board)
            is_start (λ c. arranged board.labels c ≡ c) form.placed is.value (get_or proof.labeller k d) is_row;
      }

  requests_placed : All (λ (row : RequestRow). IsArrangedAt board row.at) proof.adversary
  requests_placed k d low =
      let is_row = (asked_at positions (document_number board.labels) board proof is k d low).1 in record {
        is = requested_is board positions are (document_number board.labels)
            proof
            is_start is is_row.moves (get_or proof.adversary k d).at
            is_row.reached;
        arranged_is = adversarys_normal board positions are (by_order board)
            is_start (λ c. arranged board.labels c ≡ c) form.placed (get_or proof.adversary k d) is_row;
      }

  -- the document of a board of few classes fits, since its rows are at different classes
  pub few_fit : class_count board ≤ MAX_CLASS_ROWS → FitsFormat proof
  few_fit few = record {
    claim = few_gaps_claim positions board proof is_start is (omega (arith, gaps_few board is_start, few));
    labeller = omega (
      arith,
      few,
      rows-few board (λ (row : AnswerRow). row.at) proof.labeller answers_placed is.labeller.ascending,
    );
    adversary = omega (
      arith,
      few,
      rows-few board (λ (row : RequestRow). row.at) proof.adversary requests_placed is.adversary.ascending,
    );
  }

  module _ (fits : IsClaim proof.claim) where
    small : IsClaim (claim_of is.value)
    small = subst IsClaim is.claim fits

    left_few : (value : Value) → IsClaim (claim_of value) → HasValue board start value → AsksAdversary value
        → (row : RequestRow) → IsAdversaryRowOver positions board row → row.left ≤ MAX_TURNS
    left_few (Finite number) most has asks row is_row =
        let below : row.left ≤ number = no_more board normal form start is_row.moves row.at number row.left
        (start_is board positions are (document_number board.labels) proof
        is_start is) has is_row.reached is_row.has_value in
        omega (arith, most, below)
    left_few Forever most has asks row is_row = absurd asks

    request_form : (row : RequestRow) → AsksAdversary is.value → IsAdversaryRowOver positions board row
        → IsClassRequestRow board row
    request_form row asks is_row = record {
      at = requested_is board positions are (document_number board.labels) proof
          is_start is is_row.moves row.at is_row.reached;
      left = left_few is.value small has_start asks row is_row;
      request = asked_is row is_row.asks;
    }

    pub labeller_form : length proof.labeller ≤ MAX_CLASS_ROWS
        → AreRows (answers_by_classes board proof.claim) proof.labeller
    labeller_form few = record {
      few = few;
      each = λ k d low. answer_form board positions are (document_number board.labels) proof is_start is small
          (get_or proof.labeller k d) (row_at positions (document_number board.labels) board proof is k d low);
      in_order = λ k d low. (answers_placed k d low).arranged_is;
      ascending = is.labeller.ascending;
    }

    pub adversary_form : length proof.adversary ≤ MAX_CLASS_ROWS
        → AreRows (requests_by_classes board proof.claim) proof.adversary
    adversary_form few = record {
      few = few;
      each = λ k d low.
          let asked = asked_at positions (document_number board.labels) board proof is k d low in request_form (get_or
          proof.adversary k d) asked.0 asked.1;
      in_order = λ k d low. (requests_placed k d low).arranged_is;
      ascending = is.adversary.ascending;
    }

  pub has_form : FitsFormat proof → IsClassProof board proof
  has_form fits = record {
    claim = fits.claim;
    labeller = labeller_form fits.claim fits.labeller;
    adversary = adversary_form fits.claim fits.adversary;
    no_labeller = no_labeller positions (document_number board.labels) board proof is;
    no_adversary = no_adversary positions (document_number board.labels) board proof is;
  }

-- ---- by classes

pub few_classes_fit : (board : PlainBoard) (proof : PlainProof) → IsConfiguration board board.start
    → IsClassDocumentOf board proof → class_count board ≤ MAX_CLASS_ROWS → FitsFormat proof
few_classes_fit board = few_fit board (arranged board.labels) (arranged_form board)

pub has_class_form : (board : PlainBoard) (proof : PlainProof) → IsConfiguration board board.start
    → IsClassDocumentOf board proof → FitsFormat proof → IsClassProof board proof
has_class_form board = has_form board (arranged board.labels) (arranged_form board)
