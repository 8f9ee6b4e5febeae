-- The claim and the rows of a document over positions are as the formats have them.
use Rattle.std.proofs.Common.{◌≡◌, ◌⊎◌, ℕ, ◌<◌, true, false, true≢false, List, [], ◌∷◌, length, get_or}
use Rattle.std.proofs.Common.{slice_index, refl, sym, ◌∙◌, subst, inl, inr, arith}
use Rattle.std.specs.List.{Contains}
use Rattle.std.proofs.lemmas.List.{get_or_default}
use Rattle.std.proofs.lemmas.List.Elements.{Contains-get_or}
use Rattle.board_text.specs.Ranges.{AreNumbers}
use Rattle.board_text.specs.PlainBoard.{PlainBoard, IsConfiguration}
use Rattle.positions.specs.declared.value.Value.{Value}
use Rattle.positions.specs.declared.value.Value.TheVariants.{Finite, Forever}
use Rattle.positions.specs.declared.claim.Claim.{Claim}
use Rattle.positions.specs.Value.{HasValue}
use Rattle.positions.specs.Claim.{claim_of}
use Rattle.positions.specs.Table.{AnswerRow, RequestRow}
use Rattle.positions.proofs.Cited.{same_value}
use Rattle.proof_text.specs.Positions.{Positions}
use Rattle.proof_text.specs.Proof.{AreTurns, IsAnswerRow, IsClaim, PlainProof, asks_adversary, asks_labeller}
use Rattle.strategies.specs.Best.{IsLess}
use Rattle.strategies.specs.DocumentMoves.{IsAnswerable, IsAnswerMove, LeadsOver}
use Rattle.strategies.specs.PositionDocument.{turns_of, AsksAdversary, IsLabellerRowOver, IsAdversaryRowOver}
use Rattle.strategies.specs.PositionDocument.{IsDocumentOver}
use Rattle.strategies.proofs.KeptRules.{answered_is, start_value}
use Rattle.strategies.specs.Inside.NumberedPositions.{ArePositions}

-- if best answers lead to places of value 1 or more, they lead from such
pub start_answerable : (board : PlainBoard) (positions : Positions) (from : List ℕ) (moves : List (ℕ × ℕ))
    (to : List ℕ) → LeadsOver positions (IsAnswerMove board) from moves to → IsAnswerable board to
    → IsAnswerable board from
start_answerable board positions from [] to leads some = subst (IsAnswerable board) (sym leads) some
start_answerable board positions from (move ∷ moves) to leads some = leads.0.answerable

turns_fit : (start : Value) → IsClaim (claim_of start) → IsLess (Finite 0) start → (value : Value)
    → IsLess (Finite 0) value → AreTurns (claim_of start) (turns_of start value)
turns_fit (Finite number) small some (Finite value) positive = (omega (arith, some, positive), omega (arith, small))
turns_fit (Finite number) small some Forever positive = (omega (arith, some), omega (arith, small))
turns_fit Forever small some value positive = tt

empty : (rows : List RequestRow) → ((row : RequestRow) → Contains rows row → ⊥) → rows ≡ []
empty [] none = refl
empty (row ∷ rows) none = absurd (none row (Contains-get_or (row ∷ rows) 0 row (omega arith)))

pub always_asked : (value : Value) → asks_labeller (claim_of value) ≡ true
always_asked (Finite number) = refl
always_asked Forever = refl

asked_or_none : (value : Value) (rows : List RequestRow)
    → ((row : RequestRow) → Contains rows row → AsksAdversary value)
    → (asks_adversary (claim_of value) ≡ true) ⊎ (rows ≡ [])
asked_or_none (Finite number) rows asks = inl refl
asked_or_none Forever rows asks = inr (empty rows asks)

module _ (positions : Positions) (number : List ℕ → ℕ) (board : PlainBoard) (proof : PlainProof)
    (is : IsDocumentOver positions number board proof) where
  pub labeller_asked : asks_labeller proof.claim ≡ true
  labeller_asked = subst (λ (claim : Claim). asks_labeller claim ≡ true) (sym is.claim) (always_asked is.value)

  pub adversary_asked : (asks_adversary proof.claim ≡ true) ⊎ (proof.adversary ≡ [])
  adversary_asked =
      subst (λ (claim : Claim). (asks_adversary claim ≡ true) ⊎ (proof.adversary ≡ [])) (sym is.claim)
      (asked_or_none is.value proof.adversary (λ row among. ((is.adversary.each row).0 among).0))

  -- rows that the claim doesn't ask for are none
  pub no_labeller : asks_labeller proof.claim ≡ false → proof.labeller ≡ []
  no_labeller none = absurd (true≢false (sym labeller_asked ∙ none))

  pub no_adversary : asks_adversary proof.claim ≡ false → proof.adversary ≡ []
  no_adversary none = elim adversary_asked [
    | inl asked ↦ absurd (true≢false (sym asked ∙ none))
    | inr empty ↦ empty
  ]

  pub row_at : (k : ℕ) (d : AnswerRow) → k < length proof.labeller
      → IsLabellerRowOver positions board is.value (get_or proof.labeller k d)
  row_at k d low = (is.labeller.each (get_or proof.labeller k d)).0 (Contains-get_or proof.labeller k d low)

  pub asked_at : (k : ℕ) (d : RequestRow) → k < length proof.adversary
      → AsksAdversary is.value × IsAdversaryRowOver positions board (get_or proof.adversary k d)
  asked_at k d low = (is.adversary.each (get_or proof.adversary k d)).0 (Contains-get_or proof.adversary k d low)

module _ (board : PlainBoard) (positions : Positions) (are : ArePositions board positions) (number : List ℕ → ℕ)
    (proof : PlainProof) (is_start : IsConfiguration board board.start)
    (is : IsDocumentOver positions number board proof) (small : IsClaim (claim_of is.value)) where
  abbrev start : List ℕ
  start = positions.normal board.start

  answers_are : (row : AnswerRow) → IsLabellerRowOver positions board is.value row
      → AreNumbers board.pebbles board.labels row.answers
  answers_are row is_row = (
    is_row.one_each,
    λ k d low.
        let label : slice_index row.answers k < board.labels =
        (is_row.best k (omega (arith, low, is_row.one_each))).0.legal.is_label in
        subst (λ n. n < board.labels) (get_or_default row.answers k 0 d low) label,
  )

  pub claim_form : IsClaim proof.claim
  claim_form = subst IsClaim (sym is.claim) small

  pub answer_form : (row : AnswerRow) → IsLabellerRowOver positions board is.value row
      → IsAnswerRow board proof.claim row
  answer_form row is_row =
      let first : IsAnswerable board start = start_answerable board positions start is_row.moves row.at is_row.reached
      (record { value = is_row.value; has_value = is_row.has_value; some = is_row.some }) in
      let has : HasValue board start is.value = start_value board positions are number proof is_start is in
      let some : IsLess (Finite 0) is.value =
      subst (IsLess (Finite 0)) (same_value board start first.value is.value first.has_value has) first.some in
      record {
        at = answered_is board positions are number proof is_start is is_row.moves row.at is_row.reached;
        turns = subst (λ (claim : Claim). AreTurns claim row.turns) (sym is.claim)
            (subst (AreTurns (claim_of is.value)) (sym is_row.turns)
            (turns_fit is.value small some is_row.value is_row.some));
        answers = answers_are row is_row;
      }
