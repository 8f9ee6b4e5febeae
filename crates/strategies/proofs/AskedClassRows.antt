-- Rows that were made if they are asked for are those of the document over normal places.
use Rattle.std.proofs.Common.{◌≡◌, ℕ, Bool, true, false, true≢false, List, [], get_or, map, Option, Some, None, refl}
use Rattle.std.proofs.Common.{sym, ap, ◌∙◌, subst}
use Rattle.std.specs.List.{All}
use Rattle.std.proofs.lemmas.List.Elements.{All-nil}
use Rattle.board_text.specs.PlainBoard.{PlainBoard, IsConfiguration}
use Rattle.positions.specs.Claim.{claim_of}
use Rattle.positions.specs.Table.{AnswerRow, RequestRow}
use Rattle.positions.specs.Value.{HasValue}
use Rattle.positions.specs.declared.claim.Claim.{Claim}
use Rattle.positions.specs.declared.side.Side.{Side as DocumentSide}
use Rattle.positions.specs.declared.side.Side.TheVariants.{Adversary, Labeller}
use Rattle.positions.specs.declared.value.Value.{Value}
use Rattle.positions.specs.declared.value.Value.TheVariants.{Finite, Forever}
use Rattle.positions.proofs.Cited.{same_value}
use Rattle.proof_text.specs.Arranged.{document_number}
use Rattle.proof_text.specs.ClassProof.{class_answer_rows, class_request_rows}
use Rattle.proof_text.specs.Positions.{normal_positions}
use Rattle.proof_text.specs.Proof.{PlainProof, asks_adversary, asks_labeller}
use Rattle.proof_text.specs.declared.class_proof.AdversaryClassRow.{AdversaryClassRow}
use Rattle.proof_text.specs.declared.class_proof.LabellerClassRow.{LabellerClassRow}
use Rattle.strategies.specs.Inside.LongSections.{IsDocumentOverFor}
use Rattle.strategies.specs.Inside.NormalForm.{IsNormalForm}
use Rattle.strategies.specs.Inside.ClassSide.{class_labeller_side, class_adversary_side, AreClassRowsIf}
use Rattle.strategies.specs.Inside.Numbering.{by_order}
use Rattle.strategies.specs.Inside.Side.{Side}
use Rattle.strategies.specs.PositionDocument.{AsksAdversary, IsLabellerRowOver, IsAdversaryRowOver, AreExactlyOver}
use Rattle.strategies.specs.PositionDocument.{IsDocumentOver}
use Rattle.strategies.specs.Sides.{HasStrategy, claim_for, document_for}
use Rattle.strategies.proofs.FormedRows.{always_asked, no_adversary}
use Rattle.strategies.proofs.OneList.{same_rows}
use Rattle.strategies.proofs.OneSide.{adversary_is, asks_finite, claim_is, labeller_is}
use Rattle.strategies.proofs.Numberings.{are_orders}
use Rattle.strategies.proofs.PositionLaws.{are_normal}
use Rattle.strategies.proofs.SomeDocument.{document_exists_over}

-- rows that aren't asked for are none
labeller_none : (side : Option DocumentSide) (value : Value) (document : PlainProof)
    → asks_labeller (claim_for side (claim_of value)) ≡ false → (document_for side document).labeller ≡ []
labeller_none None value document none = absurd (true≢false (sym (always_asked value) ∙ none))
labeller_none (Some Labeller) (Finite number) document none = absurd (true≢false none)
labeller_none (Some Labeller) Forever document none = absurd (true≢false none)
labeller_none (Some Adversary) value document none = refl

module _ (board : PlainBoard) (normal : List ℕ → List ℕ) (document : PlainProof)
    (is : IsDocumentOver (normal_positions normal) (document_number board.labels) board document) where
  adversary_none : (side : Option DocumentSide) (value : Value) → is.value ≡ value → HasStrategy side value
      → asks_adversary (claim_for side (claim_of value)) ≡ false → (document_for side document).adversary ≡ []
  adversary_none None value same strategy none =
      no_adversary (normal_positions normal) (document_number board.labels) board document is
      (ap asks_adversary (is.claim ∙ ap claim_of same) ∙ none)
  adversary_none (Some Labeller) value same strategy none = refl
  adversary_none (Some Adversary) (Finite number) same strategy none = absurd (true≢false none)
  adversary_none (Some Adversary) Forever same strategy none = absurd strategy

-- rows that are the same if they are asked for, and none if not
rows_if : {R X : Type 0} (board : PlainBoard) (side : Side R) (shown : R → X) (asked : Bool) (rows : List R)
    (others : List X) → AreClassRowsIf asked board side rows
    → (asked ≡ true → AreClassRowsIf true board side rows → map shown rows ≡ others)
    → (asked ≡ false → others ≡ []) → map shown rows ≡ others
rows_if board side shown true rows others are same none = same refl are
rows_if board side shown false rows others are same none = ap (map shown) are ∙ sym (none refl)

-- whether rows are asked for, said in two ways
pub if_asked : {R : Type 0} (board : PlainBoard) (side : Side R) (asked other : Bool) (rows : List R) → asked ≡ other
    → AreClassRowsIf asked board side rows → AreClassRowsIf other board side rows
if_asked {R} board side asked other rows same = subst (λ (b : Bool). AreClassRowsIf b board side rows) same

-- what is filled
pub filled_if : {R : Type 0} (board : PlainBoard) (side : Side R) (P : R → Type 0) (asked : Bool) (rows : List R)
    → ((row : R) → side.IsFilled row → P row) → AreClassRowsIf asked board side rows → All P rows
filled_if board side P true rows filled are k d inside = filled (get_or rows k d) (are.filled k d inside)
filled_if {R} board side P false rows filled are k d inside =
    subst (λ (rs : List R). All P rs) (sym are) (All-nil P) k d inside

module _ (board : PlainBoard) (normal : List ℕ → List ℕ) (form : IsNormalForm board normal)
    (is_start : IsConfiguration board board.start) (side : Option DocumentSide) (value : Value)
    (has : HasValue board board.start value) (strategy : HasStrategy side value) where
  abbrev document : PlainProof
  document = (document_exists_over board (normal_positions normal) (are_normal board normal form) (by_order board)
      (are_orders board) is_start).0

  abbrev is : IsDocumentOver (normal_positions normal) (document_number board.labels) board document
  is = (document_exists_over board (normal_positions normal) (are_normal board normal form) (by_order board)
      (are_orders board) is_start).1

  abbrev same : is.value ≡ value
  same = same_value board board.start is.value value is.has_value has

  abbrev claim : Claim
  claim = claim_for side (claim_of value)

  pub made_is : (labeller : List LabellerClassRow) (adversary : List AdversaryClassRow)
      → AreClassRowsIf (asks_labeller claim) board (class_labeller_side board normal value) labeller
      → AreClassRowsIf (asks_adversary claim) board (class_adversary_side board normal value) adversary
      → IsDocumentOverFor side board normal (record {
        claim = claim;
        labeller = class_answer_rows board labeller;
        adversary = class_request_rows board adversary;
      })
  made_is labeller adversary answers requests =
      let claims : (document_for side document).claim ≡ claim =
      claim_is side document ∙ ap (claim_for side) (is.claim ∙ ap claim_of same) in
      let labellers : class_answer_rows board labeller ≡ (document_for side document).labeller =
      rows_if board (class_labeller_side board normal value) _ (asks_labeller claim) labeller _ answers
      (λ asked are. same_rows (document_number board.labels) (IsLabellerRowOver (normal_positions normal) board value)
      (λ (row : AnswerRow). row.at) (class_answer_rows board labeller) document.labeller are.exactly
      (subst (λ (v : Value). AreExactlyOver (document_number board.labels)
      (IsLabellerRowOver (normal_positions normal) board v) (λ (row : AnswerRow). row.at) document.labeller) same
      is.labeller)
      ∙ sym (labeller_is side value document strategy asked))
      (labeller_none side value document) in
      let adversarys : class_request_rows board adversary ≡ (document_for side document).adversary =
      rows_if board (class_adversary_side board normal value) _ (asks_adversary claim) adversary _ requests
      (λ asked are. same_rows (document_number board.labels) (IsAdversaryRowOver (normal_positions normal) board)
      (λ (row : RequestRow). row.at)
      (class_request_rows board adversary) document.adversary are.exactly (all_asked asked)
      ∙ sym (adversary_is side value document strategy asked))
      (adversary_none board normal document is side value same strategy) in
      let made : ◌≡◌ {A = PlainProof} (record {
        claim = claim;
        labeller = class_answer_rows board labeller;
        adversary = class_request_rows board adversary;
      }) (document_for side document) = rw (sym claims, labellers, adversarys) refl in
      (document, is, made)
    where
      all_asked : asks_adversary claim ≡ true
          → AreExactlyOver (document_number board.labels) (IsAdversaryRowOver (normal_positions normal) board)
          (λ (row : RequestRow). row.at) document.adversary
      all_asked asked = record {
        each = λ row. (
          λ among. ((is.adversary.each row).0 among).1,
          λ is_row. (is.adversary.each row).1 (subst AsksAdversary (sym same) (asks_finite side value asked), is_row),
        );
        ascending = is.adversary.ascending;
      }
