-- Documents of the code: what was read is a document, and what is printed is its text.
use Rattle.std.proofs.Common.{◌≡◌, ℕ, List, get_or, map, All, Result, Ok, Err, sym, subst, ◌∙◌, arith}
use Rattle.std.specs.Prelude.{IfOk}
use Rattle.std.proofs.lemmas.List.{length-map, get_or-map}
use Rattle.board_text.specs.PlainBoard.{PlainBoard, IsBoard, IsConfiguration}
use Rattle.positions.specs.Ranks.{configuration_at}
use Rattle.positions.specs.declared.claim.Claim.{Claim}
use Rattle.proof_text.specs.declared.class_proof.AdversaryClassRow.{AdversaryClassRow}
use Rattle.proof_text.specs.declared.class_proof.ClassProof.{ClassProof}
use Rattle.proof_text.specs.declared.class_proof.LabellerClassRow.{LabellerClassRow}
use Rattle.proof_text.specs.declared.fault.ProofKind.{ProofKind}
use Rattle.proof_text.specs.declared.fault.ProofKind.TheVariants as kinds
use Rattle.proof_text.specs.declared.proof.AdversaryRow.{AdversaryRow}
use Rattle.proof_text.specs.declared.proof.LabellerRow.{LabellerRow}
use Rattle.proof_text.specs.declared.proof.Proof.{Proof}
use Rattle.proof_text.specs.ClassProof.{IsClassPadded, class_answer_row, class_request_row, plain_class_proof}
use Rattle.proof_text.specs.Documents.{IsDocumentIn, IsDocument, IsClassDocument, IsProof, IsClassProof, text_of}
use Rattle.proof_text.specs.Proof.{Sections, PlainProof, IsPadded, answer_row, request_row, answer_rows, request_rows}
use Rattle.proof_text.specs.Proof.{plain_proof}
use Rattle.proof_text.specs.ProofFaults.{Reading, HasFaultOf, HasProofFault, HasClassTextFault}
use Rattle.proof_text.specs.ProofFaults.{read_by_configurations, read_by_classes}
use Rattle.proof_text.specs.ProofText.{proof_version_line, class_version_line, proof_text, class_text}
use Rattle.proof_text.specs.RowForm.{AreRows}
use Rattle.proof_text.specs.Versions.{by_configurations, by_classes, answers_by_configurations}
use Rattle.proof_text.specs.Versions.{requests_by_configurations, head_of}
use Rattle.proof_text.specs.Inside.Rows.{rows_read, labeller_reading, adversary_reading, class_labeller_reading}
use Rattle.proof_text.specs.Inside.Rows.{class_adversary_reading}
use Rattle.proof_text.proofs.OneDocument.{one_document, one_class_document, no_fault, no_class_text_fault}
use Rattle.proof_text.proofs.ShownRows.{proof_seen, whole_text_seen, fault_seen}

-- what holds of each shown row holds of each row
of_shown : {R X : Type 0} (IsRow : X → Type 0) (P : R → Type 0) (shown : R → X)
    → ((row : R) → IsRow (shown row) → P row)
    → (rows : List R) → All IsRow (map shown rows) → All P rows
of_shown IsRow P shown holds rows each = λ k d below.
    let row = get_or rows k d in
    holds row (subst IsRow (get_or-map shown rows k d (shown d) below)
    (each k (shown d) (omega (arith, length-map rows shown, below))))

-- a text that is printed, in other words
pub in_words : {T E : Type 0} (r : Result T E) (bytes : T → List ℕ) (x y : List ℕ) → x ≡ y → IfOk r (λ t. bytes t ≡ x)
    → IfOk r (λ t. bytes t ≡ y)
in_words (Ok t) bytes x y e h = h ∙ e
in_words (Err f) bytes x y e h = tt

module _ (board : PlainBoard) where
  -- ---- by configurations

  pub answers_of_board : (claim : Claim) (rows : List LabellerRow)
      → AreRows (answers_by_configurations board claim) (answer_rows board rows)
      → All (λ row. IsConfiguration board (configuration_at board row.at)) rows
  answers_of_board claim rows are =
      of_shown (answers_by_configurations board claim).IsRow
      (λ row. IsConfiguration board (configuration_at board row.at)) (answer_row board) (λ row is. is.at) rows are.each

  pub requests_of_board : (claim : Claim) (rows : List AdversaryRow)
      → AreRows (requests_by_configurations board claim) (request_rows board rows)
      → All (λ row. IsConfiguration board (configuration_at board row.at)) rows
  requests_of_board claim rows are =
      of_shown (requests_by_configurations board claim).IsRow
      (λ row. IsConfiguration board (configuration_at board row.at)) (request_row board) (λ row is. is.at) rows are.each

  abbrev Ranked : Reading LabellerRow AdversaryRow
  Ranked = rows_read (head_of proof_version_line) labeller_reading adversary_reading board

  abbrev sections : Proof → Sections LabellerRow AdversaryRow
  sections proof =
      record { claim = proof.claim; labeller = proof.labeller.items; adversary = proof.adversary.items }

  pub text_shown : (proof : Proof) → text_of Ranked.version (sections proof)
      ≡ proof_text board (plain_proof board proof)
  text_shown proof =
      whole_text_seen (by_configurations board) (answer_row board) (request_row board) (IsPadded board)
      (λ row. Unit {0}) (sections proof)

  pub document_read : (proof : Proof) (bytes : List ℕ)
      → IsDocumentIn Ranked.version (sections proof) × (bytes ≡ text_of Ranked.version (sections proof))
      → IsDocument board proof × (bytes ≡ proof_text board (plain_proof board proof))
  document_read proof bytes (is, e) = (
    record {
      is_proof = proof_seen (by_configurations board) (answer_row board) (request_row board) (IsPadded board)
          (λ row. Unit {0}) (sections proof) is;
      padded = λ k d inside. (is.labeller.each k d inside).1;
    },
    e ∙ text_shown proof,
  )

  pub fault_read : (bytes : List ℕ) (line : ℕ) (kind : ProofKind) → HasFaultOf Ranked bytes line kind
      → HasProofFault board bytes line kind
  fault_read bytes line kind =
      fault_seen (read_by_configurations board) (answer_row board) (request_row board) (IsPadded board)
      (λ row. Unit {0})
      bytes line kind

  pub only_read : (proof : Proof) (bytes : List ℕ) → IsBoard board
      → IsDocumentIn Ranked.version (sections proof) × (bytes ≡ text_of Ranked.version (sections proof))
      → (document : PlainProof) → IsProof board document → bytes ≡ proof_text board document
      → plain_proof board proof ≡ document
  only_read proof bytes is_board read document is e =
      let found = document_read proof bytes read in
      one_document board (plain_proof board proof) document is_board found.0.is_proof is (sym found.1 ∙ e)

  pub only_memory : (bytes : List ℕ) (line : ℕ) (kind : ProofKind) → IsBoard board → HasFaultOf Ranked bytes line kind
      → (document : PlainProof) → IsProof board document → bytes ≡ proof_text board document → kind ≡ kinds.Memory
  only_memory bytes line kind is_board fault document is e =
      no_fault board bytes line kind document is_board is e (fault_read bytes line kind fault)

  -- ---- by classes

  abbrev Arranged : Reading LabellerClassRow AdversaryClassRow
  Arranged = rows_read (head_of class_version_line) class_labeller_reading class_adversary_reading board

  abbrev pub class_sections : ClassProof → Sections LabellerClassRow AdversaryClassRow
  class_sections proof =
      record { claim = proof.claim; labeller = proof.labeller.items; adversary = proof.adversary.items }

  pub class_text_shown : (proof : ClassProof)
      → text_of Arranged.version (class_sections proof) ≡ class_text board (plain_class_proof board proof)
  class_text_shown proof =
      whole_text_seen (by_classes board) (class_answer_row board) (class_request_row board)
      (λ row. IsClassPadded board row.at × IsClassPadded board row.take) (λ row. IsClassPadded board row.at)
      (class_sections proof)

  pub class_document_read : (proof : ClassProof) (bytes : List ℕ)
      → IsDocumentIn Arranged.version (class_sections proof) × (bytes ≡ text_of Arranged.version (class_sections proof))
      → IsClassDocument board proof × (bytes ≡ class_text board (plain_class_proof board proof))
  class_document_read proof bytes (is, e) = (
    record {
      is_proof = proof_seen (by_classes board) (class_answer_row board) (class_request_row board)
          (λ row. IsClassPadded board row.at × IsClassPadded board row.take) (λ row. IsClassPadded board row.at)
          (class_sections proof) is;
      places_padded = λ k d inside. (is.labeller.each k d inside).1.0;
      answers_padded = λ k d inside. (is.labeller.each k d inside).1.1;
      asked_padded = λ k d inside. (is.adversary.each k d inside).1;
    },
    e ∙ class_text_shown proof,
  )

  pub class_fault_read : (bytes : List ℕ) (line : ℕ) (kind : ProofKind) → HasFaultOf Arranged bytes line kind
      → HasClassTextFault board bytes line kind
  class_fault_read bytes line kind =
      fault_seen (read_by_classes board) (class_answer_row board) (class_request_row board)
      (λ row. IsClassPadded board row.at × IsClassPadded board row.take) (λ row. IsClassPadded board row.at) bytes
      line kind

  pub only_class_read : (proof : ClassProof) (bytes : List ℕ) → IsBoard board
      → IsDocumentIn Arranged.version (class_sections proof) × (bytes ≡ text_of Arranged.version (class_sections proof))
      → (document : PlainProof) → IsClassProof board document → bytes ≡ class_text board document
      → plain_class_proof board proof ≡ document
  only_class_read proof bytes is_board read document is e =
      let found = class_document_read proof bytes read in
      one_class_document board (plain_class_proof board proof) document is_board found.0.is_proof is (sym found.1 ∙ e)

  pub only_class_memory : (bytes : List ℕ) (line : ℕ) (kind : ProofKind) → IsBoard board
      → HasFaultOf Arranged bytes line kind
      → (document : PlainProof) → IsClassProof board document → bytes ≡ class_text board document
      → kind ≡ kinds.Memory
  only_class_memory bytes line kind is_board fault document is e =
      no_class_text_fault board bytes line kind document is_board is e (class_fault_read bytes line kind fault)
