-- The rows of the code: which rows they show, and the results of writing and of reading them.
use Rattle.std.specs.Prelude.{◌≡◌, ℕ, ◌+◌, ◌≤◌, ◌^◌, ◌⊎◌, List, [], ◌∷◌, ◌++◌, false, Err, Ok}
use Rattle.std.specs.Prelude.{Result}
use Rattle.board_text.specs.BoardText.{end_line}
use Rattle.board_text.specs.LineForms.{Lacks}
use Rattle.board_text.specs.PlainBoard.{PlainBoard}
use Rattle.positions.specs.declared.claim.Claim.{Claim}
use Rattle.proof_text.specs.declared.fault.ProofKind.{ProofKind}
use Rattle.proof_text.specs.declared.fault.ProofKind.TheVariants as kinds
use Rattle.proof_text.specs.declared.class_proof.AdversaryClassRow.{AdversaryClassRow}
use Rattle.proof_text.specs.declared.class_proof.LabellerClassRow.{LabellerClassRow}
use Rattle.proof_text.specs.declared.parsing.Parts.{Parts}
use Rattle.proof_text.specs.declared.proof.AdversaryRow.{AdversaryRow}
use Rattle.proof_text.specs.declared.proof.LabellerRow.{LabellerRow}
use Rattle.proof_text.specs.declared.symmetry_proof.Images.{Images}
use Rattle.proof_text.specs.ClassProof.{IsClassPadded, class_answer_row, class_request_row}
use Rattle.proof_text.specs.Images.{HoldsImages, images_of}
use Rattle.proof_text.specs.Documents.{IsDocumentIn, text_of}
use Rattle.proof_text.specs.Proof.{Sections, IsClaim, IsAnswerRow, IsPadded, answer_row}
use Rattle.proof_text.specs.Proof.{request_row}
use Rattle.proof_text.specs.ProofText.{answer_line, claim_line}
use Rattle.proof_text.specs.ProofFaults.{Reading}
use Rattle.proof_text.specs.RowFaults.{AnswerMisread, RequestMisread, ClassRequestMisread}
use Rattle.proof_text.specs.RowFaults.{MapMisread}
use Rattle.proof_text.specs.RowForm.{RowForm, AreRows, next_number, text_of_section}
use Rattle.proof_text.specs.SectionFaults.{RowReading, RowFault}
use Rattle.proof_text.specs.Versions.{answers_by_configurations, answers_by_classes}
use Rattle.proof_text.specs.Versions.{requests_by_configurations, requests_by_classes}
use Rattle.proof_text.specs.Versions.{Head, maps_form, with_head}

-- the form of rows that show rows of this form, each with no more than what it shows
abbrev pub form_shown : {R X : Type 0} → RowForm X → (R → X) → (R → Type 0) → RowForm R
form_shown form shown IsPadded = record {
  word = form.word;
  asked = form.asked;
  most = form.most;
  IsRow = λ row. form.IsRow (shown row) × IsPadded row;
  at = λ row. form.at (shown row);
  AreInOrder = form.AreInOrder;
  number = form.number;
  strict = form.strict;
  line = λ row. form.line (shown row);
}

abbrev pub labeller_form : PlainBoard → Claim → RowForm LabellerRow
labeller_form board claim =
    form_shown (answers_by_configurations board claim) (answer_row board) (IsPadded board)

abbrev pub adversary_form : PlainBoard → Claim → RowForm AdversaryRow
adversary_form board claim =
    form_shown (requests_by_configurations board claim) (request_row board) (λ row. Unit {0})

abbrev pub class_labeller_form : PlainBoard → Claim → RowForm LabellerClassRow
class_labeller_form board claim =
    form_shown (answers_by_classes board claim) (class_answer_row board)
    (λ row. IsClassPadded board row.at × IsClassPadded board row.take)

abbrev pub class_adversary_form : PlainBoard → Claim → RowForm AdversaryClassRow
class_adversary_form board claim =
    form_shown (requests_by_classes board claim) (class_request_row board)
    (λ row. IsClassPadded board row.at)

abbrev pub held_maps_form : PlainBoard → RowForm Images
held_maps_form board =
    form_shown (maps_form board) (images_of board.labels) (HoldsImages board.labels)

-- these rows with the faults of their words
abbrev pub labeller_reading : PlainBoard → Claim → RowReading LabellerRow
labeller_reading board claim =
    record { form = labeller_form board claim; Misread = AnswerMisread board claim }

abbrev pub adversary_reading : PlainBoard → Claim → RowReading AdversaryRow
adversary_reading board claim =
    record { form = adversary_form board claim; Misread = RequestMisread board }

abbrev pub class_labeller_reading : PlainBoard → Claim → RowReading LabellerClassRow
class_labeller_reading board claim =
    record { form = class_labeller_form board claim; Misread = AnswerMisread board claim }

abbrev pub class_adversary_reading : PlainBoard → Claim → RowReading AdversaryClassRow
class_adversary_reading board claim =
    record { form = class_adversary_form board claim; Misread = ClassRequestMisread board }

abbrev pub held_maps_reading : PlainBoard → Claim → RowReading Images
held_maps_reading board claim = record { form = held_maps_form board; Misread = MapMisread board }

-- the faults of the words of a line are of kinds of rows
pub record AreKindsOfRows {R : Type 0} (reading : RowReading R) : Type 0 where
  pub no_version : (rest : List ℕ) → reading.Misread rest kinds.Version → ⊥
  pub no_claim : (rest : List ℕ) → reading.Misread rest kinds.Claim → ⊥
  pub no_section : (rest : List ℕ) → reading.Misread rest kinds.Section → ⊥
  pub no_end : (rest : List ℕ) → reading.Misread rest kinds.End → ⊥
  pub no_trailing : (rest : List ℕ) → reading.Misread rest kinds.Trailing → ⊥
  pub no_memory : (rest : List ℕ) → reading.Misread rest kinds.Memory → ⊥

-- the places are in order, and their number is not below this one
pub record IsFrom {R : Type 0} (form : RowForm R) (least : ℕ) (places : List ℕ) : Type 0 where
  pub in_order : form.AreInOrder places
  pub above : least ≤ form.number places

-- the least number of the first row, or of the row after some row
abbrev pub IsLeast : {R : Type 0} → RowForm R → ℕ → Type 0
IsLeast {R} form least =
    (least ≡ 0) ⊎ ((row : R) × (least ≡ next_number form (form.number (form.at row))))

-- The row of the next line, whose number must be at least `least`, or the line's fault. After a row
-- the least number is the next one.
abbrev pub NextRow : {R : Type 0} → RowReading R → ℕ → ℕ → Result R ProofKind → List ℕ → List ℕ
    → Type 0
NextRow reading least next (Ok row) old new =
    reading.form.IsRow row × IsFrom reading.form least (reading.form.at row)
    × (next ≡ next_number reading.form (reading.form.number (reading.form.at row)))
    × (next ≤ 2 ^ 63)
    × (old ≡ reading.form.line row ++ new)
NextRow reading least next (Err kind) old new =
    RowFault reading (IsFrom reading.form least) old kind

-- A labeller's row was taken, whatever the order of its places, or its words have this fault.
abbrev pub TakesAnswer : PlainBoard → Claim → Result LabellerClassRow ProofKind → List ℕ → List ℕ
    → Type 0
TakesAnswer board claim (Ok row) old new =
    IsAnswerRow board claim (class_answer_row board row)
    × (IsClassPadded board row.at × IsClassPadded board row.take)
    × (old ≡ answer_line board (class_answer_row board row) ++ new)
TakesAnswer board claim (Err kind) old new = AnswerMisread board claim old kind

-- A section was taken, or none if the document has none.
pub record PartRead {R : Type 0} (form : RowForm R) (rows : List R)
    (old new : List ℕ) : Type 0 where
  pub are_rows : AreRows form rows
  pub none : form.asked ≡ false → rows ≡ []
  pub spelled : old ≡ text_of_section form rows ++ new

-- the version of documents that have these rows
abbrev pub rows_read : {R S : Type 0} → Head → (PlainBoard → Claim → RowReading R)
    → (PlainBoard → Claim → RowReading S)
    → PlainBoard
    → Reading R S
rows_read head answers requests board = record {
  version = record {
    head = head;
    answers = λ claim. (answers board claim).form;
    requests = λ claim. (requests board claim).form;
  };
  answer_misread = λ claim. (answers board claim).Misread;
  request_misread = λ claim. (requests board claim).Misread;
}

-- The head of a text isn't this line and a claim.
abbrev pub HeadFault : List ℕ → List ℕ → ℕ → ProofKind → Type 0
HeadFault line text number kinds.Version =
    (number ≡ 1) × Lacks (λ (u : Unit {0}). Unit {0}) (λ u. line) text
HeadFault line text number kinds.Claim =
    (number ≡ 2) × (rest : List ℕ) × (text ≡ line ++ rest) × Lacks IsClaim claim_line rest
HeadFault line text number kind = ⊥

-- The line `end`, whose number is `last`, isn't here, or bytes follow it.
abbrev pub EndFault : ℕ → List ℕ → ℕ → ProofKind → Type 0
EndFault last text number kinds.End =
    (number ≡ last) × Lacks (λ (u : Unit {0}). Unit {0}) (λ u. end_line) text
EndFault last text number kinds.Trailing =
    (number ≡ 1 + last) × (first : ℕ) × (more : List ℕ) × (text ≡ end_line ++ first ∷ more)
EndFault last text number kind = ⊥

-- the claim and the rows that were read
abbrev pub sections_of : {R S : Type 0} → Parts R S → Sections R S
sections_of parts = record {
  claim = parts.claim;
  labeller = parts.labeller.items;
  adversary = parts.adversary.items;
}

-- a document of the version that is read, and the text is its own
abbrev pub IsTextOf : {R S : Type 0} → Reading R S → List ℕ → Sections R S → Type 0
IsTextOf reading text proof =
    IsDocumentIn reading.version proof × (text ≡ text_of reading.version proof)

-- The text has this head and claim, and the rest is left.
pub record IsHeadRead (head : Head) (claim : Claim) (text rest : List ℕ) : Type 0 where
  pub is_claim : IsClaim claim
  pub spelled : text ≡ with_head head claim rest
