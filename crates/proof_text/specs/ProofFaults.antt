-- The faults of a document's text, in the order of the format.
use Rattle.std.specs.Prelude.{◌≡◌, ℕ, ◌+◌, ◌⊎◌, true, false, List, [], ◌∷◌, ◌++◌, length}
use Rattle.board_text.specs.BoardText.{end_line}
use Rattle.board_text.specs.LineForms.{Lacks}
use Rattle.board_text.specs.PlainBoard.{PlainBoard}
use Rattle.positions.specs.Table.{AnswerRow, RequestRow}
use Rattle.positions.specs.declared.claim.Claim.{Claim}
use Rattle.proof_text.specs.declared.fault.ProofKind.{ProofKind}
use Rattle.proof_text.specs.declared.fault.ProofKind.TheVariants as kinds
use Rattle.proof_text.specs.Documents.{AreMaps, IsDocumentIn, text_before_end, text_of}
use Rattle.proof_text.specs.Proof.{Sections, IsClaim}
use Rattle.proof_text.specs.ProofText.{claim_line, first_two_lines, symmetry_version_line}
use Rattle.proof_text.specs.ProofText.{maps_text, symmetries_text}
use Rattle.proof_text.specs.RowFaults.{AnswerMisread, RequestMisread, ClassRequestMisread}
use Rattle.proof_text.specs.RowFaults.{MapMisread}
use Rattle.proof_text.specs.RowForm.{AreRows, text_of_section, lines_of_section}
use Rattle.proof_text.specs.SectionFaults.{RowReading, InSection}
use Rattle.proof_text.specs.Versions.{Version, by_configurations, by_classes, by_symmetries}
use Rattle.proof_text.specs.Versions.{maps_form, with_head}

-- a version, with the faults of the words of the rows of each side
pub record Reading (X Y : Type 0) : Type 1 where
  pub version : Version X Y
  pub answer_misread : Claim → List ℕ → ProofKind → Type 0
  pub request_misread : Claim → List ℕ → ProofKind → Type 0

-- the rows of each side in a document with the claim
abbrev pub answers_read : {X Y : Type 0} → Reading X Y → Claim → RowReading X
answers_read reading claim =
    record { form = reading.version.answers claim; Misread = reading.answer_misread claim }

abbrev pub requests_read : {X Y : Type 0} → Reading X Y → Claim → RowReading Y
requests_read reading claim =
    record { form = reading.version.requests claim; Misread = reading.request_misread claim }

-- documents by configurations
abbrev pub read_by_configurations : PlainBoard → Reading AnswerRow RequestRow
read_by_configurations board = record {
  version = by_configurations board;
  answer_misread = AnswerMisread board;
  request_misread = λ claim. RequestMisread board;
}

-- documents by classes
abbrev pub read_by_classes : PlainBoard → Reading AnswerRow RequestRow
read_by_classes board = record {
  version = by_classes board;
  answer_misread = AnswerMisread board;
  request_misread = λ claim. ClassRequestMisread board;
}

-- documents up to symmetries with these maps
abbrev pub read_by_symmetries : PlainBoard → List (List ℕ) → Reading AnswerRow RequestRow
read_by_symmetries board maps = record {
  version = by_symmetries board maps;
  answer_misread = AnswerMisread board;
  request_misread = λ claim. ClassRequestMisread board;
}

-- the maps of such documents
abbrev pub maps_read : PlainBoard → RowReading (List ℕ)
maps_read board = record { form = maps_form board; Misread = MapMisread board }

-- The labeller's section that the claim asks for has the fault.
pub record LabellerFault {X Y : Type 0} (reading : Reading X Y) (text : List ℕ) (line : ℕ)
    (kind : ProofKind) : Type 0 where
  pub claim : Claim
  pub rest : List ℕ
  pub is_claim : IsClaim claim
  pub asked : (reading.version.answers claim).asked ≡ true
  pub spelled : text ≡ with_head reading.version.head claim rest
  pub fault : InSection (answers_read reading claim) rest reading.version.head.next line kind

-- The adversary's section that the claim asks for has the fault, and the labeller's section, if
-- there is one, has none.
pub record AdversaryFault {X Y : Type 0} (reading : Reading X Y) (text : List ℕ) (line : ℕ)
    (kind : ProofKind) : Type 0 where
  pub claim : Claim
  pub labeller : List X
  pub rest : List ℕ
  pub is_claim : IsClaim claim
  pub asked : (reading.version.requests claim).asked ≡ true
  pub are_rows : AreRows (reading.version.answers claim) labeller
  pub none : (reading.version.answers claim).asked ≡ false → labeller ≡ []
  pub spelled : text ≡ with_head reading.version.head claim
      (text_of_section (reading.version.answers claim) labeller ++ rest)
  pub fault : InSection (requests_read reading claim) rest
      (reading.version.head.next + lines_of_section (reading.version.answers claim) labeller)
      line kind

-- the number of the line `end`
abbrev pub end_number : {X Y : Type 0} → Version X Y → Sections X Y → ℕ
end_number version proof =
    version.head.next + lines_of_section (version.answers proof.claim) proof.labeller
    + lines_of_section (version.requests proof.claim) proof.adversary

-- All lines before this one are faultless, and this one has
-- the fault and none before it in the order.
abbrev pub HasFaultOf : {X Y : Type 0} → Reading X Y → List ℕ → ℕ → ProofKind → Type 0
HasFaultOf reading text line kinds.Version =
    (line ≡ 1) × Lacks (λ (u : Unit {0}). Unit {0}) (λ u. reading.version.head.line) text
HasFaultOf reading text line kinds.Claim = (line ≡ 2) × (rest : List ℕ)
    × (text ≡ reading.version.head.line ++ rest) × Lacks IsClaim claim_line rest
HasFaultOf {X} {Y} reading text line kinds.End =
    (proof : Sections X Y) × (rest : List ℕ) × IsDocumentIn reading.version proof
    × (text ≡ text_before_end reading.version proof ++ rest)
    × (line ≡ end_number reading.version proof)
    × Lacks (λ (u : Unit {0}). Unit {0}) (λ u. end_line) rest
HasFaultOf {X} {Y} reading text line kinds.Trailing =
    (proof : Sections X Y) × (first : ℕ) × (more : List ℕ) × IsDocumentIn reading.version proof
    × (text ≡ text_of reading.version proof ++ first ∷ more)
    × (line ≡ 1 + end_number reading.version proof)
HasFaultOf reading text line kind =
    LabellerFault reading text line kind ⊎ AdversaryFault reading text line kind

-- the fault of a text of a document by configurations of the board
abbrev pub HasProofFault : PlainBoard → List ℕ → ℕ → ProofKind → Type 0
HasProofFault board text line kind = HasFaultOf (read_by_configurations board) text line kind

-- the fault of a text of a document by classes of the board
abbrev pub HasClassTextFault : PlainBoard → List ℕ → ℕ → ProofKind → Type 0
HasClassTextFault board text line kind = HasFaultOf (read_by_classes board) text line kind

-- The first two lines are faultless, and the maps have the fault.
pub record MapsFault (board : PlainBoard) (text : List ℕ) (line : ℕ) (kind : ProofKind)
    : Type 0 where
  pub claim : Claim
  pub rest : List ℕ
  pub is_claim : IsClaim claim
  pub spelled : text ≡ first_two_lines symmetry_version_line claim ++ rest
  pub fault : InSection (maps_read board) rest 3 line kind

-- the fault of a text of a document up to symmetries of the board's domain: of its maps, or of
-- another line of a text with some maps
abbrev pub HasSymmetryTextFault : PlainBoard → List ℕ → ℕ → ProofKind → Type 0
HasSymmetryTextFault board text line kind = MapsFault board text line kind
    ⊎ ((maps : List (List ℕ)) × AreMaps board.labels maps
    × HasFaultOf (read_by_symmetries board maps) text line kind)

-- the fault of a text of symmetries by themselves, which stand from line 1 on
abbrev pub HasSymmetriesFault : PlainBoard → List ℕ → ℕ → ProofKind → Type 0
HasSymmetriesFault board text line kinds.End =
    (maps : List (List ℕ)) × (rest : List ℕ) × AreMaps board.labels maps
    × (text ≡ maps_text board.labels maps ++ rest)
    × (line ≡ 2 + length maps)
    × Lacks (λ (u : Unit {0}). Unit {0}) (λ u. end_line) rest
HasSymmetriesFault board text line kinds.Trailing =
    (maps : List (List ℕ)) × (first : ℕ) × (more : List ℕ) × AreMaps board.labels maps
    × (text ≡ symmetries_text board.labels maps ++ first ∷ more)
    × (line ≡ 3 + length maps)
HasSymmetriesFault board text line kind = InSection (maps_read board) text 1 line kind
