-- A text is the text of one document at most, or has one fault.
use Rattle.std.proofs.Common.{◌≡◌, ◌≢◌, ◌⊎◌, ℕ, ◌+◌, List, [], ◌∷◌, ◌++◌, get_or, Result, Ok, Err, refl, sym, ap, ◌∙◌}
use Rattle.std.proofs.Common.{length, append-nil, append_assoc, arith, inl, inr}
use Rattle.std.specs.Prelude.{codes}
use Rattle.std.proofs.lemmas.List.{append_cancel_left}
use Rattle.board_text.specs.PlainBoard.{PlainBoard, IsBoard}
use Rattle.board_text.specs.BoardText.{end_line}
use Rattle.board_text.proofs.Cited.{number_line_unique}
use Rattle.positions.specs.declared.claim.Claim.{Claim}
use Rattle.positions.specs.declared.claim.Claim.TheVariants.{Exactly, AtLeast, AtMost, Forever}
use Rattle.proof_text.specs.declared.fault.ProofFault.{ProofFault}
use Rattle.proof_text.specs.declared.fault.ProofKind.{ProofKind}
use Rattle.proof_text.specs.declared.fault.ProofKind.TheVariants as kinds
use Rattle.proof_text.specs.Documents.{AreMaps, IsDocumentIn, IsProof, IsClassProof, IsSymmetryProof, text_before_end}
use Rattle.proof_text.specs.Documents.{text_of}
use Rattle.proof_text.specs.Proof.{Sections, PlainProof, IsClaim}
use Rattle.proof_text.specs.ProofFaults.{AdversaryFault, HasFaultOf, HasProofFault, HasClassTextFault, LabellerFault}
use Rattle.proof_text.specs.ProofFaults.{HasSymmetryTextFault, HasSymmetriesFault}
use Rattle.proof_text.specs.ProofFaults.{Reading, answers_read, requests_read, read_by_configurations, read_by_classes}
use Rattle.proof_text.specs.ProofFaults.{end_number, maps_read, read_by_symmetries}
use Rattle.proof_text.specs.ProofText.{claim_line, first_two_lines, proof_text, class_text, symmetry_text, maps_text}
use Rattle.proof_text.specs.ProofText.{symmetries_text, proof_version_line, class_version_line, symmetry_version_line}
use Rattle.proof_text.specs.RowForm.{text_of_section, lines_of_section}
use Rattle.proof_text.specs.SymmetryProof.{PlainSymmetryProof}
use Rattle.proof_text.specs.Versions.{Version, with_head}
use Rattle.proof_text.specs.Inside.Rows.{HeadFault}
use Rattle.proof_text.proofs.OneStep.{OneReading, Line, one_line}
use Rattle.proof_text.proofs.OneRow.{RowLaws, answer_laws, class_answer_laws, request_laws}
use Rattle.proof_text.proofs.OneClassRow.{class_request_laws}
use Rattle.proof_text.proofs.OneMap.{map_laws, map_rows}
use Rattle.proof_text.proofs.OneSection.{Part, one_part}

-- ---- single lines

-- a constant line has no condition
abbrev NoCondition : Unit {0} → Type 0
NoCondition u = Unit {0}

one_constant : (line : List ℕ) → OneReading NoCondition (λ u. line)
one_constant line u v x y p q e = (refl, append_cancel_left line x y e)

one_claim : OneReading IsClaim claim_line
one_claim (Exactly m) (Exactly n) x y p q e =
    let s = number_line_unique (codes "value") m n x y (omega (arith, p)) (omega (arith, q)) e in (ap Exactly s.0, s.1)
one_claim (AtLeast m) (AtLeast n) x y p q e =
    let s = number_line_unique (codes "least") m n x y (omega (arith, p)) (omega (arith, q)) e in (ap AtLeast s.0, s.1)
one_claim (AtMost m) (AtMost n) x y p q e =
    let s = number_line_unique (codes "most") m n x y (omega (arith, p)) (omega (arith, q)) e in (ap AtMost s.0, s.1)
one_claim Forever Forever x y p q e = (refl, append_cancel_left (claim_line Forever) x y e)
one_claim c d x y p q e =
    let heads : get_or (claim_line c ++ x) 0 0 ≡ get_or (claim_line d ++ y) 0 0 =
    ap (λ (text : List ℕ). get_or text 0 0) e in
    absurd (omega (arith, heads))

regroup : (a m b c d : List ℕ) → (a ++ (m ++ (b ++ c))) ++ d ≡ a ++ (m ++ (b ++ (c ++ d)))
regroup a m b c d = simp append_assoc

abbrev fault_at : ℕ → ProofKind → ProofFault
fault_at line kind = record { line = line; kind = kind }

-- ---- a finding: the reading of a text, a document or a fault

-- of each text one thing is found, its document if it is that of one, and its fault if it has one
record Findings {D : Type 0} (Read : List ℕ → Result D ProofFault → Type 0) (Is : D → Type 0) (text_is : D → List ℕ)
    (Has : List ℕ → ℕ → ProofKind → Type 0) : Type 0 where
  one : (text : List ℕ) (v w : Result D ProofFault) → Read text v → Read text w → v ≡ w
  document : (text : List ℕ) (proof : D) → Is proof → text ≡ text_is proof → Read text (Ok proof)
  fault : (text : List ℕ) (line : ℕ) (kind : ProofKind) → kind ≢ kinds.Memory → Has text line kind
      → Read text (Err (fault_at line kind))

module _ {D : Type 0} {Read : List ℕ → Result D ProofFault → Type 0} {Is : D → Type 0} {text_is : D → List ℕ}
    {Has : List ℕ → ℕ → ProofKind → Type 0} (found : Findings Read Is text_is Has) where
  one_text : (a b : D) → Is a → Is b → text_is a ≡ text_is b → a ≡ b
  one_text a b is_a is_b e =
      let text = text_is a in
      let same = found.one text (Ok a) (Ok b) (found.document text a is_a refl) (found.document text b is_b e) in cc

  one_fault_of : (text : List ℕ) (line other_line : ℕ) (kind other : ProofKind)
      → kind ≢ kinds.Memory → other ≢ kinds.Memory → Has text line kind → Has text other_line other
      → (line ≡ other_line) × (kind ≡ other)
  one_fault_of text line other_line kind other not not_too h g =
      let same = found.one text (Err (fault_at line kind)) (Err (fault_at other_line other))
      (found.fault text line kind not h) (found.fault text other_line other not_too g) in
      let one : fault_at line kind ≡ fault_at other_line other = cc in
      (ap (λ (f : ProofFault). f.line) one, ap (λ (f : ProofFault). f.kind) one)

  no_fault_of : (text : List ℕ) (line : ℕ) (kind : ProofKind) (b : D) → Is b
      → text ≡ text_is b → Has text line kind → kind ≡ kinds.Memory
  no_fault_of text line kinds.Memory b is e h = refl
  no_fault_of text line kind b is e h = absurd (not_both kind (λ e. absurd cc) h)
    where
      not_both : (kind : ProofKind) → kind ≢ kinds.Memory → Has text line kind → ⊥
      not_both kind not h =
          let same = found.one text (Ok b) (Err (fault_at line kind)) (found.document text b is e)
          (found.fault text line kind not h) in
          absurd cc

-- ---- the first two lines

module _ {D : Type 0} (line : List ℕ) (After : Claim → List ℕ → Result D ProofFault → Type 0) where
  abbrev AfterVersion : List ℕ → Result D ProofFault → Type 0
  AfterVersion text found = Line IsClaim claim_line text (Err (fault_at 2 kinds.Claim)) After found

  abbrev ReadAs : List ℕ → Result D ProofFault → Type 0
  ReadAs text found =
      Line NoCondition (λ u. line) text (Err (fault_at 1 kinds.Version)) (λ u more. AfterVersion more) found

  one_reading : ((claim : Claim) (text : List ℕ) (v w : Result D ProofFault) → After claim text v → After claim text w
      → v ≡ w)
      → (text : List ℕ) (v w : Result D ProofFault) → ReadAs text v → ReadAs text w → v ≡ w
  one_reading one_after text =
      one_line NoCondition (λ u. line) text (Err (fault_at 1 kinds.Version)) (λ u more. AfterVersion more)
      (one_constant line)
      (λ u rest yes. one_line IsClaim claim_line rest (Err (fault_at 2 kinds.Claim)) After one_claim
      (λ claim more is. one_after claim more))

  head_fault_read : (text : List ℕ) (number : ℕ) (kind : ProofKind) → HeadFault line text number kind
      → ReadAs text (Err (fault_at number kind))
  head_fault_read text number kinds.Version (e, lacks) =
      inl (lacks, ap (λ (n : ℕ). Err (fault_at n kinds.Version)) e)
  head_fault_read text number kinds.Claim (e, rest, stands, lacks) =
      inr (tt, rest, (tt, stands), inl (lacks, ap (λ (n : ℕ). Err (fault_at n kinds.Claim)) e))
  head_fault_read text number kind h = absurd h

  head_read : (text : List ℕ) (claim : Claim) (rest : List ℕ) (found : Result D ProofFault) → IsClaim claim
      → text ≡ first_two_lines line claim ++ rest → After claim rest found → ReadAs text found
  head_read text claim rest found is e after =
      inr (
        tt,
        claim_line claim ++ rest,
        (tt, e ∙ append_assoc line (claim_line claim) rest),
        inr (claim, rest, (is, refl), after),
      )

-- ---- the line `end`

-- what is found of a text whose last line has this number
module _ {D : Type 0} (last : ℕ) (whole : D) where
  abbrev Behind : List ℕ → Result D ProofFault → Type 0
  Behind [] found = found ≡ Ok whole
  Behind (first ∷ more) found = found ≡ Err (fault_at (1 + last) kinds.Trailing)

  abbrev AtEnd : List ℕ → Result D ProofFault → Type 0
  AtEnd text found =
      Line NoCondition (λ u. end_line) text (Err (fault_at last kinds.End)) (λ u more. Behind more) found

  one_behind : (text : List ℕ) (v w : Result D ProofFault) → Behind text v → Behind text w → v ≡ w
  one_behind [] v w e f = e ∙ sym f
  one_behind (first ∷ more) v w e f = e ∙ sym f

  one_at_end : (text : List ℕ) (v w : Result D ProofFault) → AtEnd text v → AtEnd text w → v ≡ w
  one_at_end text =
      one_line NoCondition (λ u. end_line) text (Err (fault_at last kinds.End)) (λ u more. Behind more)
      (one_constant end_line)
      (λ u more yes. one_behind more)

-- ---- the sections

-- each row is read in one way
record ReadingLaws {X Y : Type 0} (reading : Reading X Y) : Type 1 where
  answers : (claim : Claim) → RowLaws (answers_read reading claim)
  requests : (claim : Claim) → RowLaws (requests_read reading claim)

-- what is found of a text, if its sections are those of the document
module _ {X Y : Type 0} (reading : Reading X Y) {D : Type 0} (whole : Sections X Y → D) where
  abbrev version : Version X Y
  version = reading.version

  abbrev Finding : Type 0
  Finding = Result D ProofFault

  abbrev fault : ℕ → ProofKind → Finding
  fault line kind = Err (fault_at line kind)

  abbrev AfterFront : Sections X Y → List ℕ → Finding → Type 0
  AfterFront proof = AtEnd (end_number version proof) (whole proof)

  abbrev AfterLabeller : Claim → List X → List ℕ → Finding → Type 0
  AfterLabeller claim labeller text found =
      Part (requests_read reading claim) fault text
      (version.head.next + lines_of_section (version.answers claim) labeller)
      (λ adversary more. AfterFront (record { claim = claim; labeller = labeller; adversary = adversary }) more)
      found

  abbrev AfterHead : Claim → List ℕ → Finding → Type 0
  AfterHead claim text found =
      Part (answers_read reading claim) fault text version.head.next (AfterLabeller claim) found

  one_after_head : ReadingLaws reading → (claim : Claim) (text : List ℕ) (v w : Finding) → AfterHead claim text v
      → AfterHead claim text w → v ≡ w
  one_after_head laws claim text =
      one_part (answers_read reading claim) (laws.answers claim) text version.head.next fault (AfterLabeller claim)
      (λ labeller rest. one_part (requests_read reading claim) (laws.requests claim) rest
      (version.head.next + lines_of_section (version.answers claim) labeller)
      fault _ (λ adversary more. one_at_end _ _ more))

  -- what is found of a text with this head
  record FoundAfter (text : List ℕ) (found : Finding) : Type 0 where
    claim : Claim
    rest : List ℕ
    is_claim : IsClaim claim
    spelled : text ≡ with_head version.head claim rest
    after : AfterHead claim rest found

  front_found : (text : List ℕ) (proof : Sections X Y) (rest : List ℕ) (found : Finding) → IsDocumentIn version proof
      → text ≡ text_before_end version proof ++ rest → AfterFront proof rest found → FoundAfter text found
  front_found text proof rest found is e after =
      let labeller = text_of_section (version.answers proof.claim) proof.labeller in
      let adversary = text_of_section (version.requests proof.claim) proof.adversary in record {
        claim = proof.claim;
        rest = labeller ++ (adversary ++ rest);
        is_claim = is.claim;
        spelled = e ∙ regroup (first_two_lines version.head.line proof.claim) version.head.after_claim labeller
            adversary rest;
        after = inr (
          proof.labeller,
          adversary ++ rest,
          (is.labeller, is.no_labeller, refl),
          inr (proof.adversary, rest, (is.adversary, is.no_adversary, refl), after),
        );
      }

  section_fault_found : (text : List ℕ) (line : ℕ) (kind : ProofKind) → kind ≢ kinds.Memory
      → LabellerFault reading text line kind ⊎ AdversaryFault reading text line kind → FoundAfter text (fault line kind)
  section_fault_found text line kind not (inl f) = record {
    claim = f.claim;
    rest = f.rest;
    is_claim = f.is_claim;
    spelled = f.spelled;
    after = inl (f.asked, line, kind, not, f.fault, refl);
  }
  section_fault_found text line kind not (inr f) = record {
    claim = f.claim;
    rest = text_of_section (version.answers f.claim) f.labeller ++ f.rest;
    is_claim = f.is_claim;
    spelled = f.spelled;
    after = inr (
      f.labeller,
      f.rest,
      (f.are_rows, f.none, refl),
      inl (f.asked, line, kind, not, f.fault, refl),
    );
  }

  -- a fault is one of the head, or is found after it
  fault_found : (text : List ℕ) (line : ℕ) (kind : ProofKind) → kind ≢ kinds.Memory
      → HasFaultOf reading text line kind → HeadFault version.head.line text line kind ⊎ FoundAfter text (fault line
      kind)
  fault_found text line kinds.Version not h = inl h
  fault_found text line kinds.Claim not h = inl h
  fault_found text line kinds.End not (proof, rest, is, stands, e, lacks) =
      inr (front_found text proof rest _ is stands (inl (lacks, ap (λ (n : ℕ). fault n kinds.End) e)))
  fault_found text line kinds.Trailing not (proof, first, more, is, stands, e) =
      inr (front_found text proof (end_line ++ first ∷ more) _ is
      (stands ∙ append_assoc (text_before_end version proof) end_line (first ∷ more))
      (inr (tt, first ∷ more, (tt, refl), ap (λ (n : ℕ). fault n kinds.Trailing) e)))
  fault_found text line kinds.Memory not h = absurd (not refl)
  fault_found text line kind not h = inr (section_fault_found text line kind not h)

  document_found : (text : List ℕ) (proof : Sections X Y) → IsDocumentIn version proof → text ≡ text_of version proof
      → FoundAfter text (Ok (whole proof))
  document_found text proof is e =
      front_found text proof end_line (Ok (whole proof)) is e (inr (tt, [], (tt, sym (append-nil end_line)), refl))

-- ---- versions whose sections stand right after the claim

module _ {X Y : Type 0} (reading : Reading X Y) (bare : reading.version.head.after_claim ≡ [])
    (laws : ReadingLaws reading) where
  abbrev Rows : Claim → List ℕ → Result (Sections X Y) ProofFault → Type 0
  Rows = AfterHead reading (λ proof. proof)

  bare_read : (text : List ℕ) (found : Result (Sections X Y) ProofFault)
      → FoundAfter reading (λ proof. proof) text found → ReadAs reading.version.head.line Rows text found
  bare_read text found f =
      head_read reading.version.head.line Rows text f.claim f.rest found f.is_claim
      (f.spelled
      ∙ ap (λ (after : List ℕ). first_two_lines reading.version.head.line f.claim ++ (after ++ f.rest)) bare)
      f.after

  bare_findings : Findings (ReadAs reading.version.head.line Rows) (IsDocumentIn reading.version)
      (text_of reading.version) (HasFaultOf reading)
  bare_findings = record {
    one = one_reading reading.version.head.line Rows (one_after_head reading (λ proof. proof) laws);
    document = λ text proof is e. bare_read text (Ok proof) (document_found reading (λ proof. proof) text proof is e);
    fault = λ text line kind not h. elim (fault_found reading (λ proof. proof) text line kind not h) [
      | inl f ↦ head_fault_read reading.version.head.line Rows text line kind f
      | inr f ↦ bare_read text (Err (fault_at line kind)) f
    ];
  }

-- ---- the laws

found_by_configurations : (board : PlainBoard) → IsBoard board
    → Findings (ReadAs proof_version_line (AfterHead (read_by_configurations board) (λ proof. proof))) (IsProof board)
    (proof_text board) (HasProofFault board)
found_by_configurations board is =
    bare_findings (read_by_configurations board) refl
    (record { answers = λ claim. answer_laws board claim is; requests = request_laws board is })

class_laws : (board : PlainBoard) → IsBoard board → ReadingLaws (read_by_classes board)
class_laws board is =
    record { answers = λ claim. class_answer_laws board claim is; requests = class_request_laws board is }

found_by_classes : (board : PlainBoard) → IsBoard board
    → Findings (ReadAs class_version_line (AfterHead (read_by_classes board) (λ proof. proof))) (IsClassProof board)
    (class_text board) (HasClassTextFault board)
found_by_classes board is = bare_findings (read_by_classes board) refl (class_laws board is)

-- A text is that of one document.
pub one_document : (board : PlainBoard) (a b : PlainProof) → IsBoard board → IsProof board a → IsProof board b
    → proof_text board a ≡ proof_text board b → a ≡ b
one_document board a b is = one_text (found_by_configurations board is) a b

pub one_class_document : (board : PlainBoard) (a b : PlainProof) → IsBoard board → IsClassProof board a
    → IsClassProof board b
    → class_text board a ≡ class_text board b → a ≡ b
one_class_document board a b is = one_text (found_by_classes board is) a b

-- A text has one fault.
pub one_fault : (board : PlainBoard) (text : List ℕ) (line other_line : ℕ) (kind other : ProofKind) → IsBoard board
    → kind ≢ kinds.Memory → other ≢ kinds.Memory → HasProofFault board text line kind
    → HasProofFault board text other_line other
    → (line ≡ other_line) × (kind ≡ other)
one_fault board text line other_line kind other is =
    one_fault_of (found_by_configurations board is) text line other_line kind other

pub one_class_text_fault : (board : PlainBoard) (text : List ℕ) (line other_line : ℕ) (kind other : ProofKind)
    → IsBoard board
    → kind ≢ kinds.Memory → other ≢ kinds.Memory → HasClassTextFault board text line kind
    → HasClassTextFault board text other_line other
    → (line ≡ other_line) × (kind ≡ other)
one_class_text_fault board text line other_line kind other is =
    one_fault_of (found_by_classes board is) text line other_line kind other

-- In the text of a document no line has a fault.
pub no_fault : (board : PlainBoard) (text : List ℕ) (line : ℕ) (kind : ProofKind) (b : PlainProof) → IsBoard board
    → IsProof board b
    → text ≡ proof_text board b → HasProofFault board text line kind → kind ≡ kinds.Memory
no_fault board text line kind b is = no_fault_of (found_by_configurations board is) text line kind b

pub no_class_text_fault : (board : PlainBoard) (text : List ℕ) (line : ℕ) (kind : ProofKind) (b : PlainProof)
    → IsBoard board → IsClassProof board b
    → text ≡ class_text board b → HasClassTextFault board text line kind → kind ≡ kinds.Memory
no_class_text_fault board text line kind b is = no_fault_of (found_by_classes board is) text line kind b

-- ---- up to symmetries

module _ (board : PlainBoard) (is : IsBoard board) where
  abbrev with_maps : List (List ℕ) → PlainProof → PlainSymmetryProof
  with_maps maps rows = record { maps = maps; rows = rows }

  abbrev AfterMaps : Claim → List (List ℕ) → List ℕ → Result PlainSymmetryProof ProofFault → Type 0
  AfterMaps claim maps = AfterHead (read_by_symmetries board maps) (with_maps maps) claim

  abbrev AfterTwoLines : Claim → List ℕ → Result PlainSymmetryProof ProofFault → Type 0
  AfterTwoLines claim text found =
      Part (maps_read board) (λ line kind. Err (fault_at line kind)) text 3 (AfterMaps claim) found

  symmetry_laws : (maps : List (List ℕ)) → ReadingLaws (read_by_symmetries board maps)
  symmetry_laws maps =
      let laws = class_laws board is in record { answers = laws.answers; requests = laws.requests }

  maps_found : (maps : List (List ℕ)) (text : List ℕ) (found : Result PlainSymmetryProof ProofFault)
      → AreMaps board.labels maps → FoundAfter (read_by_symmetries board maps) (with_maps maps) text found
      → ReadAs symmetry_version_line AfterTwoLines text found
  maps_found maps text found are f =
      head_read symmetry_version_line AfterTwoLines text f.claim (maps_text board.labels maps ++ f.rest) found
      f.is_claim
      f.spelled
      (inr (maps, f.rest, (map_rows board maps are, λ not. absurd cc, refl), f.after))

  found_by_symmetries : Findings (ReadAs symmetry_version_line AfterTwoLines) (IsSymmetryProof board)
      (symmetry_text board) (HasSymmetryTextFault board)
  found_by_symmetries = record {
    one = one_reading symmetry_version_line AfterTwoLines
        (λ claim text. one_part (maps_read board) (map_laws board is) text 3 _ (AfterMaps claim)
        (λ maps more. one_after_head (read_by_symmetries board maps) (with_maps maps) (symmetry_laws maps) claim more));
    document = λ text proof are e. maps_found proof.maps text (Ok proof) are.maps
        (document_found (read_by_symmetries board proof.maps) (with_maps proof.maps) text proof.rows
        (record {
          claim = are.rows.claim;
          labeller = are.rows.labeller;
          adversary = are.rows.adversary;
          no_labeller = are.rows.no_labeller;
          no_adversary = are.rows.no_adversary;
        }) e);
    fault = λ text line kind not h. elim h [
      | inl f ↦ head_read symmetry_version_line AfterTwoLines text f.claim f.rest _ f.is_claim f.spelled
          (inl (refl, line, kind, not, f.fault, refl))
      | inr f ↦ elim (fault_found (read_by_symmetries board f.0) (with_maps f.0) text line kind not f.2) [
        | inl g ↦ head_fault_read symmetry_version_line AfterTwoLines text line kind g
        | inr g ↦ maps_found f.0 text (Err (fault_at line kind)) f.1 g
      ]
    ];
  }

pub one_symmetry_document : (board : PlainBoard) (a b : PlainSymmetryProof) → IsBoard board → IsSymmetryProof board a
    → IsSymmetryProof board b
    → symmetry_text board a ≡ symmetry_text board b → a ≡ b
one_symmetry_document board a b is = one_text (found_by_symmetries board is) a b

pub one_symmetry_text_fault : (board : PlainBoard) (text : List ℕ) (line other_line : ℕ) (kind other : ProofKind)
    → IsBoard board
    → kind ≢ kinds.Memory → other ≢ kinds.Memory → HasSymmetryTextFault board text line kind
    → HasSymmetryTextFault board text other_line other
    → (line ≡ other_line) × (kind ≡ other)
one_symmetry_text_fault board text line other_line kind other is =
    one_fault_of (found_by_symmetries board is) text line other_line kind other

pub no_symmetry_text_fault : (board : PlainBoard) (text : List ℕ) (line : ℕ) (kind : ProofKind) (b : PlainSymmetryProof)
    → IsBoard board → IsSymmetryProof board b
    → text ≡ symmetry_text board b → HasSymmetryTextFault board text line kind → kind ≡ kinds.Memory
no_symmetry_text_fault board text line kind b is = no_fault_of (found_by_symmetries board is) text line kind b

-- ---- symmetries by themselves

module _ (board : PlainBoard) (is : IsBoard board) where
  abbrev MapsAlone : List ℕ → Result (List (List ℕ)) ProofFault → Type 0
  MapsAlone text found =
      Part (maps_read board) (λ line kind. Err (fault_at line kind)) text 1 (λ maps. AtEnd (2 + length maps) maps) found

  -- what is found after these maps
  after_maps : (maps : List (List ℕ)) (text rest : List ℕ) (found : Result (List (List ℕ)) ProofFault)
      → AreMaps board.labels maps → text ≡ maps_text board.labels maps ++ rest → AtEnd (2 + length maps) maps rest found
      → MapsAlone text found
  after_maps maps text rest found are e after =
      inr (maps, rest, (map_rows board maps are, λ not. absurd cc, e), after)

  maps_fault_found : (text : List ℕ) (line : ℕ) (kind : ProofKind) → kind ≢ kinds.Memory
      → HasSymmetriesFault board text line kind → MapsAlone text (Err (fault_at line kind))
  maps_fault_found text line kinds.End not (maps, rest, are, stands, e, lacks) =
      after_maps maps text rest _ are stands (inl (lacks, ap (λ (n : ℕ). Err (fault_at n kinds.End)) e))
  maps_fault_found text line kinds.Trailing not (maps, first, more, are, stands, e) =
      let after : line ≡ 1 + (2 + length maps) = omega (arith, e) in
      after_maps maps text (end_line ++ first ∷ more) _ are
      (stands ∙ append_assoc (maps_text board.labels maps) end_line (first ∷ more))
      (inr (tt, first ∷ more, (tt, refl), ap (λ (n : ℕ). Err (fault_at n kinds.Trailing)) after))
  maps_fault_found text line kind not h = inl (refl, line, kind, not, h, refl)

  found_symmetries : Findings MapsAlone (AreMaps board.labels) (symmetries_text board.labels) (HasSymmetriesFault board)
  found_symmetries = record {
    one = λ text. one_part (maps_read board) (map_laws board is) text 1 _ (λ maps. AtEnd (2 + length maps) maps)
        (λ maps. one_at_end (2 + length maps) maps);
    document = λ text maps are e.
        after_maps maps text end_line (Ok maps) are e (inr (tt, [], (tt, sym (append-nil end_line)), refl));
    fault = maps_fault_found;
  }

pub one_symmetries : (board : PlainBoard) (a b : List (List ℕ)) → IsBoard board → AreMaps board.labels a
    → AreMaps board.labels b
    → symmetries_text board.labels a ≡ symmetries_text board.labels b → a ≡ b
one_symmetries board a b is = one_text (found_symmetries board is) a b

pub one_symmetries_fault : (board : PlainBoard) (text : List ℕ) (line other_line : ℕ) (kind other : ProofKind)
    → IsBoard board
    → kind ≢ kinds.Memory → other ≢ kinds.Memory → HasSymmetriesFault board text line kind
    → HasSymmetriesFault board text other_line other
    → (line ≡ other_line) × (kind ≡ other)
one_symmetries_fault board text line other_line kind other is =
    one_fault_of (found_symmetries board is) text line other_line kind other

pub no_symmetries_fault : (board : PlainBoard) (text : List ℕ) (line : ℕ) (kind : ProofKind) (b : List (List ℕ))
    → IsBoard board → AreMaps board.labels b
    → text ≡ symmetries_text board.labels b → HasSymmetriesFault board text line kind → kind ≡ kinds.Memory
no_symmetries_fault board text line kind b is = no_fault_of (found_symmetries board is) text line kind b
