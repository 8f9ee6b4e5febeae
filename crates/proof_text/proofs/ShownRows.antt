-- Rows of the code and the rows that they show: their sections, documents, texts and faults.
use Rattle.std.proofs.Common.{◌≡◌, ◌⊎◌, ℕ, ◌+◌, ◌<◌, cond, List, [], ◌∷◌, ◌++◌, length, map}
use Rattle.std.proofs.Common.{sym, ap, subst, ◌∙◌, arith, inl, inr}
use Rattle.std.specs.List.{flat_map}
use Rattle.std.proofs.lemmas.List.{get_or-map, map-append, length-map}
use Rattle.std.proofs.lemmas.List.Elements.{All-map}
use Rattle.std.proofs.lemmas.List.Folds.{flat_map-map}
use Rattle.board_text.specs.BoardText.{end_line}
use Rattle.board_text.specs.LineForms.{number_line}
use Rattle.proof_text.specs.declared.fault.ProofKind.{ProofKind}
use Rattle.proof_text.specs.declared.fault.ProofKind.TheVariants as kinds
use Rattle.proof_text.specs.Documents.{IsDocumentIn, text_before_end, text_of}
use Rattle.proof_text.specs.Proof.{Sections}
use Rattle.proof_text.specs.ProofFaults.{Reading, requests_read, LabellerFault, AdversaryFault, HasFaultOf, end_number}
use Rattle.proof_text.specs.RowForm.{RowForm, AreRows, text_of_section, lines_of_section}
use Rattle.proof_text.specs.SectionFaults.{MayFollow, RowsCome, RowFault, InSection}
use Rattle.proof_text.specs.Versions.{Version, with_head}
use Rattle.proof_text.specs.Inside.Rows.{form_shown}

some_of : {R : Type 0} (rows : List R) → 0 < length rows → R
some_of [] some = absurd (omega arith)
some_of (row ∷ rows) some = row

module _ {R X : Type 0} (form : RowForm X) (shown : R → X) (IsPadded : R → Type 0) where
  abbrev Shown : RowForm R
  Shown = form_shown form shown IsPadded

  pub rows_seen : (rows : List R) → AreRows Shown rows → AreRows form (map shown rows)
  rows_seen rows are = record {
    few = omega (arith, are.few, length-map rows shown);
    each = All-map form.IsRow shown rows (λ k d lt. (are.each k d lt).0);
    in_order = All-map (λ (x : X). form.AreInOrder (form.at x)) shown rows (λ k d lt. are.in_order k d lt);
    ascending = λ i j d less below.
        let inside : j < length rows = omega (arith, below, length-map rows shown) in
        let e = some_of rows (omega (arith, inside)) in
        rw (get_or-map shown rows i e d (omega (arith, less, inside)), get_or-map shown rows j e d inside)
        (are.ascending i j e less inside);
  }

  pub text_seen : (rows : List R) → text_of_section Shown rows ≡ text_of_section form (map shown rows)
  text_seen rows = ap (λ (text : List ℕ). cond form.asked text [])
      ((λ i. number_line form.word (sym (length-map rows shown) i) ++ flat_map (λ row. form.line (shown row)) rows)
      ∙ ap (λ (lines : List ℕ). number_line form.word (length (map shown rows)) ++ lines)
      (sym (flat_map-map form.line shown rows)))

  pub lines_seen : (rows : List R) → lines_of_section Shown rows ≡ lines_of_section form (map shown rows)
  lines_seen rows = ap (λ (n : ℕ). cond form.asked (1 + n) 0) (sym (length-map rows shown))

  come_seen : (text : List ℕ) (count : ℕ) (rows : List R) (rest : List ℕ) → RowsCome Shown text count rows rest
      → RowsCome form text count (map shown rows) rest
  come_seen text count rows rest come = record {
    few = come.few;
    come = omega (arith, come.come, length-map rows shown);
    are_rows = rows_seen rows come.are_rows;
    spelled = come.spelled ∙ ap (λ (lines : List ℕ). number_line form.word count ++ (lines ++ rest))
        (sym (flat_map-map form.line shown rows));
  }

  follows_seen : (rows : List R) (places : List ℕ) → MayFollow form (map shown rows) places
      → MayFollow Shown rows places
  follows_seen rows places follows = record {
    in_order = follows.in_order;
    after = λ before last e. follows.after (map shown before) (shown last)
        (ap (map shown) e ∙ map-append shown before (last ∷ []));
  }

  module _ (Misread : List ℕ → ProofKind → Type 0) where
    row_fault_seen : (rows : List R) (rest : List ℕ) (kind : ProofKind)
        → RowFault (record { form = Shown; Misread = Misread }) (MayFollow Shown rows) rest kind
        → RowFault (record { form = form; Misread = Misread }) (MayFollow form (map shown rows)) rest kind
    row_fault_seen rows rest kinds.Order (row, is, more, spelled, early) =
        (shown row, is.0, more, spelled, λ follows. early (follows_seen rows (form.at (shown row)) follows))
    row_fault_seen rows rest kind h = h

    -- the fault of a section of rows is the fault of the rows that they show
    pub section_fault_seen : (text : List ℕ) (number line : ℕ) (kind : ProofKind)
        → InSection (record { form = Shown; Misread = Misread }) text number line kind
        → InSection (record { form = form; Misread = Misread }) text number line kind
    section_fault_seen text number line kinds.Section h = h
    section_fault_seen text number line kinds.Memory h =
        (h.0, (h.1.0, map shown h.1.1, h.1.2, come_seen text h.1.0 h.1.1 h.1.2 h.1.3))
    section_fault_seen text number line kind h = (
      h.0,
      map shown h.1,
      h.2,
      come_seen text h.0 h.1 h.2 h.3,
      omega (arith, h.4, length-map h.1 shown),
      omega (arith, h.5, length-map h.1 shown),
      row_fault_seen h.1 h.2 kind h.6,
    )

-- ---- whole documents

module _ {R S X Y : Type 0} (version : Version X Y) (answer : R → X) (request : S → Y) (IsPadded : R → Type 0)
    (IsPaddedToo : S → Type 0) where
  abbrev ShownVersion : Version R S
  ShownVersion = record {
    head = version.head;
    answers = λ claim. form_shown (version.answers claim) answer IsPadded;
    requests = λ claim. form_shown (version.requests claim) request IsPaddedToo;
  }

  abbrev seen : Sections R S → Sections X Y
  seen proof = record {
    claim = proof.claim;
    labeller = map answer proof.labeller;
    adversary = map request proof.adversary;
  }

  pub proof_seen : (proof : Sections R S) → IsDocumentIn ShownVersion proof → IsDocumentIn version (seen proof)
  proof_seen proof is = record {
    claim = is.claim;
    labeller = rows_seen (version.answers proof.claim) answer IsPadded proof.labeller is.labeller;
    adversary = rows_seen (version.requests proof.claim) request IsPaddedToo proof.adversary is.adversary;
    no_labeller = λ not. ap (map answer) (is.no_labeller not);
    no_adversary = λ not. ap (map request) (is.no_adversary not);
  }

  before_end_seen : (proof : Sections R S) → text_before_end ShownVersion proof ≡ text_before_end version (seen proof)
  before_end_seen proof =
      λ i. with_head version.head proof.claim
      (text_seen (version.answers proof.claim) answer IsPadded proof.labeller i
      ++ text_seen (version.requests proof.claim) request IsPaddedToo proof.adversary i)

  pub whole_text_seen : (proof : Sections R S) → text_of ShownVersion proof ≡ text_of version (seen proof)
  whole_text_seen proof = ap (λ (text : List ℕ). text ++ end_line) (before_end_seen proof)

  end_seen : (proof : Sections R S) → end_number ShownVersion proof ≡ end_number version (seen proof)
  end_seen proof =
      λ i. version.head.next + lines_seen (version.answers proof.claim) answer IsPadded proof.labeller i
      + lines_seen (version.requests proof.claim) request IsPaddedToo proof.adversary i

module _ {R S X Y : Type 0} (reading : Reading X Y) (answer : R → X) (request : S → Y) (IsPadded : R → Type 0)
    (IsPaddedToo : S → Type 0) where
  abbrev version : Version X Y
  version = reading.version

  abbrev ShownReading : Reading R S
  ShownReading = record {
    version = ShownVersion version answer request IsPadded IsPaddedToo;
    answer_misread = reading.answer_misread;
    request_misread = reading.request_misread;
  }

  part_fault_seen : (text : List ℕ) (line : ℕ) (kind : ProofKind)
      → LabellerFault ShownReading text line kind ⊎ AdversaryFault ShownReading text line kind
      → LabellerFault reading text line kind ⊎ AdversaryFault reading text line kind
  part_fault_seen text line kind (inl f) = inl (record {
    claim = f.claim;
    rest = f.rest;
    is_claim = f.is_claim;
    asked = f.asked;
    spelled = f.spelled;
    fault = section_fault_seen (version.answers f.claim) answer IsPadded (reading.answer_misread f.claim) f.rest
        version.head.next line kind f.fault;
  })
  part_fault_seen text line kind (inr f) = inr (record {
    claim = f.claim;
    labeller = map answer f.labeller;
    rest = f.rest;
    is_claim = f.is_claim;
    asked = f.asked;
    are_rows = rows_seen (version.answers f.claim) answer IsPadded f.labeller f.are_rows;
    none = λ not. ap (map answer) (f.none not);
    spelled = f.spelled ∙ ap (λ (section : List ℕ). with_head version.head f.claim (section ++ f.rest))
        (text_seen (version.answers f.claim) answer IsPadded f.labeller);
    fault = subst (λ (n : ℕ). InSection (requests_read reading f.claim) f.rest (version.head.next + n) line kind)
        (lines_seen (version.answers f.claim) answer IsPadded f.labeller)
        (section_fault_seen (version.requests f.claim) request IsPaddedToo (reading.request_misread f.claim) f.rest
        (version.head.next + lines_of_section (ShownReading.version.answers f.claim) f.labeller) line kind f.fault);
  })

  -- the fault of a text of rows is the fault of a text of the rows that they show
  pub fault_seen : (text : List ℕ) (line : ℕ) (kind : ProofKind) → HasFaultOf ShownReading text line kind
      → HasFaultOf reading text line kind
  fault_seen text line kinds.Version h = h
  fault_seen text line kinds.Claim h = h
  fault_seen text line kinds.End (proof, rest, is, spelled, e, lacks) = (
    seen version answer request IsPadded IsPaddedToo proof,
    rest,
    proof_seen version answer request IsPadded IsPaddedToo proof is,
    spelled ∙ ap (λ (t : List ℕ). t ++ rest) (before_end_seen version answer request IsPadded IsPaddedToo proof),
    e ∙ end_seen version answer request IsPadded IsPaddedToo proof,
    lacks,
  )
  fault_seen text line kinds.Trailing (proof, first, more, is, spelled, e) = (
    seen version answer request IsPadded IsPaddedToo proof,
    first,
    more,
    proof_seen version answer request IsPadded IsPaddedToo proof is,
    spelled ∙ ap (λ (t : List ℕ). t ++ first ∷ more)
        (whole_text_seen version answer request IsPadded IsPaddedToo proof),
    e ∙ ap (λ (n : ℕ). 1 + n) (end_seen version answer request IsPadded IsPaddedToo proof),
  )
  fault_seen text line kind h = part_fault_seen text line kind h
