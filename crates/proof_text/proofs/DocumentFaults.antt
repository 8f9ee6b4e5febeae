-- From the parts of a text to its fault.
use Rattle.std.proofs.Common.{◌≡◌, ◌⊎◌, ℕ, ◌+◌, Bool, cond, true, List, [], ◌∷◌, ◌++◌, refl, sym, subst}
use Rattle.std.proofs.Common.{append_assoc, ap, ◌∙◌, inl, inr}
use Rattle.board_text.specs.BoardText.{end_line}
use Rattle.positions.specs.declared.claim.Claim.{Claim}
use Rattle.proof_text.specs.declared.fault.ProofKind.{ProofKind}
use Rattle.proof_text.specs.declared.fault.ProofKind.TheVariants as kinds
use Rattle.proof_text.specs.Documents.{IsDocumentIn, text_before_end, text_of}
use Rattle.proof_text.specs.Proof.{Sections, IsClaim}
use Rattle.proof_text.specs.ProofFaults.{Reading, answers_read, requests_read, LabellerFault, AdversaryFault}
use Rattle.proof_text.specs.ProofFaults.{HasFaultOf, end_number}
use Rattle.proof_text.specs.ProofText.{claim_words, claim_line, first_two_lines}
use Rattle.proof_text.specs.RowForm.{text_of_section, lines_of_section}
use Rattle.proof_text.specs.SectionFaults.{InSection}
use Rattle.proof_text.specs.Versions.{Version, head_of}
use Rattle.proof_text.specs.Inside.Rows.{PartRead, AreKindsOfRows, EndFault, HeadFault, IsHeadRead}

-- the number of lines of a section
pub lines_are : {asked wanted : Bool} {count rows lines : ℕ} → asked ≡ wanted → count ≡ rows
    → lines ≡ cond asked (1 + count) 0 → lines ≡ cond wanted (1 + rows) 0
lines_are e n l = rw (← n, ← e) l

-- ---- the parts of a text that were read

regroup : (a m b c x : List ℕ) → a ++ (m ++ (b ++ (c ++ x))) ≡ (a ++ (m ++ (b ++ c))) ++ x
regroup a m b c x = simp append_assoc

-- the first two lines
pub two_lines_read : (line : List ℕ) (claim : Claim) (text a b : List ℕ) → text ≡ line ++ a → a ≡ claim_line claim ++ b
    → text ≡ first_two_lines line claim ++ b
two_lines_read line claim text a b e f = rw (e, f) (sym (append_assoc line (claim_line claim) b))

-- the head of a text whose sections stand right after its claim
pub bare_head : (line : List ℕ) (claim : Claim) (text rest : List ℕ)
    → IsClaim claim × (text ≡ first_two_lines line claim ++ rest) → IsHeadRead (head_of line) claim text rest
bare_head line claim text rest (is, e) = record { is_claim = is; spelled = e }

-- the faults of words are of kinds of rows, in both sections
pub record AreKinds {X Y : Type 0} (reading : Reading X Y) : Type 0 where
  pub answers : (claim : Claim) → AreKindsOfRows (answers_read reading claim)
  pub requests : (claim : Claim) → AreKindsOfRows (requests_read reading claim)

module _ {X Y : Type 0} (reading : Reading X Y) where
  abbrev version : Version X Y
  version = reading.version

  -- all lines before the last
  pub record FrontRead (proof : Sections X Y) (text rest : List ℕ) : Type 0 where
    pub is_proof : IsDocumentIn version proof
    pub spelled : text ≡ text_before_end version proof ++ rest

  -- a fault of the head is one of the text
  pub has_head_fault : (text : List ℕ) (line : ℕ) (kind : ProofKind) → HeadFault version.head.line text line kind
      → HasFaultOf reading text line kind
  has_head_fault text line kinds.Version h = h
  has_head_fault text line kinds.Claim h = h
  has_head_fault text line kind h = absurd h

  module _ (are : AreKinds reading) where
    has_part_fault : (text : List ℕ) (line : ℕ) (kind : ProofKind)
        → LabellerFault reading text line kind ⊎ AdversaryFault reading text line kind
        → HasFaultOf reading text line kind
    has_part_fault text line kinds.Version f = absurd (elim f [
      | inl l ↦ (are.answers l.claim).no_version l.fault.2 l.fault.6
      | inr a ↦ (are.requests a.claim).no_version a.fault.2 a.fault.6
    ])
    has_part_fault text line kinds.Claim f = absurd (elim f [
      | inl l ↦ (are.answers l.claim).no_claim l.fault.2 l.fault.6
      | inr a ↦ (are.requests a.claim).no_claim a.fault.2 a.fault.6
    ])
    has_part_fault text line kinds.End f = absurd (elim f [
      | inl l ↦ (are.answers l.claim).no_end l.fault.2 l.fault.6
      | inr a ↦ (are.requests a.claim).no_end a.fault.2 a.fault.6
    ])
    has_part_fault text line kinds.Trailing f = absurd (elim f [
      | inl l ↦ (are.answers l.claim).no_trailing l.fault.2 l.fault.6
      | inr a ↦ (are.requests a.claim).no_trailing a.fault.2 a.fault.6
    ])
    has_part_fault text line kind f = f

    module _ {claim : Claim} {text a : List ℕ} (start : IsHeadRead version.head claim text a) where
      pub labeller_fault : (next line : ℕ) (kind : ProofKind) → version.head.next ≡ next
          → ((version.answers claim).asked ≡ true) × InSection (answers_read reading claim) a next line kind
          → HasFaultOf reading text line kind
      labeller_fault next line kind first (asked, fault) =
          has_part_fault text line kind (inl (record {
            claim = claim;
            rest = a;
            is_claim = start.is_claim;
            asked = asked;
            spelled = start.spelled;
            fault = subst (λ (n : ℕ). InSection (answers_read reading claim) a n line kind) (sym first) fault;
          }))

      pub adversary_fault : {labeller : List X} {b : List ℕ} (part : PartRead (version.answers claim) labeller a b)
          (after line : ℕ) (kind : ProofKind)
          → version.head.next + lines_of_section (version.answers claim) labeller ≡ after
          → ((version.requests claim).asked ≡ true) × InSection (requests_read reading claim) b after line kind
          → HasFaultOf reading text line kind
      adversary_fault {labeller} {b} part after line kind same (asked, fault) =
          has_part_fault text line kind (inr (record {
            claim = claim;
            labeller = labeller;
            rest = b;
            is_claim = start.is_claim;
            asked = asked;
            are_rows = part.are_rows;
            none = part.none;
            spelled = rw (← part.spelled) start.spelled;
            fault = subst (λ (n : ℕ). InSection (requests_read reading claim) b n line kind) (sym same) fault;
          }))

  pub front_read : {claim : Claim} {text a b d : List ℕ} {labeller : List X} {adversary : List Y}
      → IsHeadRead version.head claim text a → PartRead (version.answers claim) labeller a b
      → PartRead (version.requests claim) adversary b d
      → FrontRead (record { claim = claim; labeller = labeller; adversary = adversary }) text d
  front_read {claim} {text} {a} {b} {d} {labeller} {adversary} start part other = record {
    is_proof = record {
      claim = start.is_claim;
      labeller = part.are_rows;
      adversary = other.are_rows;
      no_labeller = part.none;
      no_adversary = other.none;
    };
    spelled = rw (start.spelled, part.spelled, other.spelled)
        (regroup (first_two_lines version.head.line claim) version.head.after_claim
        (text_of_section (version.answers claim) labeller)
        (text_of_section (version.requests claim) adversary) d);
  }

  module _ {proof : Sections X Y} {text a : List ℕ} (read : FrontRead proof text a) where
    pub whole_text : a ≡ end_line → text ≡ text_of version proof
    whole_text taken = rw (read.spelled, taken) refl

    pub has_end_fault : (last line : ℕ) (kind : ProofKind) → EndFault last a line kind → last ≡ end_number version proof
        → HasFaultOf reading text line kind
    has_end_fault last line kinds.End (e, lacks) n = (proof, a, read.is_proof, read.spelled, e ∙ n, lacks)
    has_end_fault last line kinds.Trailing (e, first, more, taken) n = (
      proof,
      first,
      more,
      read.is_proof,
      rw (read.spelled, taken) (sym (append_assoc (text_before_end version proof) end_line (first ∷ more))),
      e ∙ ap (λ (number : ℕ). 1 + number) n,
    )
    has_end_fault last line kind h n = absurd h

-- bytes follow the last line
pub bytes_follow : (last number : ℕ) (text b : List ℕ) → text ≡ end_line ++ b → (b ≡ [] → ⊥) → number ≡ 1 + last
    → EndFault last text number kinds.Trailing
bytes_follow last number text [] taken some n = absurd (some refl)
bytes_follow last number text (first ∷ more) taken some n = (n, first, more, taken)

-- a text that is written part by part: its first two lines, and then the sections
pub first_printed : (line : List ℕ) (claim : Claim) (t0 t1 t2 t3 : List ℕ) → t0 ≡ [] → t1 ≡ t0 ++ line
    → t2 ≡ t1 ++ claim_words claim
    → t3 ≡ t2 ++ 10 ∷ [] → t3 ≡ first_two_lines line claim
first_printed line claim t0 t1 t2 t3 e0 e1 e2 e3 = rw (e3, e2, e1, e0) (simp append_assoc)

pub printed : (head labeller adversary t0 t1 t2 t3 : List ℕ) → t0 ≡ head → t1 ≡ t0 ++ labeller
    → t2 ≡ t1 ++ adversary → t3 ≡ t2 ++ end_line → t3 ≡ (head ++ (labeller ++ adversary)) ++ end_line
printed head labeller adversary t0 t1 t2 t3 e0 e1 e2 e3 = rw (e3, e2, e1, e0) (simp append_assoc)
