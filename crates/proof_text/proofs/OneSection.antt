-- A section has one reading, or one fault.
use Rattle.std.proofs.Common.{◌≡◌, ◌≢◌, ◌⊎◌, ℕ, ◌+◌, ◌<◌, ◌≤◌, Bool, true, false, true≢false, cond, List, [], ◌∷◌, ◌++◌}
use Rattle.std.proofs.Common.{length, get_or, All, refl, sym, ap, subst, ◌∙◌, append-nil, append_assoc, arith, inl, inr}
use Rattle.std.specs.List.{flat_map, AllByRecursion}
use Rattle.std.proofs.lemmas.Bool.{cases_order}
use Rattle.std.proofs.lemmas.List.{length-append, get_or_at}
use Rattle.std.proofs.lemmas.List.Elements.{recursion_from_All}
use Rattle.board_text.specs.LineForms.{Lacks, number_line}
use Rattle.board_text.specs.Ranges.{InRange}
use Rattle.board_text.proofs.Cited.{number_line_unique}
use Rattle.proof_text.specs.declared.fault.ProofKind.{ProofKind}
use Rattle.proof_text.specs.declared.fault.ProofKind.TheVariants as kinds
use Rattle.proof_text.specs.RowForm.{AreRows, text_of_section}
use Rattle.proof_text.specs.SectionFaults.{RowReading, InSection, MayFollow, RowFault, RowsCome}
use Rattle.proof_text.proofs.OneStep.{OneReading, IsOneStep, Step, one_step}
use Rattle.proof_text.proofs.OneRow.{RowLaws}

-- the rows that follow
record Follow {X : Type 0} (line : X → List ℕ) (rows all : List X) (rest y : List ℕ) : Type 0 where
  more : List X
  parts : all ≡ rows ++ more
  spelled : rest ≡ flat_map line more ++ y

rows_split : {X : Type 0} (IsRow : X → Type 0) (line : X → List ℕ) (ps qs : List X) (x y : List ℕ)
    → OneReading IsRow line
    → AllByRecursion IsRow ps → AllByRecursion IsRow qs → length ps ≤ length qs
    → flat_map line ps ++ x ≡ flat_map line qs ++ y
    → Follow line ps qs x y
rows_split {X} IsRow line [] qs x y one is_p is_q le e = record { more = qs; parts = refl; spelled = e }
rows_split {X} IsRow line (p ∷ ps) [] x y one is_p is_q le e = absurd (omega arith)
rows_split {X} IsRow line (p ∷ ps) (q ∷ qs) x y one is_p is_q le e =
    let s = one p q (flat_map line ps ++ x) (flat_map line qs ++ y) is_p.0 is_q.0
    (sym (append_assoc (line p) (flat_map line ps) x) ∙ e ∙ append_assoc (line q) (flat_map line qs) y) in
    let f = rows_split IsRow line ps qs x y one is_p.1 is_q.1 (omega arith) s.1 in
    record {
      more = f.more;
      parts = ap (λ (r : X). r ∷ qs) (sym s.0) ∙ ap (λ (rs : List X). p ∷ rs) f.parts;
      spelled = f.spelled;
    }

is_row : {X : Type 0} (IsRow : X → Type 0) (rows : List X) (m : X) (ms : List X) → All IsRow (rows ++ m ∷ ms) → IsRow m
is_row {X} IsRow rows m ms each =
    let h = each (length rows) m (omega (arith, length-append rows (m ∷ ms))) in
    rw (get_or_at rows m ms m (length rows) refl) at h

module _ {X : Type 0} (reading : RowReading X) where
  may_follow : (rows : List X) (m : X) (ms : List X) → AreRows reading.form (rows ++ m ∷ ms)
      → MayFollow reading.form rows (reading.form.at m)
  may_follow rows m ms are = record {
    in_order = is_row (λ (r : X). reading.form.AreInOrder (reading.form.at r)) rows m ms are.in_order;
    after = λ before last e.
        let whole : rows ++ m ∷ ms ≡ before ++ last ∷ (m ∷ ms) =
        ap (λ (ps : List X). ps ++ m ∷ ms) e ∙ append_assoc before (last ∷ []) (m ∷ ms) in
        let len : length rows ≡ length before + 1 = omega (arith, ap length e, length-append before (last ∷ [])) in
        let h = are.ascending (length before) (length rows) m (omega (arith, len))
        (omega (arith, length-append rows (m ∷ ms))) in
        let at_last = ap (λ (ps : List X). get_or ps (length before) m) whole
        ∙ get_or_at before last (m ∷ ms) m (length before) refl in
        rw (at_last, get_or_at rows m ms m (length rows) refl) at h;
  }

  -- the rows of a section up to a faulty one
  record FaultyRow (text : List ℕ) (head number : ℕ) (kind : ProofKind) : Type 0 where
    count : ℕ
    rows : List X
    rest : List ℕ
    come : RowsCome reading.form text count rows rest
    short : length rows < count
    number_is : number ≡ head + 1 + length rows
    fault : RowFault reading (MayFollow reading.form rows) rest kind

  abbrev section : List X → List ℕ
  section rows = number_line reading.form.word (length rows) ++ flat_map reading.form.line rows

  module _ {F : Type 0} (fault : ℕ → ProofKind → F) (text : List ℕ) where
    abbrev PartFault : ℕ → F → Type 0
    PartFault head found =
        (reading.form.asked ≡ true) × (number : ℕ) × (kind : ProofKind) × (kind ≢ kinds.Memory)
        × InSection reading text head number kind × (found ≡ fault number kind)

    abbrev PartStands : List X → List ℕ → Type 0
    PartStands rows more =
        AreRows reading.form rows × (reading.form.asked ≡ false → rows ≡ [])
        × (text ≡ text_of_section reading.form rows ++ more)

    -- The finding at a section: its fault, or the finding after its rows. A section that isn't asked for is left out.
    abbrev pub Part : ℕ → (List X → List ℕ → F → Type 0) → F → Type 0
    Part head After found = Step (PartFault head) PartStands After found

  module _ (laws : RowLaws reading) (text : List ℕ) where
    abbrev Come : ℕ → List X → List ℕ → Type 0
    Come count rows rest = RowsCome reading.form text count rows rest

    -- all rows of a section have come
    all_come : (rows : List X) (tail : List ℕ) → AreRows reading.form rows → text ≡ section rows ++ tail
        → Come (length rows) rows tail
    all_come rows tail are e = record {
      few = are.few;
      come = omega arith;
      are_rows = are;
      spelled = e ∙ append_assoc (number_line reading.form.word (length rows)) (flat_map reading.form.line rows) tail;
    }

    -- of two lists of rows that have come the shorter is a prefix of the other
    alike : (m n : ℕ) (ps qs : List X) (x y : List ℕ) → Come m ps x → Come n qs y
        → (m ≡ n) × (length ps ≤ length qs → Follow reading.form.line ps qs x y)
    alike m n ps qs x y p q =
        let s = number_line_unique reading.form.word m n (flat_map reading.form.line ps ++ x)
        (flat_map reading.form.line qs ++ y)
        (omega (arith, p.few, laws.few)) (omega (arith, q.few, laws.few))
        (sym p.spelled ∙ q.spelled) in (
          s.0,
          λ le. rows_split reading.form.IsRow reading.form.line ps qs x y laws.one
              (recursion_from_All reading.form.IsRow ps p.are_rows.each)
              (recursion_from_All reading.form.IsRow qs q.are_rows.each) le s.1,
        )

    same_rows : (m n : ℕ) (ps qs : List X) (x y : List ℕ) → Come m ps x → Come n qs y → length ps ≡ length qs
        → (ps ≡ qs) × (x ≡ y)
    same_rows m n ps qs x y p q same = go f.more f.parts f.spelled
      where
        f : Follow reading.form.line ps qs x y
        f = (alike m n ps qs x y p q).1 (omega (arith, same))

        go : (more : List X) → qs ≡ ps ++ more → x ≡ flat_map reading.form.line more ++ y → (ps ≡ qs) × (x ≡ y)
        go [] parts spelled = (sym (parts ∙ append-nil ps), spelled)
        go (r ∷ rs) parts spelled = absurd (omega (arith, ap length parts, length-append ps (r ∷ rs), same))

    -- no row comes after a faulty one
    no_more : (m n : ℕ) (ps qs : List X) (x y : List ℕ) (kind : ProofKind) → Come m ps x → Come n qs y
        → length ps < length qs
        → RowFault reading (MayFollow reading.form ps) x kind → ⊥
    no_more m n ps qs x y kind p q short faulty = go f.more f.parts f.spelled
      where
        f : Follow reading.form.line ps qs x y
        f = (alike m n ps qs x y p q).1 (omega (arith, short))

        go : (more : List X) → qs ≡ ps ++ more → x ≡ flat_map reading.form.line more ++ y → ⊥
        go [] parts spelled = omega (arith, ap length parts, length-append ps [], short)
        go (r ∷ rs) parts spelled =
            let are : AreRows reading.form (ps ++ r ∷ rs) = subst (λ (rows : List X). AreRows reading.form rows) parts
            q.are_rows in
            laws.sound (MayFollow reading.form ps) r x (flat_map reading.form.line rs ++ y) kind
            (is_row reading.form.IsRow ps r rs are.each)
            (may_follow ps r rs are)
            (spelled ∙ append_assoc (reading.form.line r) (flat_map reading.form.line rs) y) faulty

    same_section : (ps qs : List X) (x y : List ℕ) → AreRows reading.form ps → AreRows reading.form qs
        → text ≡ section ps ++ x
        → text ≡ section qs ++ y → (ps ≡ qs) × (x ≡ y)
    same_section ps qs x y are_p are_q e f =
        let p = all_come ps x are_p e in
        let q = all_come qs y are_q f in
        same_rows (length ps) (length qs) ps qs x y p q (alike (length ps) (length qs) ps qs x y p q).0

    module _ (head : ℕ) where
      abbrev Faulty : ℕ → ProofKind → Type 0
      Faulty number kind = FaultyRow text head number kind

      abbrev NoHead : ℕ → ProofKind → Type 0
      NoHead number kind =
          (kind ≡ kinds.Section) × (number ≡ head) × Lacks (InRange 0 reading.form.most) (number_line reading.form.word)
          text

      -- the fault of a section is in its head or in a row
      head_or_row : (number : ℕ) (kind : ProofKind) → kind ≢ kinds.Memory
          → InSection reading text head number kind
          → NoHead number kind ⊎ Faulty number kind
      head_or_row number kinds.Section not h = inl (refl, h.0, h.1)
      head_or_row number kinds.Memory not h = absurd (not refl)
      head_or_row number kind not h =
          inr (record { count = h.0; rows = h.1; rest = h.2; come = h.3; short = h.4; number_is = h.5; fault = h.6 })

      -- if rows have come, the head isn't at fault
      head_stands : (number count : ℕ) (kind : ProofKind) (rows : List X) (rest : List ℕ) → NoHead number kind
          → Come count rows rest → ⊥
      head_stands number count kind rows rest f come =
          f.2 count (flat_map reading.form.line rows ++ rest) (omega arith, come.few) come.spelled

      same_row : (m n : ℕ) (kind other : ProofKind) (a : Faulty m kind) (b : Faulty n other)
          → length a.rows ≡ length b.rows
          → (m ≡ n) × (kind ≡ other)
      same_row m n kind other a b same =
          let s = same_rows a.count b.count a.rows b.rows a.rest b.rest a.come b.come same in (
            omega (arith, a.number_is, b.number_is, same),
            laws.one_kind (MayFollow reading.form b.rows) b.rest kind other
                (subst (λ (rest : List ℕ). RowFault reading (MayFollow reading.form b.rows) rest kind) s.1
                (subst (λ (rows : List X). RowFault reading (MayFollow reading.form rows) a.rest kind) s.0 a.fault))
                b.fault,
          )

      one_fault : (m n : ℕ) (kind other : ProofKind) → NoHead m kind ⊎ Faulty m kind → NoHead n other ⊎ Faulty n other
          → (m ≡ n) × (kind ≡ other)
      one_fault m n kind other (inl f) (inl g) = (f.1 ∙ sym g.1, f.0 ∙ sym g.0)
      one_fault m n kind other (inl f) (inr b) = absurd (head_stands m b.count kind b.rows b.rest f b.come)
      one_fault m n kind other (inr a) (inl g) = absurd (head_stands n a.count other a.rows a.rest g a.come)
      one_fault m n kind other (inr a) (inr b) =
          elim (cases_order (length a.rows) (length b.rows)) [
            | inl same ↦ same_row m n kind other a b same
            | inr (inl before) ↦
                absurd (no_more a.count b.count a.rows b.rows a.rest b.rest kind a.come b.come before a.fault)
            | inr (inr after) ↦
                absurd (no_more b.count a.count b.rows a.rows b.rest a.rest other b.come a.come after b.fault)
          ]

      no_fault : (number : ℕ) (kind : ProofKind) (rows : List X) (tail : List ℕ) → Come (length rows) rows tail
          → NoHead number kind ⊎ Faulty number kind → ⊥
      no_fault number kind rows tail come (inl f) = head_stands number (length rows) kind rows tail f come
      no_fault number kind rows tail come (inr a) =
          let count = (alike a.count (length rows) a.rows rows a.rest tail a.come come).0 in
          no_more a.count (length rows) a.rows rows a.rest tail kind a.come come (omega (arith, count, a.short)) a.fault

      part_step : {F : Type 0} (fault : ℕ → ProofKind → F)
          → IsOneStep (PartFault fault text head) (PartStands fault text)
      part_step {F} fault = by_asked reading.form.asked refl
        where
          by_asked : (asked : Bool) → reading.form.asked ≡ asked
              → IsOneStep (PartFault fault text head) (PartStands fault text)
          by_asked true e = record {
            one = λ v w (is_asked, m, kind, not, f, e) (asked_too, n, other, not_too, g, e_too).
                let s = one_fault m n kind other (head_or_row m kind not f) (head_or_row n other not_too g) in
                e ∙ ap (λ (number : ℕ). fault number kind) s.0 ∙ ap (λ (k : ProofKind). fault n k) s.1 ∙ sym e_too;
            apart = λ v rows more (is_asked, number, kind, not, f, e_found) (are, none, spelled).
                no_fault number kind rows more (all_come rows more are
                (spelled ∙ ap (λ (b : Bool). cond b (section rows) [] ++ more) e)) (head_or_row number kind not f);
            same = λ ps qs x y (are_p, none_p, f) (are_q, none_q, g). same_section ps qs x y are_p are_q
                (f ∙ ap (λ (b : Bool). cond b (section ps) [] ++ x) e)
                (g ∙ ap (λ (b : Bool). cond b (section qs) [] ++ y) e);
          }
          by_asked false e = record {
            one = λ v w f g. absurd (true≢false (sym f.0 ∙ e));
            apart = λ v rows more f part. absurd (true≢false (sym f.0 ∙ e));
            same = λ ps qs x y p q. (
              p.1 e ∙ sym (q.1 e),
              sym (p.2 ∙ ap (λ (b : Bool). cond b (section ps) [] ++ x) e)
                  ∙ q.2 ∙ ap (λ (b : Bool). cond b (section qs) [] ++ y) e,
            );
          }

      pub one_part : {F : Type 0} (fault : ℕ → ProofKind → F) (After : List X → List ℕ → F → Type 0)
          → ((rows : List X) (more : List ℕ) (v w : F) → After rows more v → After rows more w → v ≡ w)
          → (v w : F) → Part fault text head After v → Part fault text head After w → v ≡ w
      one_part fault After one_after =
          one_step (part_step fault) After (λ rows more stands. one_after rows more)
