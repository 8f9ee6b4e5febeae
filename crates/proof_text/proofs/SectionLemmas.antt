-- The rows of a section, one after the other.
use Rattle.std.proofs.Common.{◌≡◌, Bool, cond, true, false, true≢false, ℕ, suc, ◌+◌, ◌-◌, ◌<◌, ◌≤◌, List, [], ◌∷◌, ◌++◌}
use Rattle.std.proofs.Common.{length, get_or, take, AllPairs, refl, sym, ap, subst, ◌∙◌, arith, inl, inr, append_assoc}
use Rattle.std.specs.List.{flat_map}
use Rattle.std.specs.Prelude.{Ok}
use Rattle.std.proofs.lemmas.Bool.{cases_lt}
use Rattle.std.proofs.lemmas.List.{take_all, take_more, flat_map_more, length_push, get_or_at}
use Rattle.std.proofs.lemmas.List.Elements.{All-push, All-nil}
use Rattle.std.proofs.lemmas.List.Quantifiers.{all_pairs_push}
use Rattle.board_text.specs.LineForms.{number_line}
use Rattle.proof_text.specs.declared.fault.ProofKind.{ProofKind}
use Rattle.proof_text.specs.declared.fault.ProofKind.TheVariants as kinds
use Rattle.proof_text.specs.RowForm.{AreRows, next_number}
use Rattle.proof_text.specs.SectionFaults.{RowReading, MayFollow, RowsCome, RowFault, InSection}
use Rattle.proof_text.specs.Inside.Rows.{AreKindsOfRows, IsFrom, NextRow, PartRead}

last_is : {X : Type 0} (rows before : List X) (row last : X) → rows ++ row ∷ [] ≡ before ++ last ∷ [] → row ≡ last
last_is {X} rows before row last e =
    let same : length before ≡ length rows =
    omega (arith, ap length e, length_push rows row, length_push before last) in
    sym (get_or_at rows row [] row (length rows) refl) ∙ ap (λ (l : List X). get_or l (length rows) row) e
    ∙ get_or_at before last [] row (length rows) same

-- the number of a next row isn't below that of its row
not_below : (strict : Bool) (number : ℕ) → number ≤ cond strict (suc number) number
not_below true number = omega arith
not_below false number = omega arith

module _ {R : Type 0} (reading : RowReading R) where
  -- the places of one row may come before these places
  abbrev Before : List ℕ → List ℕ → Type 0
  Before first second = next_number reading.form (reading.form.number first) ≤ reading.form.number second

  -- places that may follow the last row come after those of all rows
  follows_all : (rows : List R) (places : List ℕ)
      → AllPairs (λ first second. Before (reading.form.at first) (reading.form.at second)) rows
      → MayFollow reading.form rows places
      → (k : ℕ) (d : R) → k < length rows → Before (reading.form.at (get_or rows k d)) places
  follows_all rows places ascending follows k d lt =
      let n = length rows - 1 in
      let ends : rows ≡ take n rows ++ get_or rows n d ∷ [] =
      sym (take_all (n + 1) rows (omega arith)) ∙ take_more rows n d (omega arith) in
      let last : Before (reading.form.at (get_or rows n d)) places = follows.after (take n rows) (get_or rows n d) ends
      in
      elim (cases_lt k n) [
        | inl before ↦ let earlier : Before (reading.form.at (get_or rows k d)) (reading.form.at (get_or rows n d)) =
            ascending k n d before (omega arith) in
            omega (
              arith,
              earlier,
              last,
              not_below reading.form.strict (reading.form.number (reading.form.at (get_or rows n d))),
            )
        | inr last_one ↦ let same : n ≡ k = omega arith in
            subst (λ (i : ℕ). Before (reading.form.at (get_or rows i d)) places) same last
      ]

  rows_push : (rows : List R) (row : R) → AreRows reading.form rows → reading.form.IsRow row
      → MayFollow reading.form rows (reading.form.at row)
      → length rows < reading.form.most → AreRows reading.form (rows ++ row ∷ [])
  rows_push rows row are is follows few = record {
    few = omega (arith, length_push rows row, few);
    each = All-push reading.form.IsRow rows row are.each is;
    in_order = All-push (λ (r : R). reading.form.AreInOrder (reading.form.at r)) rows row are.in_order follows.in_order;
    ascending = all_pairs_push (λ first second. Before (reading.form.at first) (reading.form.at second)) rows row
        are.ascending
        (follows_all rows (reading.form.at row) are.ascending follows);
  }

  -- places may follow the rows so far exactly if they are in order and their number is the least one or more
  abbrev pub FollowsFrom : List R → ℕ → Type 0
  FollowsFrom rows least = (places : List ℕ) → (MayFollow reading.form rows places → IsFrom reading.form least places)
      × (IsFrom reading.form least places → MayFollow reading.form rows places)

  from_push : (rows : List R) (row : R) (least : ℕ) → least ≡ next_number reading.form (reading.form.number
      (reading.form.at row))
      → FollowsFrom (rows ++ row ∷ []) least
  from_push rows row least e places = (
    λ follows. record {
      in_order = follows.in_order;
      above = let after : Before (reading.form.at row) places = follows.after rows row refl in omega (arith, e, after);
    },
    λ from. record {
      in_order = from.in_order;
      after = λ before last same. subst (λ (r : R). Before (reading.form.at r) places)
          (last_is rows before row last same)
          (let above : next_number reading.form (reading.form.number (reading.form.at row))
          ≤ reading.form.number places = omega (arith, e, from.above) in
          above);
    },
  )

  pub come_none : (text : List ℕ) (count : ℕ) (rest : List ℕ) → count ≤ reading.form.most
      → text ≡ number_line reading.form.word count ++ rest → RowsCome reading.form text count [] rest
  come_none text count rest few e = record {
    few = few;
    come = omega arith;
    are_rows = record {
      few = omega arith;
      each = All-nil reading.form.IsRow;
      in_order = All-nil (λ (r : R). reading.form.AreInOrder (reading.form.at r));
      ascending = λ i j d less below. absurd (omega arith);
    };
    spelled = e;
  }

  -- all rows
  pub part_read : (text : List ℕ) (count : ℕ) (rows : List R) (rest : List ℕ) → reading.form.asked ≡ true → count
      ≡ length rows
      → RowsCome reading.form text count rows rest → PartRead reading.form rows text rest
  part_read text count rows rest asked all come = record {
    are_rows = come.are_rows;
    none = λ not. absurd (true≢false (sym asked ∙ not));
    spelled = rw (asked, ← all) (come.spelled
        ∙ sym (append_assoc (number_line reading.form.word count) (flat_map reading.form.line rows) rest));
  }

  -- one more row
  pub row_push : (text : List ℕ) (count least next : ℕ) (rows new_rows : List R) (row : R) (rest new : List ℕ)
      → new_rows ≡ rows ++ row ∷ [] → RowsCome reading.form text count rows rest → length rows < count
      → FollowsFrom rows least → NextRow reading least next (Ok row) rest new
      → RowsCome reading.form text count new_rows new × FollowsFrom new_rows next
  row_push text count least next rows new_rows row rest new e come short from (is, may, after, few, spelled) =
      rw e (
        record {
          few = come.few;
          come = omega (arith, length_push rows row, short);
          are_rows = rows_push rows row come.are_rows is ((from (reading.form.at row)).1 may)
              (omega (arith, short, come.few));
          spelled = come.spelled ∙ ap (λ (t : List ℕ). number_line reading.form.word count ++ t)
              (ap (λ (t : List ℕ). flat_map reading.form.line rows ++ t) spelled
              ∙ sym (append_assoc (flat_map reading.form.line rows) (reading.form.line row) new)
              ∙ ap (λ (t : List ℕ). t ++ new) (flat_map_more reading.form.line [] rows row));
        },
        from_push rows row next after,
      )

  -- the fault of a row's line is one of its section
  pub line_fault_in : AreKindsOfRows reading
      → (text : List ℕ) (number line count least : ℕ) (rows : List R) (rest : List ℕ) (kind : ProofKind)
      → RowsCome reading.form text count rows rest → length rows < count → line ≡ number + 1 + length rows
      → FollowsFrom rows least
      → RowFault reading (IsFrom reading.form least) rest kind → InSection reading text number line kind
  line_fault_in are text number line count least rows rest kinds.Section come short e from h =
      absurd (are.no_section rest h)
  line_fault_in are text number line count least rows rest kinds.Memory come short e from h =
      absurd (are.no_memory rest h)
  line_fault_in are text number line count least rows rest kinds.Order come short e from (row, is, more, spelled, early)
      = (
        count,
        rows,
        rest,
        come,
        short,
        e,
        (row, is, more, spelled, λ follows. early ((from (reading.form.at row)).0 follows)),
      )
  line_fault_in are text number line count least rows rest kind come short e from h =
      (count, rows, rest, come, short, e, h)
