-- The rows of a document by classes, ready to be checked, and the row that is found.
use Rattle.std.proofs.Common.{◌≡◌, ◌⊎◌, ℕ, suc, ◌<◌, List, AllPairs, map, take, get_or}
use Rattle.std.proofs.Common.{Option, Some, None, MatchOption, refl, sym, ap, ◌∙◌, subst, arith, inl, inr}
use Rattle.std.specs.List.{All}
use Rattle.std.proofs.lemmas.List.{length-map, get_or-map, get_or-take}
use Rattle.board_text.specs.PlainBoard.{PlainBoard, IsConfiguration}
use Rattle.positions.specs.declared.claim.Claim.TheVariants.{Exactly, AtMost}
use Rattle.positions.specs.declared.side.Side.TheVariants.{Adversary}
use Rattle.proof_text.specs.Arranged.{IsClassBefore, arranged}
use Rattle.proof_text.specs.ClassProof.{IsClassRequestRow, class_answer_row, class_request_row}
use Rattle.proof_text.specs.Documents.{IsClassDocument}
use Rattle.proof_text.specs.Proof.{PlainProof, IsAnswerRow}
use Rattle.proof_text.specs.Rules.{IsListedBelow, StartIsBelow}
use Rattle.proof_text.specs.declared.class_proof.AdversaryClassRow.{AdversaryClassRow}
use Rattle.proof_text.specs.declared.class_proof.ClassProof.{ClassProof}
use Rattle.proof_text.specs.declared.class_proof.LabellerClassRow.{LabellerClassRow}
use Rattle.proof_check.specs.Refusals.{IsWrongBound}
use Rattle.proof_check.specs.FirstFaults.{HasRow, bound_of}
use Rattle.symmetries.specs.Elements.{least_by}
use Rattle.proof_text.specs.declared.symmetry_proof.Images.{Images}
use Rattle.proof_check.specs.Inside.ClassChecker.{IsClassReady, IsClassAnswering, IsClassRequesting, refusals_by}
use Rattle.proof_check.specs.Inside.FoundRow.{IsRowFor, IsUnservedBelow}
use Rattle.proof_check.specs.RowNumbers.{places_of}
use Rattle.proof_check.specs.Inside.RowSearch.{AreClassesInOrder, HasNoClass, IsTheRow}
use Rattle.proof_check.specs.declared.class_checking.ClassChecker.{ClassChecker}
use Rattle.proof_check.specs.declared.class_fault.ClassFault.{ClassFault}
use Rattle.proof_check.specs.declared.class_fault.ClassFault.TheVariants as faults
use Rattle.proof_check.proofs.FoundRows.{Contains-map, Contains-map_cases}

-- ---- rows that are ready

-- a fact of each row that is shown is one of each row
of_shown : {R X : Type 0} (f : R → X) (P : X → Type 0) (rows : List R) → All P (map f rows) → All (λ r. P (f r)) rows
of_shown f P rows all = λ k d low.
    subst P (get_or-map f rows k d (f d) low) (all k (f d) (omega (arith, low, length-map rows f)))

in_order : {R X : Type 0} (board : PlainBoard) (f : R → X) (at : X → List ℕ) (held : R → List ℕ) (IsRow : X → Type 0)
    (rows : List R) → ((row : R) → at (f row) ≡ places_of board held row)
    → ((x : X) → IsRow x → IsConfiguration board (at x))
    → All IsRow (map f rows)
    → AllPairs (λ first second. IsClassBefore board.labels (at first) (at second)) (map f rows)
    → AreClassesInOrder board held rows
in_order {R} {X} board f at held IsRow rows shown is are ascending = record {
  each = λ k d low.
      subst (IsConfiguration board) (shown (get_or rows k d))
      (is (f (get_or rows k d)) (of_shown f IsRow rows are k d low));
  ascending = λ i j d less low.
      let long = length-map rows f in
      let before : IsClassBefore board.labels (at (get_or (map f rows) i (f d))) (at (get_or (map f rows) j (f d))) =
      ascending i j (f d) less (omega (arith, low, long)) in
      let one = ap at (get_or-map f rows i d (f d) (omega (arith, less, low))) ∙ shown (get_or rows i d) in
      let two = ap at (get_or-map f rows j d (f d) low) ∙ shown (get_or rows j d) in
      subst (λ l. IsClassBefore board.labels l (places_of board held (get_or rows j d))) one
      (subst (IsClassBefore board.labels (at (get_or (map f rows) i (f d)))) two before);
}

module _ (board : PlainBoard) (proof : ClassProof) (is : IsClassDocument board proof) where
  pub labeller_in_order : AreClassesInOrder board (λ (r : LabellerClassRow). r.at) proof.labeller.items
  labeller_in_order =
      in_order board (class_answer_row board) (λ r. r.at) (λ r. r.at) (IsAnswerRow board proof.claim)
      proof.labeller.items (λ r. refl) (λ x row. row.at) is.is_proof.labeller.each
      is.is_proof.labeller.ascending

  pub adversary_in_order : AreClassesInOrder board (λ (r : AdversaryClassRow). r.at) proof.adversary.items
  adversary_in_order =
      in_order board (class_request_row board) (λ r. r.at) (λ r. r.at) (IsClassRequestRow board)
      proof.adversary.items (λ r. refl) (λ x row. row.at) is.is_proof.adversary.each
      is.is_proof.adversary.ascending

module _ (checker : ClassChecker) (ready : IsClassReady checker) where
  abbrev board : PlainBoard
  board = checker.board.now

  abbrev proof : ClassProof
  proof = checker.proof.now

  abbrev is : IsClassDocument board proof
  is = ready.document

  pub answering : All (IsClassAnswering checker) proof.labeller.items
  answering = λ k d low.
      let row = get_or proof.labeller.items k d in
      let shown : IsAnswerRow board proof.claim (class_answer_row board row) =
      of_shown (class_answer_row board) (IsAnswerRow board proof.claim) proof.labeller.items
      is.is_proof.labeller.each k d low in
      record {
        ready = ready;
        at = shown.at;
        in_order =
            of_shown (class_answer_row board) (λ x. arranged board.labels x.at ≡ x.at) proof.labeller.items
            is.is_proof.labeller.in_order k d low;
        gives = λ pebble below.
            let label : get_or (take board.pebbles row.take) pebble 0 < board.labels =
            shown.answers.1 pebble 0 (omega (arith, shown.answers.0, below)) in
            subst (λ n. n < board.labels) (get_or-take board.pebbles row.take pebble 0 below) label;
      }

  pub requesting : All (IsClassRequesting checker) proof.adversary.items
  requesting = λ k d low.
      let shown : IsClassRequestRow board (class_request_row board (get_or proof.adversary.items k d)) =
      of_shown (class_request_row board) (IsClassRequestRow board) proof.adversary.items
      is.is_proof.adversary.each k d low in
      record {
        ready = ready;
        at = shown.at;
        in_order =
            of_shown (class_request_row board) (λ x. arranged board.labels x.at ≡ x.at) proof.adversary.items
            is.is_proof.adversary.in_order k d low;
        asked = shown.request;
      }

-- ---- the row that is found, as it is shown

module _ {R X : Type 0} (board : PlainBoard) (f : R → X) (at : X → List ℕ) (held : R → List ℕ)
    (shows : (row : R) → at (f row) ≡ places_of board held row) (rows : List R) (places : List ℕ) where
  pub none_for : HasNoClass board held rows places → ¬ HasRow at (map f rows) places
  none_for none has =
      let row = Contains-map_cases f rows has.0 has.1 in
      none row.0 row.1 (sym (shows row.0) ∙ ap at row.2 ∙ has.2)

  pub row_for : (row : R) → IsTheRow board held rows places row → IsRowFor at (map f rows) places (f row)
  row_for row is = record {
    among = Contains-map f rows row is.among;
    at_is = shows row ∙ is.at_is;
    only = λ x among same.
        let other = Contains-map_cases f rows x among in
        sym other.2 ∙ ap f (is.only other.0 other.1 (sym (shows other.0) ∙ ap at other.2 ∙ same));
  }

-- the start's number, for a claim that bounds the value from above
pub bound_meant : (board : PlainBoard) (group : List Images) (proof : PlainProof) (number : ℕ)
    (found : Option ClassFault)
    → (proof.claim ≡ Exactly number) ⊎ (proof.claim ≡ AtMost number)
    → MatchOption found (IsListedBelow proof.adversary (least_by board.labels group board.start) (suc number))
    (IsUnservedBelow proof.adversary (least_by board.labels group board.start) (suc number)
    (faults.StartMissing Adversary) (faults.StartNumber Adversary))
    → MatchOption found (StartIsBelow proof.adversary (least_by board.labels group board.start) proof.claim)
    (IsWrongBound (refusals_by board group) board proof)
bound_meant board group proof number None (inl exactly) is =
    subst (StartIsBelow proof.adversary (least_by board.labels group board.start)) (sym exactly) is
bound_meant board group proof number None (inr at_most) is =
    subst (StartIsBelow proof.adversary (least_by board.labels group board.start)) (sym at_most) is
bound_meant board group proof number (Some fault) (inl exactly) is =
    (number, ap bound_of exactly, is)
bound_meant board group proof number (Some fault) (inr at_most) is =
    (number, ap bound_of at_most, is)
