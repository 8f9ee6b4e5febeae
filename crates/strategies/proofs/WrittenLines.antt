-- The lines of rows, as they are written.
use Rattle.strategies.specs.Inside.Marks.{IsMarked}
use Rattle.proof_text.specs.Positions.{configuration_positions}
use Rattle.std.proofs.Common.{◌≡◌, ℕ, ◌+◌, ◌<◌, ◌≤◌, Bool, true, false, true≢false, List, [], ◌∷◌, ◌++◌, codes, length}
use Rattle.std.proofs.Common.{map, Option, Some, None, refl, sym, ap, ◌∙◌, subst, arith, inl, inr}
use Rattle.std.specs.List.{flat_map, sum_by}
use Rattle.std.proofs.Common.{append_assoc, length-append}
use Rattle.std.proofs.lemmas.Bool.{cases_lt}
use Rattle.std.proofs.lemmas.List.{append-nil, length-map}
use Rattle.std.proofs.lemmas.List.Concat.{flat_map-append, flat_map-cons}
use Rattle.std.proofs.lemmas.List.Folds.{flat_map-map}
use Rattle.std.proofs.lemmas.List.Sums.{sum_by-cons}
use Rattle.board_text.specs.BoardText.{end_line}
use Rattle.board_text.specs.LineForms.{number_line}
use Rattle.board_text.specs.PlainBoard.{PlainBoard, IsConfiguration}
use Rattle.positions.specs.declared.claim.Claim.{Claim}
use Rattle.positions.specs.declared.side.Side.{Side as DocumentSide}
use Rattle.positions.specs.declared.value.Value.{Value}
use Rattle.positions.specs.Value.{HasValue}
use Rattle.positions.specs.Claim.{claim_of}
use Rattle.positions.specs.Counts.{IsSmallest}
use Rattle.positions.specs.Table.{AnswerRow, RequestRow}
use Rattle.positions.specs.declared.space.TheConstants.{MAX_CONFIGURATIONS}
use Rattle.positions.specs.Ranks.{configurations, rank_of}
use Rattle.positions.proofs.Cited.{same_value}
use Rattle.proof_text.specs.Proof.{PlainProof, answer_row, asks_adversary, asks_labeller, request_row}
use Rattle.proof_text.specs.ProofText.{answer_line, first_two_lines, proof_version_line, request_line, section_text}
use Rattle.strategies.specs.Document.{IsDocumentOf}
use Rattle.strategies.specs.Inside.Numbering.{by_rank}
use Rattle.strategies.specs.Inside.Side.{Side, labeller_side, adversary_side, AreOfReached, AreReached, IsRowAt}
use Rattle.strategies.specs.PositionDocument.{AsksAdversary, IsLabellerRowOver, IsAdversaryRowOver, AreExactlyOver}
use Rattle.strategies.specs.DocumentTexts.{IsDocumentText}
use Rattle.strategies.specs.Sides.{HasStrategy, claim_for, document_for}
use Rattle.strategies.specs.declared.lines.Lines.{Lines}
use Rattle.strategies.specs.Inside.Lines.{AreLinesAt, AreLinesBetween, AreLinesIf, AreSectionLines, adversary_line}
use Rattle.strategies.specs.Inside.Lines.{labeller_line, section_lines_text}
use Rattle.strategies.proofs.DocumentForm.{section}
use Rattle.strategies.proofs.Numberings.{are_ranks, ranks_end}
use Rattle.strategies.proofs.OneList.{same_rows}
use Rattle.strategies.proofs.OneSide.{adversary_is, asks_finite, claim_is, labeller_is}
use Rattle.strategies.proofs.RowLists.{same_fact}
use Rattle.strategies.proofs.RowsAt.{rows_push, section_of_marks}
use Rattle.strategies.proofs.SomeDocument.{document_exists}

-- the first below an end is the first of all
pub first_of_all : (P : ℕ → Type 0) (bound end next : ℕ)
    → IsSmallest (λ number. (bound ≤ number) × (number < end) × P number) (Some next)
    → IsSmallest (λ number. (bound ≤ number) × P number) (Some next)
first_of_all P bound end next (is, least) = (
  (is.0, is.2),
  λ number other. elim (cases_lt number end) [
    | inl below ↦ least number (other.0, below, other.1)
    | inr beyond ↦ let low : next < end = is.1 in omega arith
  ],
)

module _ {R : Type 0} (board : PlainBoard) (side : Side R) (line : R → List ℕ) where
  pub no_lines : (bytes : List ℕ) → bytes ≡ [] → AreLinesAt board side line [] bytes 0
  no_lines bytes none = record { rows = []; are_rows = refl; bytes_are = none; count_is = refl }

  -- the line of the next row
  pub one_line : (ranks bytes more : List ℕ) (count rank : ℕ) (row : R) → AreLinesAt board side line ranks bytes count
      → IsRowAt (by_rank board) side rank (Some row) → more ≡ bytes ++ line row
      → AreLinesAt board side line (ranks ++ rank ∷ []) more (count + 1)
  one_line ranks bytes more count rank row are is there = record {
    rows = are.rows ++ row ∷ [];
    are_rows = rows_push (by_rank board) side ranks rank are.rows (Some row) are.are_rows is;
    bytes_are = there ∙ ap (λ l. l ++ line row) are.bytes_are
        ∙ ap (λ l. flat_map line are.rows ++ l) (sym (append-nil (line row)) ∙ sym (flat_map-cons line row []))
        ∙ sym (flat_map-append line are.rows (row ∷ []));
    count_is = omega (arith, are.count_is, length-append are.rows (row ∷ []));
  }

  -- a rank without a row
  pub no_line : (ranks bytes : List ℕ) (count rank : ℕ) → AreLinesAt board side line ranks bytes count
      → IsRowAt (by_rank board) side rank None → AreLinesAt board side line (ranks ++ rank ∷ []) bytes count
  no_line ranks bytes count rank are none = record {
    rows = are.rows ++ [];
    are_rows = rows_push (by_rank board) side ranks rank are.rows None are.are_rows none;
    bytes_are = are.bytes_are ∙ ap (flat_map line) (sym (append-nil are.rows));
    count_is = are.count_is ∙ ap length (sym (append-nil are.rows));
  }

  -- the lines of all ranks are one part
  pub one_part : (marks : List Bool) (end : ℕ) (lines : Lines) → AreReached (by_rank board) board side (IsMarked marks)
      → configurations board ≤ end → AreLinesBetween board side line marks 0 end lines
      → AreSectionLines board side line (lines ∷ [])
  one_part marks end lines reached enough are = record {
    rows = are.are_lines.rows;
    are_rows = section_of_marks board (by_rank board) (are_ranks board) side marks end are.ranks are.are_lines.rows
        reached (ranks_end board end enough) are.listed
        are.are_lines.are_rows;
    bytes_are = flat_map-cons (λ (part : Lines). part.bytes.items) lines [] ∙ append-nil lines.bytes.items
        ∙ are.are_lines.bytes_are;
    count_is = omega (arith, are.are_lines.count_is, sum_by-cons (λ (part : Lines). part.rows) lines []);
  }

  -- there are no more rows than configurations
  pub few_lines : (parts : List Lines) → configurations board ≤ MAX_CONFIGURATIONS → AreOfReached (by_rank board) board
      side
      → AreSectionLines board side line parts → sum_by (λ (part : Lines). part.rows) parts ≤ MAX_CONFIGURATIONS
  few_lines parts few of_reached are =
      let formed = section board side.IsRow (λ row. Unit {0}) side.at (map side.shown are.rows) few
      of_reached.is (λ row is_row. tt) are.are_rows.exactly in
      omega (arith, are.count_is, length-map are.rows side.shown, formed.0)

  pub few_if : (asked : Bool) (parts : List Lines) → asked ≡ true → configurations board ≤ MAX_CONFIGURATIONS
      → AreOfReached (by_rank board) board side → AreLinesIf asked board side line parts
      → sum_by (λ (part : Lines). part.rows) parts ≤ MAX_CONFIGURATIONS
  few_if true parts is few of_reached are = few_lines parts few of_reached are
  few_if false parts is few of_reached are = absurd (true≢false (sym is))

-- ---- the text of a document

-- the lines of a section, if it is asked for
abbrev pub lines_if : List ℕ → Bool → List Lines → List ℕ
lines_if word true parts = section_lines_text word parts
lines_if word false parts = []

-- the lines of a section
of_section : {R X : Type 0} (word : List ℕ) (line : X → List ℕ) (shown : R → X) (rows : List R) (count : ℕ)
    (bytes : List ℕ) → count ≡ length rows → bytes ≡ flat_map (λ row. line (shown row)) rows
    → number_line word count ++ bytes ≡ number_line word (length (map shown rows)) ++ flat_map line (map shown rows)
of_section word line shown rows count bytes count_is bytes_are =
    (λ i. number_line word (count_is i) ++ bytes_are i)
    ∙ (λ i. number_line word (sym (length-map rows shown) i) ++ sym (flat_map-map line shown rows) i)

-- the lines are those of the section of rows that are the same
section_if : {R X : Type 0} (board : PlainBoard) (side : Side R) (word : List ℕ) (line : X → List ℕ) (shown : R → X)
    (asked : Bool) (parts : List Lines) (rows : List X)
    → AreLinesIf asked board side (λ row. line (shown row)) parts
    → ((are : AreSectionLines board side (λ row. line (shown row)) parts) → asked ≡ true → rows ≡ map shown are.rows)
    → lines_if word asked parts ≡ section_text word asked line rows
section_if board side word line shown true parts rows are same =
    of_section word line shown are.rows _ _ are.count_is are.bytes_are
    ∙ (λ i. number_line word (length (sym (same are refl) i)) ++ flat_map line (sym (same are refl) i))
section_if board side word line shown false parts rows are same = refl

module _ (board : PlainBoard) (is_start : IsConfiguration board board.start) (side : Option DocumentSide)
    (value : Value) (has : HasValue board board.start value) (strategy : HasStrategy side value) where
  abbrev document : PlainProof
  document = (document_exists board is_start).0

  abbrev is_document : IsDocumentOf board document
  is_document = (document_exists board is_start).1

  abbrev same : is_document.value ≡ value
  same = same_value board board.start is_document.value value is_document.has_value has

  abbrev claim : Claim
  claim = claim_for side (claim_of value)

  pub whole_text : (labeller adversary : List Lines) (whole : List ℕ)
      → AreLinesIf (asks_labeller claim) board (labeller_side board value) (labeller_line board) labeller
      → AreLinesIf (asks_adversary claim) board (adversary_side board value) (adversary_line board) adversary
      → whole ≡ (first_two_lines proof_version_line claim
      ++ (lines_if (codes "labeller") (asks_labeller claim) labeller
      ++ lines_if (codes "adversary") (asks_adversary claim) adversary)) ++ end_line
      → IsDocumentText side board whole
  whole_text labeller adversary whole answers requests whole_is = (
    document,
    is_document,
    whole_is ∙ (λ i. (first_two_lines proof_version_line claim
        ++ (section_if board (labeller_side board value) (codes "labeller") (answer_line board) (answer_row board)
        (asks_labeller claim) labeller (document_for side document).labeller answers labellers_are i
        ++ section_if board (adversary_side board value) (codes "adversary") (request_line board) (request_row board)
        (asks_adversary claim) adversary (document_for side document).adversary requests adversarys_are i)) ++ end_line)
        ∙ ap (λ (c : Claim). (first_two_lines proof_version_line c
        ++ (section_text (codes "labeller") (asks_labeller c) (answer_line board)
        (document_for side document).labeller
        ++ section_text (codes "adversary") (asks_adversary c) (request_line board)
        (document_for side document).adversary)) ++ end_line) (sym claims),
  )
    where
      claims : (document_for side document).claim ≡ claim
      claims = claim_is side document ∙ ap (claim_for side) (is_document.claim ∙ ap claim_of same)

      labellers_are : (are : AreSectionLines board (labeller_side board value) (labeller_line board) labeller)
          → asks_labeller claim ≡ true → (document_for side document).labeller ≡ map (answer_row board) are.rows
      labellers_are are asked = labeller_is side value document strategy asked
          ∙ same_rows (rank_of board) (IsLabellerRowOver configuration_positions board value)
          (λ (row : AnswerRow). row.at) document.labeller
          (map (answer_row board) are.rows)
          (subst (λ (v : Value). AreExactlyOver (rank_of board) (IsLabellerRowOver configuration_positions board v)
          (λ (row : AnswerRow). row.at)
          document.labeller) same is_document.labeller) are.are_rows.exactly

      adversarys_are : (are : AreSectionLines board (adversary_side board value) (adversary_line board) adversary)
          → asks_adversary claim ≡ true → (document_for side document).adversary ≡ map (request_row board) are.rows
      adversarys_are are asked = adversary_is side value document strategy asked
          ∙ same_rows (rank_of board) (IsAdversaryRowOver configuration_positions board) (λ (row : RequestRow). row.at)
          document.adversary
          (map (request_row board) are.rows)
          (same_fact (rank_of board) (λ (row : RequestRow). row.at) _ _ document.adversary
          (λ row. ((λ is. is.1), (λ is. (subst AsksAdversary (sym same) (asks_finite side value asked), is))))
          is_document.adversary) are.are_rows.exactly

-- lines that are asked for, and lines that aren't
pub lines_then : (word : List ℕ) (asked : Bool) (parts : List Lines) → asked ≡ true
    → section_lines_text word parts ≡ lines_if word asked parts
lines_then word true parts is = refl
lines_then word false parts is = absurd (true≢false (sym is))

pub no_lines_then : (word : List ℕ) (asked : Bool) (parts : List Lines) → asked ≡ false → lines_if word asked parts ≡ []
no_lines_then word true parts is = absurd (true≢false is)
no_lines_then word false parts is = refl

-- the parts of a text of two sections and its last line
pub parts_written : {X : Type 0} (f : X → List ℕ) (none one two three all : List X) (first last : X)
    (head labeller adversary end : List ℕ) → none ≡ [] → one ≡ none ++ first ∷ [] → f first ≡ head
    → flat_map f two ≡ flat_map f one ++ labeller → flat_map f three ≡ flat_map f two ++ adversary
    → all ≡ three ++ last ∷ [] → f last ≡ end → flat_map f all ≡ (head ++ (labeller ++ adversary)) ++ end
parts_written f none one two three all first last head labeller adversary end none_is one_is first_is two_is three_is
    all_is last_is =
    let begun : flat_map f one ≡ head =
    ap (flat_map f) (one_is ∙ ap (λ l. l ++ first ∷ []) none_is) ∙ flat_map-cons f first [] ∙ append-nil (f first)
    ∙ first_is in
    ap (flat_map f) all_is ∙ flat_map-append f three (last ∷ [])
    ∙ (λ i. three_is i ++ (flat_map-cons f last [] ∙ append-nil (f last) ∙ last_is) i)
    ∙ ap (λ l. (l ++ adversary) ++ end) (two_is ∙ ap (λ l. l ++ labeller) begun)
    ∙ ap (λ l. l ++ end) (append_assoc head labeller adversary)
