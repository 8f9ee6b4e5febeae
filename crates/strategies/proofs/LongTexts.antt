-- The text of a document has at least eight bytes for each row, so that a short text has few rows.
use Rattle.std.proofs.Common.{◌≡◌, ℕ, ◌*◌, ◌≤◌, Bool, true, false, true≢false, List, [], ◌∷◌, ◌++◌, length, codes, refl}
use Rattle.std.proofs.Common.{sym, inl, inr, arith}
use Rattle.std.specs.List.{flat_map}
use Rattle.std.specs.Fmt.{decimal}
use Rattle.std.proofs.lemmas.List.{length-append}
use Rattle.board_text.specs.BoardText.{end_line}
use Rattle.board_text.specs.LineForms.{with_line_feed, number_line}
use Rattle.board_text.specs.PlaceForms.{spaced_places}
use Rattle.board_text.specs.PlainBoard.{PlainBoard}
use Rattle.positions.specs.Table.{AnswerRow, RequestRow}
use Rattle.proof_text.specs.Proof.{PlainProof, IsClaim, asks_labeller, asks_adversary}
use Rattle.proof_text.specs.Arranged.{document_number}
use Rattle.proof_text.specs.Positions.{Positions, class_positions}
use Rattle.proof_text.specs.ProofText.{answer_line, class_request_line, class_sections_text, class_text}
use Rattle.proof_text.specs.ProofText.{class_version_line, first_two_lines, maps_text, section_text, symmetry_text}
use Rattle.proof_text.specs.ProofText.{symmetry_version_line, turns_text}
use Rattle.proof_text.specs.SymmetryProof.{PlainSymmetryProof}
use Rattle.proof_text.specs.declared.class_proof.TheConstants.{MAX_CLASS_ROWS}
use Rattle.strategies.specs.ClassDocument.{IsClassDocumentOf, FitsFormat}
use Rattle.strategies.specs.PositionDocument.{IsDocumentOver}
use Rattle.strategies.proofs.FormedRows.{labeller_asked, adversary_asked}

-- ---- the lines of rows

-- the words `at` and `for`, with spaces, and the line feed
long_line : (at more : List ℕ) → 8 ≤ length (with_line_feed (codes "at" ++ (at ++ (codes " for " ++ more))))
long_line at more =
    let two : length (codes "at") ≡ 2 = refl in
    let five : length (codes " for ") ≡ 5 = refl in
    let words : List ℕ = codes "at" ++ (at ++ (codes " for " ++ more)) in
    omega (
      arith,
      length-append words (10 ∷ []),
      length-append (codes "at") (at ++ (codes " for " ++ more)),
      length-append at (codes " for " ++ more),
      length-append (codes " for ") more,
      two,
      five,
    )

answers_long : (board : PlainBoard) (row : AnswerRow) → 8 ≤ length (answer_line board row)
answers_long board row = long_line (spaced_places board.labels row.at)
    (turns_text row.turns ++ (codes " take" ++ spaced_places board.labels row.answers))

requests_long : (board : PlainBoard) (row : RequestRow) → 8 ≤ length (class_request_line board row)
requests_long board row = long_line (spaced_places board.labels row.at)
    (decimal row.left ++ (codes " ask" ++ spaced_places board.labels (row.request ∷ [])))

long_lines : {X : Type 0} (line : X → List ℕ) → ((row : X) → 8 ≤ length (line row)) → (rows : List X)
    → 8 * length rows ≤ length (flat_map line rows)
long_lines line long [] = omega arith
long_lines line long (row ∷ rows) =
    omega (arith, long row, long_lines line long rows, length-append (line row) (flat_map line rows))

-- ---- the sections

whole_section : {X : Type 0} (word : List ℕ) (asked : Bool) (line : X → List ℕ) (rows : List X) → asked ≡ true
    → length (flat_map line rows) ≤ length (section_text word asked line rows)
whole_section word true line rows is =
    omega (arith, length-append (number_line word (length rows)) (flat_map line rows))
whole_section word false line rows is = absurd (true≢false (sym is))

module _ (board : PlainBoard) (proof : PlainProof) where
  abbrev labeller_text : List ℕ
  labeller_text = section_text (codes "labeller") (asks_labeller proof.claim) (answer_line board) proof.labeller

  abbrev adversary_text : List ℕ
  adversary_text =
      section_text (codes "adversary") (asks_adversary proof.claim) (class_request_line board) proof.adversary

  -- the lines of rows are parts of the sections
  pub labeller_section : asks_labeller proof.claim ≡ true
      → length (flat_map (answer_line board) proof.labeller) ≤ length (class_sections_text board proof)
  labeller_section asked = omega (
    arith,
    length-append labeller_text adversary_text,
    whole_section (codes "labeller") (asks_labeller proof.claim) (answer_line board) proof.labeller asked,
  )

  pub adversary_section : asks_adversary proof.claim ≡ true
      → length (flat_map (class_request_line board) proof.adversary) ≤ length (class_sections_text board proof)
  adversary_section asked = omega (
    arith,
    length-append labeller_text adversary_text,
    whole_section (codes "adversary") (asks_adversary proof.claim) (class_request_line board) proof.adversary asked,
  )

module _ (positions : Positions) (board : PlainBoard) (proof : PlainProof)
    (is : IsDocumentOver positions (document_number board.labels) board proof) where
  pub labeller_long : 8 * length proof.labeller ≤ length (class_sections_text board proof)
  labeller_long = omega (
    arith,
    labeller_section board proof (labeller_asked positions (document_number board.labels) board proof is),
    long_lines (answer_line board) (answers_long board) proof.labeller,
  )

  pub adversary_long : 8 * length proof.adversary ≤ length (class_sections_text board proof)
  adversary_long = elim (adversary_asked positions (document_number board.labels) board proof is) [
    | inl asked ↦ omega (
      arith,
      adversary_section board proof asked,
      long_lines (class_request_line board) (requests_long board) proof.adversary,
    )
    | inr none ↦ rw none (omega arith)
  ]

  -- sections of at most eight bytes for each of the most rows
  pub short_sections_fit : IsClaim proof.claim → length (class_sections_text board proof) ≤ 8 * MAX_CLASS_ROWS
      → FitsFormat proof
  short_sections_fit fits short = record {
    claim = fits;
    labeller = omega (arith, short, labeller_long);
    adversary = omega (arith, short, adversary_long);
  }

-- ---- the texts

-- parts of a text are no longer than the text
within : (head sections end : List ℕ) → length sections ≤ length ((head ++ sections) ++ end)
within head sections end = omega (arith, length-append (head ++ sections) end, length-append head sections)

pub in_class_text : (board : PlainBoard) (proof : PlainProof)
    → length (class_sections_text board proof) ≤ length (class_text board proof)
in_class_text board proof =
    within (first_two_lines class_version_line proof.claim) (class_sections_text board proof) end_line

pub in_symmetry_text : (board : PlainBoard) (document : PlainSymmetryProof)
    → length (class_sections_text board document.rows) ≤ length (symmetry_text board document)
in_symmetry_text board document =
    let maps : List ℕ = maps_text board.labels document.maps in
    let sections : List ℕ = class_sections_text board document.rows in
    omega (
      arith,
      within (first_two_lines symmetry_version_line document.rows.claim) (maps ++ sections) end_line,
      length-append maps sections,
    )

-- a text by classes of at most eight bytes for each of the most rows
pub short_text_fits : (board : PlainBoard) (proof : PlainProof) → IsClassDocumentOf board proof
    → IsClaim proof.claim → length (class_text board proof) ≤ 8 * MAX_CLASS_ROWS → FitsFormat proof
short_text_fits board proof is fits short =
    short_sections_fit (class_positions board.labels) board proof is fits
    (omega (arith, short, in_class_text board proof))
