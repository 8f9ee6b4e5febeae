-- The text of a strategy document, by configurations, by classes or up to symmetries, and of
-- symmetries by themselves.
use Rattle.std.specs.Prelude.{ℕ, Bool, if◌then◌else◌, List, [], ◌∷◌, ◌++◌, length, codes}
use Rattle.std.specs.List.{flat_map}
use Rattle.std.specs.Fmt.{decimal}
use Rattle.board_text.specs.BoardText.{end_line}
use Rattle.board_text.specs.LineForms.{with_line_feed, number_line}
use Rattle.board_text.specs.PlaceForms.{spaced_places, places_line}
use Rattle.board_text.specs.PlainBoard.{PlainBoard}
use Rattle.positions.specs.declared.claim.Claim.{Claim}
use Rattle.positions.specs.declared.claim.Claim.TheVariants.{Exactly, AtLeast, AtMost, Forever}
use Rattle.positions.specs.declared.turns.Turns.{Turns}
use Rattle.positions.specs.declared.turns.Turns.TheVariants.{Count, Always}
use Rattle.positions.specs.Table.{AnswerRow, RequestRow}
use Rattle.proof_text.specs.Proof.{PlainProof, asks_labeller, asks_adversary}
use Rattle.proof_text.specs.SymmetryProof.{PlainSymmetryProof}

-- the first line of a document by configurations
abbrev pub proof_version_line : List ℕ
proof_version_line = with_line_feed (codes "proof 1")

-- the first line of a document by classes
abbrev pub class_version_line : List ℕ
class_version_line = with_line_feed (codes "proof 2")

-- the first line of a document up to symmetries
abbrev pub symmetry_version_line : List ℕ
symmetry_version_line = with_line_feed (codes "proof 3")

-- a claim, in words
abbrev pub claim_words : Claim → List ℕ
claim_words (Exactly number) = codes "value " ++ decimal number
claim_words (AtLeast number) = codes "least " ++ decimal number
claim_words (AtMost number) = codes "most " ++ decimal number
claim_words Forever = codes "forever"

abbrev pub claim_line : Claim → List ℕ
claim_line claim = with_line_feed (claim_words claim)

-- a number, or a star
abbrev pub turns_text : Turns → List ℕ
turns_text (Count number) = decimal number
turns_text Always = codes "*"

-- `at l0 .. for m take v0 ..`
abbrev pub answer_line : PlainBoard → AnswerRow → List ℕ
answer_line board row =
    with_line_feed (codes "at" ++ (spaced_places board.labels row.at
    ++ (codes " for " ++ (turns_text row.turns
    ++ (codes " take" ++ spaced_places board.labels row.answers)))))

-- `at l0 .. for m ask p`
abbrev pub request_line : PlainBoard → RequestRow → List ℕ
request_line board row = with_line_feed
    (codes "at" ++ (spaced_places board.labels row.at
    ++ (codes " for " ++ (decimal row.left ++ (codes " ask " ++ decimal row.request)))))

-- `at l0 .. for m ask l`: the place of the asked pebble
abbrev pub class_request_line : PlainBoard → RequestRow → List ℕ
class_request_line board row = with_line_feed
    (codes "at" ++ (spaced_places board.labels row.at
    ++ (codes " for " ++ (decimal row.left
    ++ (codes " ask" ++ spaced_places board.labels (row.request ∷ []))))))

-- `map l0 .. l(V-1)`
abbrev pub map_line : ℕ → List ℕ → List ℕ
map_line labels images = places_line labels (codes "map") images

-- the first two lines
abbrev pub first_two_lines : List ℕ → Claim → List ℕ
first_two_lines line claim = line ++ claim_line claim

-- the text of a section with the word at its head and a line for each row, if it is asked for
abbrev pub section_text : {X : Type 0} → List ℕ → Bool → (X → List ℕ) → List X → List ℕ
section_text word asked row_line rows =
    if asked then number_line word (length rows) ++ flat_map row_line rows else []

-- the text of a document by configurations of the board
abbrev pub proof_text : PlainBoard → PlainProof → List ℕ
proof_text board proof = (first_two_lines proof_version_line proof.claim
    ++ (section_text (codes "labeller") (asks_labeller proof.claim) (answer_line board)
    proof.labeller
    ++ section_text (codes "adversary") (asks_adversary proof.claim) (request_line board)
    proof.adversary))
    ++ end_line

-- the sections of a document by classes of the board
abbrev pub class_sections_text : PlainBoard → PlainProof → List ℕ
class_sections_text board proof =
    section_text (codes "labeller") (asks_labeller proof.claim) (answer_line board) proof.labeller
    ++ section_text (codes "adversary") (asks_adversary proof.claim) (class_request_line board)
    proof.adversary

-- the text of a document by classes of the board
abbrev pub class_text : PlainBoard → PlainProof → List ℕ
class_text board proof =
    (first_two_lines class_version_line proof.claim ++ class_sections_text board proof) ++ end_line

-- a line that says how many maps there are, and a line for each
abbrev pub maps_text : ℕ → List (List ℕ) → List ℕ
maps_text labels maps =
    number_line (codes "symmetries") (length maps) ++ flat_map (map_line labels) maps

-- the text of symmetries by themselves: the same, and a last line
abbrev pub symmetries_text : ℕ → List (List ℕ) → List ℕ
symmetries_text labels maps = maps_text labels maps ++ end_line

-- the text of a document up to symmetries of the board's domain
abbrev pub symmetry_text : PlainBoard → PlainSymmetryProof → List ℕ
symmetry_text board document = (first_two_lines symmetry_version_line document.rows.claim
    ++ (maps_text board.labels document.maps ++ class_sections_text board document.rows))
    ++ end_line
