-- The faults of a section, whichever side it is of, in each version.
use Rattle.std.specs.Prelude.{◌≡◌, ℕ, ◌+◌, ◌<◌, ◌≤◌, List, [], ◌∷◌, ◌++◌, length}
use Rattle.std.specs.List.{flat_map}
use Rattle.board_text.specs.LineForms.{Lacks, number_line}
use Rattle.board_text.specs.Ranges.{InRange}
use Rattle.proof_text.specs.declared.fault.ProofKind.{ProofKind}
use Rattle.proof_text.specs.declared.fault.ProofKind.TheVariants as kinds
use Rattle.proof_text.specs.RowForm.{RowForm, AreRows, next_number}

-- the rows of a section, with the faults of the words of a line
pub record RowReading (X : Type 0) : Type 1 where
  pub form : RowForm X
  pub Misread : List ℕ → ProofKind → Type 0

-- the places are in order, and come after those of the last row, if there is one
pub record MayFollow {X : Type 0} (form : RowForm X) (rows : List X)
    (places : List ℕ) : Type 0 where
  pub in_order : form.AreInOrder places
  pub after : (before : List X) (last : X) → rows ≡ before ++ last ∷ []
      → next_number form (form.number (form.at last)) ≤ form.number places

-- The fault of the text in the place of a row, if it has no fault before it in the order: its words
-- are misread, or its places may not stand there.
abbrev pub RowFault : {X : Type 0} → RowReading X → (List ℕ → Type 0) → List ℕ → ProofKind → Type 0
RowFault {X} reading MayStand rest kinds.Order =
    (row : X) × reading.form.IsRow row × (more : List ℕ) × (rest ≡ reading.form.line row ++ more)
    × ¬ MayStand (reading.form.at row)
RowFault reading MayStand rest kind = reading.Misread rest kind

-- The head of a section of `count` rows stands here, and these rows have come.
pub record RowsCome {X : Type 0} (form : RowForm X) (text : List ℕ) (count : ℕ) (rows : List X)
    (rest : List ℕ) : Type 0 where
  pub few : count ≤ form.most
  pub come : length rows ≤ count
  pub are_rows : AreRows form rows
  pub spelled : text ≡ number_line form.word count ++ (flat_map form.line rows ++ rest)

-- The fault of a section whose head should stand here, at the line `number`. Memory may run out at
-- any row: the lines before it are faultless.
abbrev pub InSection : {X : Type 0} → RowReading X → List ℕ → ℕ → ℕ → ProofKind → Type 0
InSection reading text number line kinds.Section =
    (line ≡ number) × Lacks (InRange 0 reading.form.most) (number_line reading.form.word) text
InSection {X} reading text number line kinds.Memory = (line ≡ 0)
    × ((count : ℕ) × (rows : List X) × (rest : List ℕ)
    × RowsCome reading.form text count rows rest)
InSection {X} reading text number line kind =
    (count : ℕ) × (rows : List X) × (rest : List ℕ) × RowsCome reading.form text count rows rest
    × (length rows < count) × (line ≡ number + 1 + length rows)
    × RowFault reading (MayFollow reading.form rows) rest kind
