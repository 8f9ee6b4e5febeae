-- How the rows of a section stand in a text, whichever side they are of, in each version.
use Rattle.std.specs.Prelude.{ℕ, suc, ◌+◌, ◌≤◌, Bool, if◌then◌else◌, List, length, All, AllPairs}
use Rattle.proof_text.specs.ProofText.{section_text}

-- the rows of a section of a document with a claim
pub record RowForm (X : Type 0) : Type 1 where
  -- the word at the section's head
  pub word : List ℕ
  -- whether the claim asks for the section
  pub asked : Bool
  -- the most rows of the section
  pub most : ℕ
  -- a row is as the format has it
  pub IsRow : X → Type 0
  -- the places that a row is for
  pub at : X → List ℕ
  -- the places are in the order that rows have them in
  pub AreInOrder : List ℕ → Type 0
  -- the number of places, by which rows ascend
  pub number : List ℕ → ℕ
  -- whether each number is above that of the row before it; else it is not below
  pub strict : Bool
  -- the line of a row
  pub line : X → List ℕ

-- the least number of the row after one with this number
abbrev pub next_number : {X : Type 0} → RowForm X → ℕ → ℕ
next_number form number = if form.strict then suc number else number

-- the rows of a section: not too many, each as the format has it, its places in order, and all
-- ascending
pub record AreRows {X : Type 0} (form : RowForm X) (rows : List X) : Type 0 where
  pub few : length rows ≤ form.most
  pub each : All form.IsRow rows
  pub in_order : All (λ row. form.AreInOrder (form.at row)) rows
  pub ascending : AllPairs
      (λ first second. next_number form (form.number (form.at first))
      ≤ form.number (form.at second)) rows

-- the section's text
abbrev pub text_of_section : {X : Type 0} → RowForm X → List X → List ℕ
text_of_section form rows = section_text form.word form.asked form.line rows

-- the number of lines of the section
abbrev pub lines_of_section : {X : Type 0} → RowForm X → List X → ℕ
lines_of_section form rows = if form.asked then 1 + length rows else 0
