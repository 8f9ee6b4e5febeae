-- Documents of each version.
use Rattle.std.specs.Prelude.{◌≡◌, ℕ, ◌≤◌, false, List, [], ◌++◌, length, All}
use Rattle.board_text.specs.BoardText.{end_line}
use Rattle.board_text.specs.PlainBoard.{PlainBoard}
use Rattle.proof_text.specs.declared.proof.Proof.{Proof}
use Rattle.proof_text.specs.declared.class_proof.ClassProof.{ClassProof}
use Rattle.proof_text.specs.declared.symmetry_proof.Images.{Images}
use Rattle.proof_text.specs.declared.symmetry_proof.SymmetryProof.{SymmetryProof}
use Rattle.proof_text.specs.declared.symmetry_proof.TheConstants.{MAX_MAPS}
use Rattle.proof_text.specs.ClassProof.{IsClassPadded, plain_class_proof}
use Rattle.proof_text.specs.Images.{HoldsImages, IsMap, KeepsLabels}
use Rattle.proof_text.specs.Proof.{Sections, PlainProof, IsClaim, IsPadded, plain_proof}
use Rattle.proof_text.specs.RowForm.{AreRows, text_of_section}
use Rattle.proof_text.specs.SymmetryProof.{PlainSymmetryProof}
use Rattle.proof_text.specs.Versions.{Version, by_configurations, by_classes, with_head}

-- a document of the version: its rows are as the format has them, and sections that the claim
-- doesn't ask for have none
pub record IsDocumentIn {X Y : Type 0} (version : Version X Y) (proof : Sections X Y) : Type 0 where
  pub claim : IsClaim proof.claim
  pub labeller : AreRows (version.answers proof.claim) proof.labeller
  pub adversary : AreRows (version.requests proof.claim) proof.adversary
  pub no_labeller : (version.answers proof.claim).asked ≡ false → proof.labeller ≡ []
  pub no_adversary : (version.requests proof.claim).asked ≡ false → proof.adversary ≡ []

-- a document by configurations for the board
abbrev pub IsProof : PlainBoard → PlainProof → Type 0
IsProof board proof = IsDocumentIn (by_configurations board) proof

-- a document by classes for the board
abbrev pub IsClassProof : PlainBoard → PlainProof → Type 0
IsClassProof board proof = IsDocumentIn (by_classes board) proof

-- maps of labels, not too many
pub record AreMaps (labels : ℕ) (maps : List (List ℕ)) : Type 0 where
  pub few : length maps ≤ MAX_MAPS
  pub each : All (IsMap labels) maps

-- a document up to symmetries for the board; whether its maps are symmetries, and its rows at the
-- least of alike places, is for the check to say
pub record IsSymmetryProof (board : PlainBoard) (document : PlainSymmetryProof) : Type 0 where
  pub maps : AreMaps board.labels document.maps
  pub rows : IsClassProof board document.rows

-- a proof by ranks for the board: its rows are as the format has them
pub record IsDocument (board : PlainBoard) (proof : Proof) : Type 0 where
  pub is_proof : IsProof board (plain_proof board proof)
  pub padded : All (IsPadded board) proof.labeller.items

-- a proof by classes for the board: its rows are as the format has them
pub record IsClassDocument (board : PlainBoard) (proof : ClassProof) : Type 0 where
  pub is_proof : IsClassProof board (plain_class_proof board proof)
  pub places_padded : All (λ row. IsClassPadded board row.at) proof.labeller.items
  pub answers_padded : All (λ row. IsClassPadded board row.take) proof.labeller.items
  pub asked_padded : All (λ row. IsClassPadded board row.at) proof.adversary.items

-- a proof up to symmetries for the board: its maps and its rows are as the format has them
pub record IsSymmetryDocument (board : PlainBoard) (proof : SymmetryProof) : Type 0 where
  pub few : length proof.maps.items ≤ MAX_MAPS
  pub kept : All (KeepsLabels board.labels) proof.maps.items
  pub held : All (HoldsImages board.labels) proof.maps.items
  pub rows : IsClassDocument board proof.rows

-- maps of labels, not too many, as they are held
pub record AreHeldMaps (labels : ℕ) (elements : List Images) : Type 0 where
  pub few : length elements ≤ MAX_MAPS
  pub kept : All (KeepsLabels labels) elements
  pub held : All (HoldsImages labels) elements

-- the text of a document of the version up to its last row
abbrev pub text_before_end : {X Y : Type 0} → Version X Y → Sections X Y → List ℕ
text_before_end version proof =
    with_head version.head proof.claim
    (text_of_section (version.answers proof.claim) proof.labeller
    ++ text_of_section (version.requests proof.claim) proof.adversary)

-- the text of a document of the version
abbrev pub text_of : {X Y : Type 0} → Version X Y → Sections X Y → List ℕ
text_of version proof = text_before_end version proof ++ end_line
