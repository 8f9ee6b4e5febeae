-- The versions of documents are told apart by the first lines of their texts.
use Rattle.std.proofs.Common.{◌≡◌, ℕ, List, [], get_or, refl, sym, ap, ◌∙◌, subst, arith, inl, inr}
use Rattle.board_text.specs.PlainBoard.{PlainBoard}
use Rattle.proof_text.specs.Proof.{PlainProof}
use Rattle.proof_text.specs.ProofText.{proof_text}
use Rattle.proof_text.specs.SymmetryProof.{PlainSymmetryProof}
use Rattle.runs.specs.Texts.{BeginsAs}
use Rattle.runs.specs.Verdicts.{text_of_proof}
use Rattle.runs.specs.declared.verdicts.DocumentVersion.{DocumentVersion}
use Rattle.runs.specs.declared.verdicts.DocumentVersion.TheVariants.{ByClasses, ByConfigurations, UpToSymmetries}

-- a document of a version that has no maps
abbrev pub without_maps : PlainProof → PlainSymmetryProof
without_maps proof = record { maps = []; rows = proof }

-- a text begins as one version
pub one_version : (text : List ℕ) (version other : DocumentVersion) → BeginsAs version text → BeginsAs other text
    → version ≡ other
one_version text ByClasses ByClasses is also = refl
one_version text ByClasses UpToSymmetries is also = absurd (differ (ap (λ (l : List ℕ). get_or l 6 0) (sym is ∙ also)))
  where
    differ : ◌≡◌ {A = ℕ} 50 51 → ⊥
    differ same = absurd (omega (arith, same))
one_version text UpToSymmetries ByClasses is also = absurd (differ (ap (λ (l : List ℕ). get_or l 6 0) (sym is ∙ also)))
  where
    differ : ◌≡◌ {A = ℕ} 51 50 → ⊥
    differ same = absurd (omega (arith, same))
one_version text UpToSymmetries UpToSymmetries is also = refl
one_version text ByConfigurations ByConfigurations is also = refl
one_version text ByConfigurations ByClasses is also = absurd (is (inl also))
one_version text ByConfigurations UpToSymmetries is also = absurd (is (inr also))
one_version text ByClasses ByConfigurations is also = absurd (also (inl is))
one_version text UpToSymmetries ByConfigurations is also = absurd (also (inr is))

by_configurations : (board : PlainBoard) (proof : PlainProof) → BeginsAs ByConfigurations (proof_text board proof)
by_configurations board proof (inl is) = differ (ap (λ (l : List ℕ). get_or l 6 0) is)
  where
    differ : ◌≡◌ {A = ℕ} 49 50 → ⊥
    differ same = absurd (omega (arith, same))
by_configurations board proof (inr is) = differ (ap (λ (l : List ℕ). get_or l 6 0) is)
  where
    differ : ◌≡◌ {A = ℕ} 49 51 → ⊥
    differ same = absurd (omega (arith, same))

begins : (version : DocumentVersion) (board : PlainBoard) (proof : PlainSymmetryProof)
    → BeginsAs version (text_of_proof version board proof)
begins ByConfigurations board proof = by_configurations board proof.rows
begins ByClasses board proof = refl
begins UpToSymmetries board proof = refl

-- the text of a document begins as its version
pub begins_as : (version : DocumentVersion) (text : List ℕ) (board : PlainBoard) (proof : PlainSymmetryProof)
    → text ≡ text_of_proof version board proof → BeginsAs version text
begins_as version text board proof is = subst (BeginsAs version) (sym is) (begins version board proof)
