-- The text of a document has one verdict or one fault.
use Rattle.std.proofs.Common.{◌≡◌, ◌≢◌, ℕ, List, refl, sym, ap, ◌∙◌, subst}
use Rattle.board_text.specs.PlainBoard.{PlainBoard, IsBoard, IsConfiguration}
use Rattle.proof_check.proofs.Cited.{has_places, no_class_fault, one_class_fault, one_check_fault, only_memory}
use Rattle.proof_check.proofs.Cited.{one_symmetry_fault, only_symmetry_memory}
use Rattle.proof_text.proofs.Cited.{no_class_text_fault as faultless_class_document, one_class_document}
use Rattle.proof_text.proofs.Cited.{one_class_text_fault, one_document, no_fault as faultless_document}
use Rattle.proof_text.proofs.Cited.{no_symmetry_text_fault as faultless_symmetry_document, one_symmetry_document}
use Rattle.proof_text.proofs.Cited.{one_symmetry_text_fault}
use Rattle.command_line.specs.declared.asked.BoardLimit.TheVariants.{Small}
use Rattle.proof_text.specs.Documents.{IsClassProof}
use Rattle.proof_text.specs.SymmetryProof.{PlainSymmetryProof}
use Rattle.proof_text.specs.declared.fault.ProofKind.TheVariants.{Memory as OutOfMemory}
use Rattle.positions.specs.declared.claim.Claim.{Claim}
use Rattle.proof_text.specs.Arranged.{arranged}
use Rattle.proof_text.specs.Proof.{PlainProof}
use Rattle.proof_text.specs.declared.fault.ProofFault.{ProofFault}
use Rattle.proof_text.proofs.OneDocument.{one_fault as one_proof_fault}
use Rattle.runs.specs.Output.{line_of}
use Rattle.runs.specs.Texts.{HasFaultAs, IsWithinLimit, IsWrongProof}
use Rattle.runs.specs.Verdicts.{IsChecked, IsClassVerdict, IsProofOf, IsSymmetryVerdict, IsVerdict, IsVerdictOf}
use Rattle.runs.specs.Verdicts.{text_of_proof}
use Rattle.runs.specs.declared.verdicts.DocumentVersion.{DocumentVersion}
use Rattle.runs.specs.declared.verdicts.DocumentVersion.TheVariants.{ByClasses, ByConfigurations, UpToSymmetries}
use Rattle.runs.specs.declared.fault.RunFault.{RunFault}
use Rattle.runs.specs.declared.fault.RunFault.TheVariants.{TooLarge, Proof}
use Rattle.runs.specs.declared.verdicts.Verdict.{Verdict}
use Rattle.runs.specs.declared.verdicts.Verdict.TheVariants.{Accepted, Refused, RefusedByClasses, RefusedUpToSymmetries}
use Rattle.runs.proofs.DocumentKinds.{begins_as, one_version}

-- ---- verdicts

same_acceptance : (claim other : Claim) (rows more : ℕ) → claim ≡ other → rows ≡ more
    → Accepted (record { claim = claim }) rows ≡ Accepted (record { claim = other }) more
same_acceptance claim other rows more same counted =
    ap (λ c. Accepted (record { claim = c }) rows) same
    ∙ ap (λ n. Accepted (record { claim = other }) n) counted

same_verdict : (board : PlainBoard) (proof : PlainProof) (verdict other : Verdict) → IsVerdict board proof verdict
    → IsVerdict board proof other → verdict ≡ other
same_verdict board proof (Accepted shown rows) (Accepted other more) is also =
    same_acceptance shown.claim other.claim rows more (is.0 ∙ sym also.0) (is.3 ∙ sym also.3)
same_verdict board proof (Accepted shown rows) (Refused fault) is also =
    absurd (also.1 (only_memory board proof fault is.1 also.0))
same_verdict board proof (Accepted shown rows) (RefusedByClasses fault) is also = absurd also
same_verdict board proof (Refused fault) (Accepted shown rows) is also =
    absurd (is.1 (only_memory board proof fault also.1 is.0))
same_verdict board proof (Refused fault) (Refused other) is also =
    ap Refused (one_check_fault board proof fault other is.1 also.1 is.0 also.0)
same_verdict board proof (Refused fault) (RefusedByClasses other) is also = absurd also
same_verdict board proof (Accepted shown rows) (RefusedUpToSymmetries other) is also = absurd also
same_verdict board proof (Refused fault) (RefusedUpToSymmetries other) is also = absurd also
same_verdict board proof (RefusedByClasses fault) other is also = absurd is
same_verdict board proof (RefusedUpToSymmetries fault) other is also = absurd is

same_class_verdict : (board : PlainBoard) (proof : PlainProof) (verdict other : Verdict)
    → IsClassVerdict board proof verdict → IsClassVerdict board proof other → verdict ≡ other
same_class_verdict board proof (Accepted shown rows) (Accepted other more) is also =
    same_acceptance shown.claim other.claim rows more (is.0 ∙ sym also.0) (is.4 ∙ sym also.4)
same_class_verdict board proof (Accepted shown rows) (Refused fault) is also = absurd also
same_class_verdict board proof (Accepted shown rows) (RefusedByClasses fault) is also =
    absurd (no_class_fault (arranged board.labels) board proof fault is.1 also)
same_class_verdict board proof (RefusedByClasses fault) (Accepted shown rows) is also =
    absurd (no_class_fault (arranged board.labels) board proof fault also.1 is)
same_class_verdict board proof (RefusedByClasses fault) (Refused other) is also = absurd also
same_class_verdict board proof (RefusedByClasses fault) (RefusedByClasses other) is also =
    ap RefusedByClasses (one_class_fault (arranged board.labels) board proof fault other is also)
same_class_verdict board proof (Refused fault) other is also = absurd is
same_class_verdict board proof (Accepted shown rows) (RefusedUpToSymmetries other) is also = absurd also
same_class_verdict board proof (RefusedByClasses fault) (RefusedUpToSymmetries other) is also = absurd also
same_class_verdict board proof (RefusedUpToSymmetries fault) other is also = absurd is

module _ (board : PlainBoard) (proof : PlainSymmetryProof) (start : IsConfiguration board board.start)
    (is_proof : IsClassProof board proof.rows) where
  same_symmetry_verdict : (verdict other : Verdict) → IsSymmetryVerdict board proof verdict
      → IsSymmetryVerdict board proof other → verdict ≡ other
  same_symmetry_verdict (Accepted shown rows) (Accepted other more) is also =
      same_acceptance shown.claim other.claim rows more (is.0 ∙ sym also.0) (is.4 ∙ sym also.4)
  same_symmetry_verdict (Accepted shown rows) (RefusedUpToSymmetries fault) is also =
      absurd (also.1 (only_symmetry_memory board proof (has_places board proof.rows is_proof) start fault is.1 also.0))
  same_symmetry_verdict (RefusedUpToSymmetries fault) (Accepted shown rows) is also =
      absurd (is.1 (only_symmetry_memory board proof (has_places board proof.rows is_proof) start fault also.1 is.0))
  same_symmetry_verdict (RefusedUpToSymmetries fault) (RefusedUpToSymmetries other) is also =
      ap RefusedUpToSymmetries (one_symmetry_fault board proof (has_places board proof.rows is_proof) start fault other
      is.1 also.1 is.0 also.0)
  same_symmetry_verdict (Accepted shown rows) (Refused fault) is also = absurd also
  same_symmetry_verdict (Accepted shown rows) (RefusedByClasses fault) is also = absurd also
  same_symmetry_verdict (RefusedUpToSymmetries fault) (Refused other) is also = absurd also
  same_symmetry_verdict (RefusedUpToSymmetries fault) (RefusedByClasses other) is also = absurd also
  same_symmetry_verdict (Refused fault) other is also = absurd is
  same_symmetry_verdict (RefusedByClasses fault) other is also = absurd is

module _ (board : PlainBoard) (text : List ℕ) (is_board : IsBoard board) where
  -- documents of one version with one text have one verdict
  one_of : (version : DocumentVersion) (proof also : PlainSymmetryProof) (verdict other : Verdict)
      → IsProofOf version board proof → IsProofOf version board also
      → text ≡ text_of_proof version board proof → text ≡ text_of_proof version board also
      → IsVerdictOf version board proof verdict → IsVerdictOf version board also other
      → verdict ≡ other
  one_of ByConfigurations proof also verdict other (few, is) (few_too, is_too) spelled spelled_too told told_too =
      let same : proof.rows ≡ also.rows =
      one_document board proof.rows also.rows is_board is is_too (sym spelled ∙ spelled_too) in
      same_verdict board also.rows verdict other (subst (λ p. IsVerdict board p verdict) same told) told_too
  one_of ByClasses proof also verdict other is is_too spelled spelled_too told told_too =
      let same : proof.rows ≡ also.rows =
      one_class_document board proof.rows also.rows is_board is is_too (sym spelled ∙ spelled_too) in
      same_class_verdict board also.rows verdict other (subst (λ p. IsClassVerdict board p verdict) same told) told_too
  one_of UpToSymmetries proof also verdict other is is_too spelled spelled_too told told_too =
      let same : proof ≡ also = one_symmetry_document board proof also is_board is is_too (sym spelled ∙ spelled_too) in
      same_symmetry_verdict board also is_board.start is_too.rows verdict other
      (subst (λ p. IsSymmetryVerdict board p verdict) same told) told_too

  pub one_verdict : (verdict other : Verdict) (line more : List ℕ) → IsChecked board text verdict line
      → IsChecked board text other more → (verdict ≡ other) × (line ≡ more)
  one_verdict verdict other line more is also =
      let same : also.version ≡ is.version =
      one_version text also.version is.version (begins_as also.version text board also.proof also.text_is)
      (begins_as is.version text board is.proof is.text_is) in
      let told : verdict ≡ other =
      one_of is.version is.proof also.proof verdict other is.is_proof
      (subst (λ v. IsProofOf v board also.proof) same also.is_proof) is.text_is
      (subst (λ v. text ≡ text_of_proof v board also.proof) same also.text_is) is.verdict_is
      (subst (λ v. IsVerdictOf v board also.proof other) same also.verdict_is) in
      (told, is.line_is ∙ ap (line_of board) told ∙ sym also.line_is)

  -- ---- faults

  -- a document has no fault of its version
  no_text_fault : (version : DocumentVersion) (proof : PlainSymmetryProof) (fault : ProofFault)
      → IsProofOf version board proof → text ≡ text_of_proof version board proof
      → HasFaultAs version board text fault → fault.kind ≡ OutOfMemory
  no_text_fault ByConfigurations proof fault (few, is) spelled (small, has) =
      faultless_document board text fault.line fault.kind proof.rows is_board is spelled has
  no_text_fault ByClasses proof fault is spelled has =
      faultless_class_document board text fault.line fault.kind proof.rows is_board is spelled has
  no_text_fault UpToSymmetries proof fault is spelled has =
      faultless_symmetry_document board text fault.line fault.kind proof is_board is spelled has

  few_of : (version : DocumentVersion) (proof : PlainSymmetryProof) → version ≡ ByConfigurations
      → IsProofOf version board proof → IsWithinLimit Small board
  few_of version proof same is =
      let ranked : IsProofOf ByConfigurations board proof = subst (λ v. IsProofOf v board proof) same is in ranked.0

  faultless_of : (kind : DocumentVersion) (proof : PlainSymmetryProof) (fault : RunFault) → IsProofOf kind board proof
      → text ≡ text_of_proof kind board proof → IsWrongProof board text fault → ⊥
  faultless_of kind proof (Proof fault) is spelled (version, begins, has, not) =
      let same : version ≡ kind = one_version text version kind begins (begins_as kind text board proof spelled) in
      not (no_text_fault kind proof fault is spelled (subst (λ v. HasFaultAs v board text fault) same has))
  faultless_of kind proof TooLarge is spelled (begins, large) =
      large (few_of kind proof
      (one_version text kind ByConfigurations (begins_as kind text board proof spelled) begins) is)
  faultless_of kind proof fault is spelled wrong = wrong

  pub verdict_or_fault : (verdict : Verdict) (line : List ℕ) (fault : RunFault) → IsChecked board text verdict line
      → IsWrongProof board text fault → ⊥
  verdict_or_fault verdict line fault is wrong =
      faultless_of is.version is.proof fault is.is_proof is.text_is wrong

  -- two faults of one line and kind are one
  as_told : (told other : ProofFault) → (told.line ≡ other.line) × (told.kind ≡ other.kind) → Proof told ≡ Proof other
  as_told told other same =
      let is : ◌≡◌ {A = ProofFault} (record { line = told.line; kind = told.kind }) other =
      rw (same.0, same.1) refl in
      ap Proof is

  one_text_fault : (version : DocumentVersion) (told other : ProofFault) → told.kind ≢ OutOfMemory
      → other.kind ≢ OutOfMemory → HasFaultAs version board text told → HasFaultAs version board text other
      → (told.line ≡ other.line) × (told.kind ≡ other.kind)
  one_text_fault ByConfigurations told other not not_too (few, has) (few_too, has_too) =
      one_proof_fault board text told.line other.line told.kind other.kind is_board not not_too has has_too
  one_text_fault ByClasses told other not not_too has has_too =
      one_class_text_fault board text told.line other.line told.kind other.kind is_board not not_too has has_too
  one_text_fault UpToSymmetries told other not not_too has has_too =
      one_symmetry_text_fault board text told.line other.line told.kind other.kind is_board not not_too has has_too

  -- a board of few enough, as the fault of a document by configurations has it
  few_as : (version : DocumentVersion) (fault : ProofFault) → version ≡ ByConfigurations
      → HasFaultAs version board text fault → IsWithinLimit Small board
  few_as version fault same has =
      let ranked : HasFaultAs ByConfigurations board text fault =
      subst (λ v. HasFaultAs v board text fault) same has in ranked.0

  pub one_wrong_proof : (fault other : RunFault) → IsWrongProof board text fault → IsWrongProof board text other
      → fault ≡ other
  one_wrong_proof (Proof told) (Proof other) (version, begins, has, not) (version_too, begins_too, has_too, not_too) =
      let same : version_too ≡ version = one_version text version_too version begins_too begins in
      as_told told other (one_text_fault version told other not not_too has
      (subst (λ v. HasFaultAs v board text other) same has_too))
  one_wrong_proof (Proof told) TooLarge (version, begins, has, not) (begins_too, large) =
      absurd (large (few_as version told (one_version text version ByConfigurations begins begins_too) has))
  one_wrong_proof TooLarge (Proof other) (begins, large) (version, begins_too, has_too, not_too) =
      absurd (large (few_as version other (one_version text version ByConfigurations begins_too begins) has_too))
  one_wrong_proof TooLarge TooLarge wrong also = refl
  one_wrong_proof (Proof told) fault wrong also = absurd also
  one_wrong_proof TooLarge fault wrong also = absurd also
  one_wrong_proof fault other wrong also = absurd wrong
