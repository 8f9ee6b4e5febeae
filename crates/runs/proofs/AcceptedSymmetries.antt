-- A check accepts what is written for a board that is solved up to symmetries.
use Rattle.std.proofs.Common.{◌≡◌, ℕ, List, None, length, refl, sym, ap, ◌∙◌, subst, arith, inr}
use Rattle.std.specs.List.{All}
use Rattle.board_text.specs.PlainBoard.{PlainBoard, IsBoard}
use Rattle.orbits.specs.OrbitsUpTo.{HasFewOrbitsUpTo}
use Rattle.orbits.proofs.Cited.{has_group, less_than_orbits}
use Rattle.positions.specs.Claim.{claim_of}
use Rattle.positions.specs.Value.{HasValue}
use Rattle.positions.specs.declared.value.Value.{Value}
use Rattle.positions.specs.declared.value.Value.TheVariants.{Finite, Forever}
use Rattle.positions.proofs.Cited.{same_value}
use Rattle.proof_check.specs.SymmetryFaults.{BreaksNoRuleUpTo}
use Rattle.proof_check.proofs.Cited.{has_places, only_symmetry_memory}
use Rattle.proof_check.proofs.DocumentFaults.{HasPlaces}
use Rattle.proof_text.specs.Documents.{IsSymmetryProof}
use Rattle.proof_text.specs.Proof.{IsClaim}
use Rattle.proof_text.specs.ProofText.{symmetry_text}
use Rattle.proof_text.specs.SymmetryProof.{PlainSymmetryProof}
use Rattle.proof_text.specs.declared.fault.ProofFault.{ProofFault}
use Rattle.proof_text.specs.declared.fault.ProofKind.TheVariants.{Memory as OutOfMemory}
use Rattle.proof_text.proofs.Cited.{no_symmetry_text_fault as faultless_document, one_symmetry_document as one_of_text}
use Rattle.strategies.specs.SymmetricDocument.{IsSymmetryDocumentOf}
use Rattle.symmetries.specs.Symmetries.{IsSymmetry}
use Rattle.strategies.proofs.Cited.{breaks_no_rule_up_to, has_symmetry_form, short_symmetry_text_fits}
use Rattle.runs.specs.SymmetricSolveRun.{IsSolutionUpTo, IsSolvedUpTo}
use Rattle.runs.specs.Symmetries.{SpellsSymmetries}
use Rattle.runs.specs.Texts.{BeginsAs, HasFaultAs, HasNoProof, IsMemory}
use Rattle.runs.specs.Verdicts.{IsAcceptance, IsChecked, IsProofOf, IsSymmetryVerdict, IsVerdictOf, text_of_proof}
use Rattle.runs.specs.declared.fault.RunFault.{RunFault}
use Rattle.runs.specs.declared.fault.RunFault.TheVariants.{TooLarge, Proof, Memory}
use Rattle.runs.specs.declared.verdicts.DocumentVersion.{DocumentVersion}
use Rattle.runs.specs.declared.verdicts.DocumentVersion.TheVariants.{UpToSymmetries}
use Rattle.runs.specs.declared.verdicts.Verdict.{Verdict}
use Rattle.runs.specs.declared.verdicts.Verdict.TheVariants.{Accepted, Refused, RefusedByClasses, RefusedUpToSymmetries}
use Rattle.runs.proofs.DocumentKinds.{begins_as, one_version}

-- a finite value is less than the number of orbits, so its claim fits
claim_of_orbits : (board : PlainBoard) → IsBoard board → (maps : List (List ℕ)) → All (IsSymmetry board) maps
    → HasFewOrbitsUpTo board maps → (value : Value) → HasValue board board.start value → IsClaim (claim_of value)
claim_of_orbits board is maps each few (Finite number) has =
    let less = less_than_orbits board few.alike (has_group board maps each few.alike few.by) few.few.0 few.few.1
    board.start number is.start has in
    omega (arith, less, few.few.1.few)
claim_of_orbits board is maps each few Forever has = tt

module _ (board : PlainBoard) (is : IsBoard board) (text : List ℕ) (value : Value) (written : List ℕ)
    (solution : IsSolutionUpTo None board text value written) where
  abbrev maps : List (List ℕ)
  maps = solution.0

  abbrev spells : SpellsSymmetries board text maps
  spells = solution.1.0

  abbrev solved : IsSolvedUpTo None board maps value written
  solved = solution.2

  -- the document for both sides is whole
  document_is : IsSymmetryDocumentOf board maps solved.document
  document_is = subst (IsSymmetryDocumentOf board maps) (sym solved.is_document.2) solved.is_document.1

  -- the text is short enough for a check, so the document has the form of documents
  has_the_form : IsSymmetryProof board solved.document
  has_the_form =
      let rows = document_is.rows in
      let fits : IsClaim solved.document.rows.claim =
      subst IsClaim (sym rows.claim)
      (claim_of_orbits board is maps spells.are_made.symmetries solution.1.1 rows.value rows.has_value) in
      let size : length (symmetry_text board solved.document) ≡ length written = ap length (sym solved.written_is) in
      has_symmetry_form board maps is.start spells.are_made.symmetries spells.spells.are_maps solved.document
      document_is (short_symmetry_text_fits board maps solved.document document_is fits
      (omega (arith, size, solved.short)))

  rules : BreaksNoRuleUpTo board solved.document
  rules = breaks_no_rule_up_to board maps is.start spells.are_made.symmetries spells.group spells.are_made.are_group
      solved.document document_is spells.are_made.few

  up_to : BeginsAs UpToSymmetries written
  up_to = begins_as UpToSymmetries written board solved.document solved.written_is

  verdict_of : (proof : PlainSymmetryProof) (verdict : Verdict) → solved.document ≡ proof
      → IsSymmetryVerdict board proof verdict → IsAcceptance (claim_of value) verdict
  verdict_of proof (Accepted shown rows) same told =
      let made = document_is.rows in
      let worth : made.value ≡ value =
      same_value board board.start made.value value made.has_value solved.has_value in (
        rows,
        ap (λ c. Accepted (record { claim = c }) rows)
            (told.0 ∙ ap (λ (p : PlainSymmetryProof). p.rows.claim) (sym same) ∙ made.claim ∙ ap claim_of worth),
      )
  verdict_of proof (Refused fault) same told = absurd told
  verdict_of proof (RefusedByClasses fault) same told = absurd told
  verdict_of proof (RefusedUpToSymmetries fault) same (first, some) =
      absurd (some (only_symmetry_memory board proof
      (subst (λ (p : PlainSymmetryProof). HasPlaces board p.rows) same
      (has_places board solved.document.rows has_the_form.rows))
      is.start fault (subst (BreaksNoRuleUpTo board) same rules) first))

  accepts_of : (version : DocumentVersion) (proof : PlainSymmetryProof) (verdict : Verdict) → version ≡ UpToSymmetries
      → IsProofOf version board proof → written ≡ text_of_proof version board proof
      → IsVerdictOf version board proof verdict
      → IsAcceptance (claim_of value) verdict
  accepts_of version proof verdict same is_proof spelled told =
      let spelled_so : written ≡ symmetry_text board proof =
      subst (λ v. written ≡ text_of_proof v board proof) same spelled in
      verdict_of proof verdict (one_of_text board solved.document proof is has_the_form
      (subst (λ v. IsProofOf v board proof) same is_proof) (sym solved.written_is ∙ spelled_so))
      (subst (λ v. IsVerdictOf v board proof verdict) same told)

  pub symmetric_document_accepted : (verdict : Verdict) (line : List ℕ) → IsChecked board written verdict line
      → IsAcceptance (claim_of value) verdict
  symmetric_document_accepted verdict line checked =
      accepts_of checked.version checked.proof verdict
      (one_version written checked.version UpToSymmetries
      (begins_as checked.version written board checked.proof checked.text_is) up_to)
      checked.is_proof checked.text_is checked.verdict_is

  faultless_as : (version : DocumentVersion) (fault : ProofFault) → version ≡ UpToSymmetries
      → HasFaultAs version board written fault → fault.kind ≡ OutOfMemory
  faultless_as version fault same has =
      faultless_document board written fault.line fault.kind solved.document is has_the_form solved.written_is
      (subst (λ v. HasFaultAs v board written fault) same has)

  pub symmetric_document_faultless : (fault : RunFault) → HasNoProof board written fault → IsMemory fault
  symmetric_document_faultless (Proof fault) (version, begins, has, not) =
      absurd (not (faultless_as version fault (one_version written version UpToSymmetries begins up_to) has))
  symmetric_document_faultless Memory wrong = refl
  symmetric_document_faultless TooLarge (begins, large) = absurd (begins (inr up_to))
  symmetric_document_faultless fault wrong = absurd wrong
