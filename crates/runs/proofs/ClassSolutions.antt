-- A text has one solution by classes or one fault, and a check accepts the solution.
use Rattle.std.proofs.Common.{◌≡◌, ◌-◌, ◌≤◌, ◌⊎◌, ℕ, List, length, refl, sym, ap, ◌∙◌, subst, arith, inl, inr}
use Rattle.std.proofs.lemmas.Bool.{cases_lt}
use Rattle.board_text.specs.PlainBoard.{PlainBoard, places}
use Rattle.board_text.proofs.Cited.{one_board}
use Rattle.proof_check.proofs.Cited.{no_class_fault}
use Rattle.strategies.proofs.Cited.{breaks_no_class_rule, has_class_form as is_formed, one_class_document as one_made}
use Rattle.strategies.proofs.Cited.{class_document_exists, few_gaps_claim, short_text_fits}
use Rattle.proof_text.proofs.Cited.{no_class_text_fault as faultless_document, one_class_document}
use Rattle.proof_text.specs.Arranged.{arranged}
use Rattle.proof_text.specs.Positions.{class_positions}
use Rattle.proof_text.specs.ProofText.{class_text}
use Rattle.proof_text.specs.Documents.{IsClassProof}
use Rattle.classes.specs.Numbers.{ways}
use Rattle.gap_values.specs.declared.rounds.TheConstants.{MAX_GAPS}
use Rattle.proof_text.specs.SymmetryProof.{PlainSymmetryProof}
use Rattle.proof_text.specs.declared.fault.ProofFault.{ProofFault}
use Rattle.proof_text.specs.declared.fault.ProofKind.TheVariants.{Memory as OutOfMemory}
use Rattle.runs.specs.declared.verdicts.DocumentVersion.{DocumentVersion}
use Rattle.runs.specs.declared.verdicts.DocumentVersion.TheVariants.{ByClasses}
use Rattle.command_line.specs.declared.asked.BoardLimit.TheVariants.{Large}
use Rattle.positions.specs.Claim.{claim_of}
use Rattle.positions.specs.declared.value.Value.{Value}
use Rattle.positions.proofs.Cited.{same_value, some_value}
use Rattle.proof_text.specs.Proof.{PlainProof}
use Rattle.runs.specs.ClassSolveRun.{HasLongDocument, IsClassSolution, IsSolvedByClasses, IsUnsolvedByClasses}
use Rattle.runs.specs.Texts.{BeginsAs, HasFaultAs, HasNoProof, IsBoardAmong, IsBoardWithin, IsMemory, IsWrongWithin}
use Rattle.runs.specs.Texts.{OfAnySize}
use Rattle.runs.specs.declared.checking.TheConstants.{MAX_PROOF_BYTES}
use Rattle.runs.specs.Verdicts.{IsAcceptance, IsChecked, IsClassVerdict, IsProofOf, IsVerdictOf, text_of_proof}
use Rattle.runs.specs.declared.fault.RunFault.{RunFault}
use Rattle.runs.specs.declared.fault.RunFault.TheVariants.{TooLarge, Proof, Memory, DocumentTooLarge}
use Rattle.runs.specs.declared.verdicts.Verdict.{Verdict}
use Rattle.runs.specs.declared.verdicts.Verdict.TheVariants.{Accepted, Refused, RefusedByClasses, RefusedUpToSymmetries}
use Rattle.runs.proofs.AcceptedDocuments.{not_wrong}
use Rattle.runs.proofs.DocumentKinds.{begins_as, one_version, without_maps}
use Rattle.runs.proofs.OneOutcome.{one_wrong}
use Rattle.runs.proofs.Solutions.{board_or_wrong}

-- ---- one solution, or one fault

module _ (text : List ℕ) where
  -- the text is that of one board at most
  same_board : (first second : PlainBoard) → IsBoardWithin Large text first → IsBoardWithin Large text second
      → second ≡ first
  same_board first second one other =
      one_board second first other.is_board one.is_board (sym other.spelled ∙ one.spelled)

  pub one_class_solution : (value worth : Value) (first second : List ℕ) → IsClassSolution text value first
      → IsClassSolution text worth second → (value ≡ worth) × (first ≡ second)
  one_class_solution value worth first second (board, within, one) (other, within_too, also) =
      let solved : IsSolvedByClasses board worth second =
      subst (λ (b : PlainBoard). IsSolvedByClasses b worth second) (same_board board other within within_too) also in
      let document : one.document ≡ solved.document =
      one_made board one.document solved.document one.is_document solved.is_document in (
        same_value board board.start value worth one.has_value solved.has_value,
        one.text_is ∙ ap (class_text board) document ∙ sym solved.text_is,
      )

  -- a board whose document is too long has no solution
  long_or_short : (value : Value) (written : List ℕ) (board other : PlainBoard) → IsBoardWithin Large text board
      → IsBoardWithin Large text other → IsSolvedByClasses board value written → HasLongDocument other → ⊥
  long_or_short value written board other within within_too solved long =
      let here : HasLongDocument board = subst HasLongDocument (same_board board other within within_too) long in
      let same : here.0 ≡ solved.document = one_made board here.0 solved.document here.1 solved.is_document in
      let size : length written ≡ length (class_text board here.0) =
      ap length solved.text_is ∙ ap (λ d. length (class_text board d)) (sym same) in
      absurd (omega (arith, size, here.2, solved.short))

  -- a fault is that of the document, or that of the text
  fault_is : (fault : RunFault) → IsUnsolvedByClasses text fault
      → ((fault ≡ DocumentTooLarge) × IsUnsolvedByClasses text DocumentTooLarge) ⊎ IsWrongWithin Large text fault
  fault_is DocumentTooLarge h = inl (refl, h)
  fault_is fault h = inr h

  pub class_solution_or_fault : (value : Value) (written : List ℕ) (fault : RunFault)
      → IsClassSolution text value written → IsUnsolvedByClasses text fault → ⊥
  class_solution_or_fault value written fault (board, within, solved) bad = elim (fault_is fault bad) [
    | inl (is, (other, within_too, long)) ↦
        long_or_short value written board other within within_too solved long
    | inr wrong ↦ not_wrong Large text board within fault wrong
  ]

  -- a board within the limit has a document, which a check reads or not
  solved_or_long : (board : PlainBoard) → IsBoardWithin Large text board
      → ((value : Value) × (written : List ℕ) × IsClassSolution text value written)
      ⊎ ((fault : RunFault) × IsUnsolvedByClasses text fault)
  solved_or_long board within =
      let document = class_document_exists board within.is_board.start in
      let value = some_value board board.start within.is_board.start in
      elim (cases_lt MAX_PROOF_BYTES (length (class_text board document.0))) [
        | inl long ↦ inr (DocumentTooLarge, (board, within, (document.0, document.1, long)))
        | inr short ↦
            let solved : IsSolvedByClasses board value.0 (class_text board document.0) = record {
              has_value = value.1;
              document = document.0;
              is_document = document.1;
              text_is = refl;
              short = omega (arith, short);
            } in
            inl (value.0, class_text board document.0, (board, within, solved))
      ]

  -- a fault of the text is one of these
  wrong_unsolved : (fault : RunFault) → IsWrongWithin Large text fault → IsUnsolvedByClasses text fault
  wrong_unsolved DocumentTooLarge wrong = absurd wrong
  wrong_unsolved fault wrong = wrong

  pub solution_or_unsolved : ((value : Value) × (written : List ℕ) × IsClassSolution text value written)
      ⊎ ((fault : RunFault) × IsUnsolvedByClasses text fault)
  solution_or_unsolved = elim (board_or_wrong text Large) [
    | inl within ↦ solved_or_long within.0 within.1
    | inr wrong ↦ inr (wrong.0, wrong_unsolved wrong.0 wrong.1)
  ]

  pub one_unsolved : (fault other : RunFault) → IsUnsolvedByClasses text fault → IsUnsolvedByClasses text other
      → fault ≡ other
  one_unsolved fault other bad also = elim (fault_is fault bad) [
    | inl (is, (board, within, long)) ↦ elim (fault_is other also) [
      | inl (is_too, long_too) ↦ is ∙ sym is_too
      | inr wrong ↦ absurd (not_wrong Large text board within other wrong)
    ]
    | inr wrong ↦ elim (fault_is other also) [
      | inl (is_too, (board, within, long)) ↦ absurd (not_wrong Large text board within fault wrong)
      | inr wrong_too ↦ one_wrong Large text fault other wrong wrong_too
    ]
  ]

-- ---- a check of it

module _ (text written : List ℕ) (value : Value) (solution : IsClassSolution text value written)
    (board : PlainBoard) (is : IsBoardAmong OfAnySize text board) where
  solved : IsSolvedByClasses board value written
  solved = subst (λ (b : PlainBoard). IsSolvedByClasses b value written)
      (one_board solution.0 board solution.1.is_board is.is_board (sym solution.1.spelled ∙ is.spelled)) solution.2

  -- the text is short enough for a check, so the document has the form of documents
  has_the_form : IsClassProof board solved.document
  has_the_form =
      let few : ways (board.pebbles - 1) (places board) ≤ MAX_GAPS =
      subst (λ (b : PlainBoard). ways (b.pebbles - 1) (places b) ≤ MAX_GAPS)
      (one_board solution.0 board solution.1.is_board is.is_board (sym solution.1.spelled ∙ is.spelled))
      solution.1.few in
      let size : length (class_text board solved.document) ≡ length written = ap length (sym solved.text_is) in
      is_formed board solved.document is.is_board.start solved.is_document
      (short_text_fits board solved.document solved.is_document
      (few_gaps_claim (class_positions board.labels) board solved.document is.is_board.start solved.is_document
      (omega (arith, few)))
      (omega (arith, size, solved.short)))

  by_class : BeginsAs ByClasses written
  by_class = begins_as ByClasses written board (without_maps solved.document) solved.text_is

  verdict_of : (proof : PlainProof) (verdict : Verdict) → solved.document ≡ proof → IsClassVerdict board proof verdict
      → IsAcceptance (claim_of value) verdict
  verdict_of proof (Accepted shown rows) same told =
      let worth : solved.is_document.value ≡ value =
      same_value board board.start solved.is_document.value value solved.is_document.has_value solved.has_value in (
        rows,
        ap (λ c. Accepted (record { claim = c }) rows) (told.0 ∙ ap (λ (p : PlainProof). p.claim) (sym same)
            ∙ solved.is_document.claim ∙ ap claim_of worth),
      )
  verdict_of proof (Refused fault) same told = absurd told
  verdict_of proof (RefusedUpToSymmetries fault) same told = absurd told
  verdict_of proof (RefusedByClasses fault) same told =
      absurd (no_class_fault (arranged board.labels) board solved.document fault
      (breaks_no_class_rule board solved.document is.is_board.start solved.is_document)
      (subst (λ p. IsClassVerdict board p (RefusedByClasses fault)) (sym same) told))

  accepts_of : (version : DocumentVersion) (proof : PlainSymmetryProof) (verdict : Verdict) → version ≡ ByClasses
      → IsProofOf version board proof → written ≡ text_of_proof version board proof
      → IsVerdictOf version board proof verdict
      → IsAcceptance (claim_of value) verdict
  accepts_of version proof verdict same is_proof spelled told =
      let spelled_so : written ≡ class_text board proof.rows =
      subst (λ v. written ≡ text_of_proof v board proof) same spelled in
      verdict_of proof.rows verdict (one_class_document board solved.document proof.rows is.is_board has_the_form
      (subst (λ v. IsProofOf v board proof) same is_proof) (sym solved.text_is ∙ spelled_so))
      (subst (λ v. IsVerdictOf v board proof verdict) same told)

  pub class_document_accepted : (verdict : Verdict) (line : List ℕ) → IsChecked board written verdict line
      → IsAcceptance (claim_of value) verdict
  class_document_accepted verdict line checked =
      accepts_of checked.version checked.proof verdict
      (one_version written checked.version ByClasses
      (begins_as checked.version written board checked.proof checked.text_is) by_class)
      checked.is_proof checked.text_is checked.verdict_is

  faultless_as : (version : DocumentVersion) (fault : ProofFault) → version ≡ ByClasses
      → HasFaultAs version board written fault → fault.kind ≡ OutOfMemory
  faultless_as version fault same has =
      faultless_document board written fault.line fault.kind solved.document is.is_board has_the_form solved.text_is
      (subst (λ v. HasFaultAs v board written fault) same has)

  pub class_document_faultless : (fault : RunFault) → HasNoProof board written fault → IsMemory fault
  class_document_faultless (Proof fault) (version, begins, has, not) =
      absurd (not (faultless_as version fault (one_version written version ByClasses begins by_class) has))
  class_document_faultless Memory wrong = refl
  class_document_faultless TooLarge (begins, large) = absurd (begins (inl by_class))
  class_document_faultless fault wrong = absurd wrong
