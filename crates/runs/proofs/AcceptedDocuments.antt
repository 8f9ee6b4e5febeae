-- A check accepts the document that was printed for a board.
use Rattle.std.proofs.Common.{◌≡◌, ◌≤◌, ◌++◌, ◌∙◌, ℕ, List, [], Option, Some, None, append-nil, ap, refl, subst, sym}
use Rattle.board_text.specs.Streams.{GaveAll}
use Rattle.board_text.specs.PlainBoard.{PlainBoard, IsBoard}
use Rattle.board_text.specs.BoardText.{board_text}
use Rattle.board_text.proofs.Cited.{between, one_board, no_fault as faultless_board}
use Rattle.positions.specs.Ranks.{configurations}
use Rattle.positions.specs.declared.value.Value.{Value}
use Rattle.positions.specs.declared.space.TheConstants.{MAX_CONFIGURATIONS}
use Rattle.positions.proofs.Cited.{same_value}
use Rattle.proof_check.proofs.Cited.{only_memory}
use Rattle.proof_text.specs.Proof.{PlainProof}
use Rattle.proof_text.specs.Documents.{IsProof}
use Rattle.proof_text.specs.ProofText.{proof_text}
use Rattle.proof_text.specs.Positions.{configuration_positions}
use Rattle.proof_text.specs.Rules.{BreaksNoRule}
use Rattle.proof_text.proofs.Cited.{one_document, no_fault as faultless_document}
use Rattle.positions.specs.Claim.{claim_of}
use Rattle.strategies.proofs.Cited.{is_formed, breaks_no_rule}
use Rattle.runs.specs.CheckRun.{RanCheck}
use Rattle.runs.specs.Verdicts.{IsAcceptance, IsChecked, IsProofOf, IsVerdict, IsVerdictOf, text_of_proof}
use Rattle.runs.specs.BoardRun.{readers_by}
use Rattle.runs.specs.Run.{Bytes, Ran}
use Rattle.runs.specs.SolveRun.{IsSolution, IsSolved}
use Rattle.runs.specs.Texts.{BeginsAs, HasFaultAs, HasNoBoard, HasNoProof, IsBoardAmong, IsBoardWithin, IsMemory}
use Rattle.runs.specs.Texts.{IsSmallBoard, IsWithinLimit, IsWrongAmong, IsWrongWithin, OfAnySize}
use Rattle.command_line.specs.declared.asked.BoardLimit.{BoardLimit}
use Rattle.command_line.specs.declared.asked.BoardLimit.TheVariants.{Small}
use Rattle.proof_text.specs.SymmetryProof.{PlainSymmetryProof}
use Rattle.proof_text.specs.declared.fault.ProofFault.{ProofFault}
use Rattle.proof_text.specs.declared.fault.ProofKind.TheVariants.{Memory as OutOfMemory}
use Rattle.runs.proofs.DocumentKinds.{begins_as, one_version, without_maps}
use Rattle.runs.specs.declared.verdicts.DocumentVersion.{DocumentVersion}
use Rattle.runs.specs.declared.verdicts.DocumentVersion.TheVariants.{ByConfigurations}
use Rattle.runs.specs.declared.fault.RunFault.{RunFault}
use Rattle.runs.specs.declared.fault.RunFault.TheVariants.{Board, TooLarge, Proof, Memory}
use Rattle.runs.specs.declared.verdicts.Verdict.{Verdict}
use Rattle.runs.specs.declared.verdicts.Verdict.TheVariants.{Accepted, Refused, RefusedByClasses, RefusedUpToSymmetries}

-- the verdict on a document that breaks no rule
verdict_of : (board : PlainBoard) (proof : PlainProof) (value : Value) (verdict : Verdict)
    → BreaksNoRule configuration_positions board proof
    → proof.claim ≡ claim_of value → IsVerdict board proof verdict
    → IsAcceptance (claim_of value) verdict
verdict_of board proof value (Accepted shown rows) rules claim is =
    (rows, ap (λ c. Accepted (record { claim = c }) rows) (is.0 ∙ claim))
verdict_of board proof value (RefusedByClasses fault) rules claim is = absurd is
verdict_of board proof value (RefusedUpToSymmetries fault) rules claim is = absurd is
verdict_of board proof value (Refused fault) rules claim is = absurd (is.1 (only_memory board proof fault rules is.0))

module _ (board : PlainBoard) (value : Value) (text : List ℕ) (is_board : IsBoard board)
    (few : configurations board ≤ MAX_CONFIGURATIONS) (solved : IsSolved board value text) where
  pub accepts : (proof : PlainProof) (verdict : Verdict) → IsProof board proof → text ≡ proof_text board proof
      → IsVerdict board proof verdict
      → IsAcceptance (claim_of value) verdict
  accepts proof verdict is_proof spelled is =
      let document = solved.document in
      let found = solved.is_document in
      let start = is_board.start in
      let same : document ≡ proof = one_document board document proof is_board
      (is_formed board document start few found) is_proof (sym solved.text_is ∙ spelled) in
      let rules : BreaksNoRule configuration_positions board proof =
      subst (BreaksNoRule configuration_positions board) same (breaks_no_rule board document start found) in
      let same_worth : found.value ≡ value =
      same_value board board.start found.value value found.has_value solved.has_value in
      let claim : proof.claim ≡ claim_of value =
      ap (λ (p : PlainProof). p.claim) (sym same) ∙ found.claim ∙ ap claim_of same_worth in
      verdict_of board proof value verdict rules claim is

-- the text of a board that is small enough isn't wrong
pub not_wrong_among : (IsSmall : PlainBoard → Type 0) (text : List ℕ) (board : PlainBoard)
    → IsBoardAmong IsSmall text board → (fault : RunFault) → IsWrongAmong IsSmall text fault → ⊥
not_wrong_among IsSmall text board small (Board fault) wrong =
    wrong.1 (faultless_board text fault.line fault.kind board small.is_board small.spelled wrong.0)
not_wrong_among IsSmall text board small TooLarge (other, is, spelled, many) =
    let same : board ≡ other = one_board board other small.is_board is (sym small.spelled ∙ spelled) in
    many (subst IsSmall same small.few)
not_wrong_among IsSmall text board small fault wrong = wrong

-- nor is that of a board within the limit
pub not_wrong : (limit : BoardLimit) (text : List ℕ) (board : PlainBoard) → IsBoardWithin limit text board
    → (fault : RunFault)
    → IsWrongWithin limit text fault → ⊥
not_wrong limit = not_wrong_among (IsWithinLimit limit)

module _ (text written : List ℕ) (value : Value) (solution : IsSolution text value written) where
  -- the text is that of one board
  same_board : (board : PlainBoard) → IsBoard board → text ≡ board_text board → solution.0 ≡ board
  same_board board is spelled = one_board solution.0 board solution.1.is_board is (sym solution.1.spelled ∙ spelled)

  pub no_fault_of_board : (fault : RunFault) → HasNoBoard text fault → IsMemory fault
  no_fault_of_board (Board fault) wrong = absurd (not_wrong Small text solution.0 solution.1 (Board fault) wrong)
  no_fault_of_board TooLarge wrong = absurd (not_wrong Small text solution.0 solution.1 TooLarge wrong)
  no_fault_of_board Memory wrong = refl
  no_fault_of_board fault wrong = absurd wrong

  module _ (board : PlainBoard) (small : IsSmallBoard text board) where
    solved : IsSolved board value written
    solved = subst (λ b. IsSolved b value written) (same_board board small.is_board small.spelled) solution.2

    -- it begins as one by configurations
    ranked : BeginsAs ByConfigurations written
    ranked = begins_as ByConfigurations written board (without_maps solved.document) solved.text_is

    accepts_of : (version : DocumentVersion) (proof : PlainSymmetryProof) (verdict : Verdict)
        → version ≡ ByConfigurations → IsProofOf version board proof
        → written ≡ text_of_proof version board proof → IsVerdictOf version board proof verdict
        → IsAcceptance (claim_of value) verdict
    accepts_of version proof verdict same is_proof spelled is =
        let formed : IsProofOf ByConfigurations board proof = subst (λ v. IsProofOf v board proof) same is_proof in
        accepts board value written small.is_board small.few solved proof.rows verdict formed.1
        (subst (λ v. written ≡ text_of_proof v board proof) same spelled)
        (subst (λ v. IsVerdictOf v board proof verdict) same is)

    pub accepts_text : (verdict : Verdict) (line : List ℕ) → IsChecked board written verdict line
        → IsAcceptance (claim_of value) verdict
    accepts_text verdict line is =
        accepts_of is.version is.proof verdict
        (one_version written is.version ByConfigurations (begins_as is.version written board is.proof is.text_is)
        ranked)
        is.is_proof is.text_is is.verdict_is

    faultless_as : (version : DocumentVersion) (fault : ProofFault) → version ≡ ByConfigurations
        → HasFaultAs version board written fault → fault.kind ≡ OutOfMemory
    faultless_as version fault same has =
        let told : HasFaultAs ByConfigurations board written fault =
        subst (λ v. HasFaultAs v board written fault) same has in
        faultless_document board written fault.line fault.kind solved.document small.is_board
        (is_formed board solved.document small.is_board.start small.few solved.is_document)
        solved.text_is told.1

    pub no_fault_of_document : (fault : RunFault) → HasNoProof board written fault → IsMemory fault
    no_fault_of_document (Proof fault) (version, begins, has, not) =
        absurd (not (faultless_as version fault (one_version written version ByConfigurations begins ranked) has))
    no_fault_of_document Memory wrong = refl
    no_fault_of_document TooLarge (begins, large) = absurd (large small.few)
    no_fault_of_document fault wrong = absurd wrong

-- bytes that were all given are the text
known_all : (bytes text : List ℕ) (left : Option (List ℕ)) → GaveAll (between (Some bytes) left) text → bytes ≡ text
known_all bytes text None gave = absurd gave.0
known_all bytes text (Some rest) gave = gave.0 ∙ ap (λ r. text ++ r) gave.1 ∙ append-nil text

-- a small board with a text is the board of any size that has it
as_small : (text : List ℕ) (one other : PlainBoard) → IsSmallBoard text one → IsBoardAmong OfAnySize text other
    → IsSmallBoard text other
as_small text one other small is =
    let same : one ≡ other = one_board one other small.is_board is.is_board (sym small.spelled ∙ is.spelled) in
    record { is_board = is.is_board; few = subst (IsWithinLimit Small) same small.few; spelled = is.spelled }

pub runs_agree : (limit board_limit proof_limit : ℕ) (bytes text : List ℕ)
    (solve_left board_left proof_left : Option (List ℕ)) (written : Bytes) (value : Value) (verdict : Verdict)
    → Ran IsSolution limit (between (Some bytes) solve_left) (between (Some []) (Some text)) value
    → RanCheck board_limit proof_limit
    (readers_by (between (Some bytes) board_left) (between (Some text) proof_left)) written verdict
    → IsAcceptance (claim_of value) verdict
runs_agree limit board_limit proof_limit bytes text solve_left board_left proof_left written value verdict
    (read, gave, (printed, solution, wrote))
    (board, (other, gave_too, is), (read_proof, gave_proof, (line, checked, wrote_line))) =
    let same : other ≡ read = sym (known_all bytes other board_left gave_too.0)
    ∙ known_all bytes read solve_left gave.0 in
    let spelled : read_proof ≡ printed = sym (known_all text read_proof proof_left gave_proof.0) ∙ wrote in
    accepts_text read printed value solution board
    (as_small read solution.0 board solution.1 (subst (λ t. IsBoardAmong OfAnySize t board) same is)) verdict line
    (subst (λ t. IsChecked board t verdict line) spelled checked)
