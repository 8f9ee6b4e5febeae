-- Checks of known bytes have one outcome and one line.
use Rattle.std.proofs.Common.{◌≡◌, ◌≢◌, ◌∙◌, ℕ, ◌⊎◌, inl, inr, List, ◌++◌, ap, refl, subst, sym, take}
use Rattle.std.specs.Prelude.{Err, Ok}
use Rattle.board_text.specs.BoardFaults.{HasBoardFault}
use Rattle.board_text.specs.BoardText.{board_text}
use Rattle.board_text.specs.PlainBoard.{IsBoard, PlainBoard}
use Rattle.board_text.specs.declared.fault.BoardFault.{BoardFault}
use Rattle.board_text.proofs.Cited.{no_fault as faultless_board, one_fault as one_board_fault}
use Rattle.runs.proofs.Cited.{one_length, one_verdict, one_wrong_proof, verdict_or_fault}
use Rattle.runs.specs.Run.{Stream}
use Rattle.runs.specs.Texts.{HasNoProof, IsWrongProof, OfAnySize}
use Rattle.runs.specs.Verdicts.{BeginsWithBoard, CannotAnswer, IsAnswered, IsChecked, IsWrongText}
use Rattle.runs.specs.declared.checking.TheConstants.{MAX_JOINED_BYTES, MAX_PROOF_BYTES}
use Rattle.runs.specs.declared.fault.RunFault.{RunFault}
use Rattle.runs.specs.declared.fault.RunFault.TheVariants.{Board, Read}
use Rattle.runs.specs.declared.verdicts.Verdict.{Verdict}
use Rattle.serving.specs.Folders.{CanFail, File, Unknown}
use Rattle.serving.specs.Jobs.{ChecksFor, ChecksJoined, WritesBoth}
use Rattle.serving.specs.Outcomes.{outcome_of_check}
use Rattle.serving.specs.declared.outcome.Outcome.{Outcome}
use Rattle.serving.specs.declared.outcome.Outcome.TheVariants.{Broken}
use Rattle.serving.proofs.BoardEnds.{board_is_front, one_front}
use Rattle.serving.proofs.KnownFiles.{IsFair, PairEnds, plain_of}
use Rattle.serving.proofs.KnownRuns.{Ends, EndsBy, Had, IsOne, ends, one_end}
use Rattle.serving.proofs.KnownFaults.{wrong_joined, wrong_proof}
use Rattle.serving.proofs.ReadBoards.{BothEnd, both_ends, one_both_end}

check_breaks : (fault : RunFault) → outcome_of_check (Err fault) ≡ Broken fault
check_breaks fault = refl

one_check : (board : PlainBoard) (text : List ℕ) → IsBoard board → (verdict other : Verdict) (line more : List ℕ)
    → IsChecked board text verdict line → IsChecked board text other more
    → (outcome_of_check (Ok verdict) ≡ outcome_of_check (Ok other)) × (line ≡ more)
one_check board text is_board verdict other line more is also =
    let same = one_verdict board text is_board verdict other line more is also in
    (ap (λ v. outcome_of_check (Ok v)) same.0, same.1)

-- ---- a board and a document after it, as a check reads them

module _ (text : List ℕ) where
  -- a text that begins with a board's has no fault of a board's text
  no_board_fault : (board : PlainBoard) (rest : List ℕ) (fault : BoardFault) → IsBoard board
      → text ≡ board_text board ++ rest
      → IsWrongText text (Board fault) → ⊥
  no_board_fault board rest fault is same (size, long, has, other) =
      other (faultless_board (take size text) fault.line fault.kind board is
      (board_is_front board text rest size is same long) has)

  -- the board of a text that begins with two is one
  one_begin : (board other : PlainBoard) (rest more : List ℕ) → BeginsWithBoard text board rest
      → BeginsWithBoard text other more
      → (board ≡ other) × (rest ≡ more)
  one_begin board other rest more is also =
      one_front board other text rest more is.is_board also.is_board is.text_is also.text_is

  -- a fault is one of the board's text, or of what is after it
  wrong_text_is : (fault : RunFault) → IsWrongText text fault
      → ((told : BoardFault) × (fault ≡ Board told) × IsWrongText text (Board told))
      ⊎ ((board : PlainBoard) × (rest : List ℕ) × BeginsWithBoard text board rest × IsWrongProof board rest fault)
  wrong_text_is (Board told) h = inl (told, refl, h)
  wrong_text_is fault h = inr h

  one_board_text_fault : (told other : BoardFault) → IsWrongText text (Board told) → IsWrongText text (Board other)
      → told ≡ other
  one_board_text_fault told other (size, long, has, not) (size_too, long_too, has_too, not_too) =
      let sizes : size ≡ size_too = one_length text size size_too long long_too in
      let same = one_board_fault (take size_too text) told.line other.line told.kind other.kind not not_too
      (subst (λ n. HasBoardFault (take n text) told.line told.kind) sizes has) has_too in
      let is : ◌≡◌ {A = BoardFault} (record { line = told.line; kind = told.kind }) other =
      rw (same.0, same.1) refl in
      is

  one_joined_fault : (fault other : RunFault) → IsWrongText text fault → IsWrongText text other → fault ≡ other
  one_joined_fault fault other wrong also = elim (wrong_text_is fault wrong) [
    | inl (told, is, bad) ↦ elim (wrong_text_is other also) [
      | inl (too, is_too, bad_too) ↦ is ∙ ap Board (one_board_text_fault told too bad bad_too) ∙ sym is_too
      | inr (board, rest, begins, after) ↦
          absurd (no_board_fault board rest told begins.is_board begins.text_is bad)
    ]
    | inr (board, rest, begins, after) ↦ elim (wrong_text_is other also) [
      | inl (too, is_too, bad_too) ↦
          absurd (no_board_fault board rest too begins.is_board begins.text_is bad_too)
      | inr (second, more, begins_too, after_too) ↦
          let same = one_begin board second rest more begins begins_too in
          one_wrong_proof second more begins_too.is_board fault other
          (subst (λ t. IsWrongProof second t fault) same.1 (subst
          (λ b. IsWrongProof b rest fault) same.0 after)) after_too
    ]
  ]

  one_joined : (verdict other : Verdict) (line more : List ℕ) → IsAnswered text verdict line
      → IsAnswered text other more
      → (outcome_of_check (Ok verdict) ≡ outcome_of_check (Ok other)) × (line ≡ more)
  one_joined verdict other line more (board, rest, begins, is) (second, after, begins_too, also) =
      let same = one_begin board second rest after begins begins_too in
      one_check second after begins_too.is_board verdict other line more
      (subst (λ t. IsChecked second t verdict line) same.1 (subst (λ b. IsChecked b rest verdict line) same.0 is)) also

  joined_apart : (verdict : Verdict) (line : List ℕ) (fault : RunFault) → IsAnswered text verdict line
      → IsWrongText text fault → ⊥
  joined_apart verdict line fault (board, rest, begins, is) wrong = elim (wrong_text_is fault wrong) [
    | inl (told, same, bad) ↦ no_board_fault board rest told begins.is_board begins.text_is bad
    | inr (second, more, begins_too, after) ↦
        let same = one_begin second board more rest begins_too begins in
        verdict_or_fault board rest begins.is_board verdict line fault is
        (subst (λ t. IsWrongProof board t fault) same.1 (subst (λ b. IsWrongProof b more fault) same.0 after))
  ]

  -- the outcome and the line that the text asks for
  abbrev pub JoinedEnds : Outcome → List ℕ → Type 0
  JoinedEnds = Ends outcome_of_check IsAnswered IsWrongText MAX_JOINED_BYTES text

  pub one_joined_end : IsOne JoinedEnds
  one_joined_end =
      one_end outcome_of_check IsAnswered IsWrongText MAX_JOINED_BYTES text one_joined one_joined_fault joined_apart

  pub joined_ends : (input output : Stream) (taken : List ℕ) → Had input text → Had output taken
      → (outcome : Outcome) → IsFair outcome → (outcome ≡ Broken Read → input.HasFailed)
      → ChecksJoined input output outcome → EndsBy output taken JoinedEnds outcome
  joined_ends input output taken had_text had outcome fair unread is =
      ends outcome_of_check IsAnswered check_breaks CannotAnswer IsWrongText wrong_joined MAX_JOINED_BYTES input.bytes
      text had_text.old output taken had outcome (plain_of outcome fair (λ e. had_text.sound (unread e))) is.1 is.0

-- ---- a board in one file, and a document in another

-- the outcome and the line that they ask for
abbrev pub CheckEnds : List ℕ → List ℕ → Outcome → List ℕ → Type 0
CheckEnds = BothEnd OfAnySize outcome_of_check IsChecked IsWrongProof MAX_PROOF_BYTES

pub one_check_end : (board_bytes document_bytes : List ℕ) → IsOne (CheckEnds board_bytes document_bytes)
one_check_end = one_both_end OfAnySize outcome_of_check IsChecked IsWrongProof MAX_PROOF_BYTES
    (λ board bytes is. one_end outcome_of_check (IsChecked board) (IsWrongProof board) MAX_PROOF_BYTES bytes
    (one_check board bytes is) (one_wrong_proof board bytes is) (verdict_or_fault board bytes is))

pub check_ends : (output : Stream) (taken : List ℕ) → Had output taken → (outcome : Outcome) → IsFair outcome
    → (first second : File) → first ≢ Unknown → second ≢ Unknown
    → (outcome ≡ Broken Read → CanFail first ⊎ CanFail second) → WritesBoth ChecksFor first second output outcome
    → EndsBy output taken (PairEnds CheckEnds first second) outcome
check_ends output taken had outcome fair first second known known_too unread is =
    both_ends OfAnySize outcome_of_check IsChecked IsWrongProof MAX_PROOF_BYTES check_breaks HasNoProof wrong_proof
    output taken had outcome fair first second known known_too unread is
