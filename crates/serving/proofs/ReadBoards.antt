-- Runs that read the text of a board, and then do something with the board, have one outcome and one text.
use Rattle.std.proofs.Common.{◌≡◌, ◌≢◌, ◌∙◌, ℕ, ◌⊎◌, inl, inr, List, [], ◌++◌, Some, ap, refl, subst, sym}
use Rattle.std.specs.Prelude.{Err, MatchResult, Ok, Result}
use Rattle.board_text.specs.PlainBoard.{IsBoard, PlainBoard}
use Rattle.board_text.proofs.Cited.{one_board}
use Rattle.runs.proofs.Cited.{not_wrong_among, one_wrong_among}
use Rattle.runs.specs.BoardRun.{FailsOn, GaveBoardAmong, GaveNoneAmong, RanOn, Readers, readers_by}
use Rattle.runs.specs.Run.{Bytes, Fails, Ran, Stream}
use Rattle.runs.specs.Texts.{HasNoneAmong, IsBoardAmong, IsWrongAmong}
use Rattle.runs.specs.declared.fault.RunFault.{RunFault}
use Rattle.runs.specs.declared.fault.RunFault.TheVariants.{Read, Write}
use Rattle.runs.specs.declared.reading.TheConstants.{MAX_BOARD_BYTES}
use Rattle.serving.specs.Folders.{CanFail, Closed, File, Holds, Unknown}
use Rattle.serving.specs.Jobs.{OpeningBoth, WritesWhole}
use Rattle.serving.specs.Outcomes.{EndsAs}
use Rattle.serving.specs.declared.outcome.Outcome.{Outcome}
use Rattle.serving.specs.declared.outcome.Outcome.TheVariants.{Broken}
use Rattle.serving.proofs.KnownFiles.{IsFair, PairEnds, plain_of}
use Rattle.serving.proofs.KnownRuns.{Ends, EndsBy, Had, IsOne, IsPlain, ReadEnds, broken_ends, ends, one_read_end}
use Rattle.serving.proofs.KnownRuns.{stayed, then_ends}
use Rattle.serving.proofs.KnownFaults.{IsRefusedOr, wrong_board}

module _ (IsSmall : PlainBoard → Type 0) (Then : PlainBoard → Outcome → List ℕ → Type 0) where
  -- the text is a board's, and this was done with the board
  abbrev WithBoard : List ℕ → Outcome → List ℕ → Type 0
  WithBoard bytes outcome text =
      (board : PlainBoard) × IsBoardAmong IsSmall bytes board × Then board outcome text

  -- the outcome and the text that the text of a board asks for, and then what is done with the board
  abbrev pub BoardThen : List ℕ → Outcome → List ℕ → Type 0
  BoardThen = ReadEnds MAX_BOARD_BYTES (IsWrongAmong IsSmall) WithBoard

  pub one_board_then : ((board : PlainBoard) → IsBoard board → IsOne (Then board)) → (bytes : List ℕ)
      → IsOne (BoardThen bytes)
  one_board_then one_then bytes =
      one_read_end MAX_BOARD_BYTES (IsWrongAmong IsSmall) WithBoard bytes (one_wrong_among IsSmall bytes)
      (λ fault outcome text wrong ends. not_wrong_among IsSmall bytes ends.0 ends.1 fault wrong) one
    where
      one : IsOne (WithBoard bytes)
      one outcome other text line (first, is, ended) (board, small, ended_too) =
          let same : first ≡ board = one_board first board is.is_board small.is_board
          (sym is.spelled ∙ small.spelled) in
          one_then board small.is_board outcome other text line (subst (λ d. Then d outcome text) same ended) ended_too

  module _ (read : Bytes) (bytes : List ℕ) (old : read.old ≡ Some bytes) (output : Stream) (taken : List ℕ)
      (outcome : Outcome) where
    -- the board was read, and this was done with it
    pub with_board : (board : PlainBoard) → GaveBoardAmong IsSmall MAX_BOARD_BYTES read board
        → EndsBy output taken (Then board) outcome → EndsBy output taken (BoardThen bytes) outcome
    with_board board (text, gave, small) (written, wrote, end) =
        then_ends MAX_BOARD_BYTES (IsWrongAmong IsSmall) WithBoard read bytes old output taken outcome text gave
        (written, wrote, (board, small, end))

    -- no board was read, and nothing was written
    pub without_board : IsPlain outcome → (fault : RunFault) → outcome ≡ Broken fault
        → GaveNoneAmong IsSmall MAX_BOARD_BYTES read fault → output.bytes.new ≡ Some (taken ++ [])
        → EndsBy output taken (BoardThen bytes) outcome
    without_board plain =
        broken_ends MAX_BOARD_BYTES (IsWrongAmong IsSmall) WithBoard read bytes old output taken outcome plain
        (HasNoneAmong IsSmall) (wrong_board IsSmall)

-- ---- a run that reads a board in one file, and then another file

module _ {Answer : Type 0} (IsSmall : PlainBoard → Type 0) (outcome_of : Result Answer RunFault → Outcome)
    (Says : PlainBoard → List ℕ → Answer → List ℕ → Type 0) (IsWrong : PlainBoard → List ℕ → RunFault → Type 0)
    (limit : ℕ) where
  -- the outcome and the text that the texts of a board and of the other file ask for
  abbrev pub BothEnd : List ℕ → List ℕ → Outcome → List ℕ → Type 0
  BothEnd board_bytes more_bytes =
      BoardThen IsSmall (λ board. Ends outcome_of (Says board) (IsWrong board) limit more_bytes) board_bytes

  pub one_both_end : ((board : PlainBoard) (bytes : List ℕ) → IsBoard board
      → IsOne (Ends outcome_of (Says board) (IsWrong board) limit bytes))
      → (board_bytes more_bytes : List ℕ) → IsOne (BothEnd board_bytes more_bytes)
  one_both_end one_then b p =
      one_board_then IsSmall (λ board. Ends outcome_of (Says board) (IsWrong board) limit p)
      (λ board is. one_then board p is) b

  module _ (breaks : (fault : RunFault) → outcome_of (Err fault) ≡ Broken fault)
      (Cannot : PlainBoard → List ℕ → RunFault → Type 0)
      (wrong : (board : PlainBoard) (text : List ℕ) (fault : RunFault) → Cannot board text fault
      → IsRefusedOr (IsWrong board text) fault)
      (output : Stream) (taken : List ℕ) (had : Had output taken) (outcome : Outcome) (fair : IsFair outcome) where
    abbrev RanBoth : Readers → Answer → Type 0
    RanBoth read answer =
        RanOn IsSmall MAX_BOARD_BYTES read.board (λ board. Ran (Says board) limit read.text output.bytes answer)

    abbrev BothFail : Readers → RunFault → Type 0
    BothFail read fault =
        FailsOn IsSmall MAX_BOARD_BYTES read.board read.IsTextKept
        (λ board. Fails (Says board) (Cannot board) limit read.text output.bytes) fault

    module _ (whole : WritesWhole output outcome) where
      kept_by : (fault : RunFault) → outcome ≡ Broken fault → fault ≢ Write → output.bytes.new ≡ Some (taken ++ [])
      kept_by fault same other = stayed output taken had (whole fault same other)

      module _ (b p : Bytes) (board_bytes more_bytes : List ℕ) (old : b.old ≡ Some board_bytes)
          (old_too : p.old ≡ Some more_bytes) (plain : IsPlain outcome) where
        abbrev Then : PlainBoard → Outcome → List ℕ → Type 0
        Then board = Ends outcome_of (Says board) (IsWrong board) limit more_bytes

        on_board : (board : PlainBoard) → GaveBoardAmong IsSmall MAX_BOARD_BYTES b board
            → EndsAs outcome_of (Ran (Says board) limit p output.bytes)
            (Fails (Says board) (Cannot board) limit p output.bytes) outcome
            → EndsBy output taken (BothEnd board_bytes more_bytes) outcome
        on_board board gave run =
            with_board IsSmall Then b board_bytes old output taken outcome board gave
            (ends outcome_of (Says board) breaks (Cannot board) (IsWrong board) (wrong board) limit p more_bytes old_too
            output taken had outcome plain whole run)

        both_ended : EndsAs outcome_of (RanBoth (readers_by b p)) (BothFail (readers_by b p)) outcome
            → EndsBy output taken (BothEnd board_bytes more_bytes) outcome
        both_ended (result, match, same) = go result match same
          where
            go : (result : Result Answer RunFault)
                → MatchResult result (RanBoth (readers_by b p)) (BothFail (readers_by b p))
                → outcome ≡ outcome_of result → EndsBy output taken (BothEnd board_bytes more_bytes) outcome
            go (Ok answer) (board, gave, ran) same = on_board board gave (Ok answer, ran, same)
            go (Err fault) (inl (none, untouched)) same =
                let broke = same ∙ breaks fault in
                without_board IsSmall Then b board_bytes old output taken outcome plain fault broke none
                (kept_by fault broke (λ e. plain.write (broke ∙ ap Broken e)))
            go (Err fault) (inr (board, gave, fails)) same = on_board board gave (Err fault, fails, same)

      both_opened : (first second : File) → first ≢ Unknown → second ≢ Unknown
          → (outcome ≡ Broken Read → CanFail first ⊎ CanFail second)
          → OpeningBoth first second (λ read. EndsAs outcome_of (RanBoth read) (BothFail read)) outcome
          → EndsBy output taken (PairEnds BothEnd first second) outcome
      both_opened Unknown second known known_too unread is = absurd (known refl)
      both_opened Closed second known known_too unread (inl (can, same)) =
          ([], kept_by Read same (λ e. cc), (same, refl))
      both_opened Closed second known known_too unread (inr (b, p, opens, opens_too, end)) = absurd opens
      both_opened (Holds bytes) Unknown known known_too unread is = absurd (known_too refl)
      both_opened (Holds bytes) Closed known known_too unread (inl (can, same)) =
          ([], kept_by Read same (λ e. cc), (same, refl))
      both_opened (Holds bytes) Closed known known_too unread (inr (b, p, opens, opens_too, end)) = absurd opens_too
      both_opened (Holds bytes) (Holds more) known known_too unread (inl (inl can, same)) = absurd can
      both_opened (Holds bytes) (Holds more) known known_too unread (inl (inr can, same)) = absurd can
      both_opened (Holds bytes) (Holds more) known known_too unread (inr (b, p, opens, opens_too, end)) =
          both_ended b p bytes more opens opens_too
          (plain_of outcome fair (λ e. elim (unread e) [ inl bad ↦ bad | inr bad ↦ bad ])) end

    pub both_ends : (first second : File) → first ≢ Unknown → second ≢ Unknown
        → (outcome ≡ Broken Read → CanFail first ⊎ CanFail second)
        → OpeningBoth first second (λ read. EndsAs outcome_of (RanBoth read) (BothFail read)) outcome
        × WritesWhole output outcome
        → EndsBy output taken (PairEnds BothEnd first second) outcome
    both_ends first second known known_too unread is =
        both_opened is.1 first second known known_too unread is.0
