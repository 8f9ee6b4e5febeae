-- Where standard error is no terminal, a person is told nothing.
use Rattle.std.proofs.Common.{◌≡◌, ℕ, suc, ◌&&◌, Bool, true, false, List, [], ◌∷◌, ◌++◌, ap, inl, inr, refl, subst, ◌∙◌}
use Rattle.std.specs.Prelude.{Err, None, Ok, Option, Result, Some, if◌then◌else◌}
use Rattle.std.specs.Borrow.{Bor}
use Rattle.clap.specs.Walk.{Text}
use Rattle.board_text.specs.PlainBoard.{PlainBoard}
use Rattle.command_line.specs.declared.asked.BoardLimit.{BoardLimit}
use Rattle.command_line.specs.declared.asked.Job.{Job}
use Rattle.command_line.specs.declared.asked.Job.TheVariants.{Joined, Check, Nested, Solve, Report, Starts, Chains}
use Rattle.command_line.specs.declared.asked.Job.TheVariants.{Play, Climb}
use Rattle.console.specs.declared.streams.Terminals.{Terminals}
use Rattle.player.specs.Prompts.{ArePrompts}
use Rattle.player.specs.Transcript.{PersonClimbs}
use Rattle.player.specs.declared.end.PlayEnd.{PlayEnd}
use Rattle.player.proofs.Cited.{nothing_told}
use Rattle.positions.specs.declared.side.Side.{Side}
use Rattle.runs.specs.BoardRun.{readers_by}
use Rattle.runs.specs.CheckRun.{RanCheck}
use Rattle.console.specs.Watching.{lines_of}
use Rattle.runs.specs.Notices.{AfterRounds, IsToldInRun, IsToldOfChains, IsToldOnBoard, nothing_after, notice_of_length}
use Rattle.runs.specs.PlayRun.{ArePrompted, PlayStreams, game_played, prompts_after}
use Rattle.runs.specs.Run.{Bytes, Ran}
use Rattle.runs.specs.Verdicts.{IsAnswered}
use Rattle.runs.specs.declared.checking.TheConstants.{MAX_JOINED_BYTES, MAX_PROOF_BYTES}
use Rattle.runs.specs.declared.fault.RunFault.{RunFault}
use Rattle.runs.specs.declared.reading.TheConstants.{MAX_BOARD_BYTES}
use Rattle.runs.specs.declared.verdicts.Verdict.{Verdict}
use Rattle.runs.specs.declared.verdicts.Verdict.TheVariants.{Accepted, Refused, RefusedByClasses, RefusedUpToSymmetries}
use Rattle.serving.specs.Folders.{File}
use Rattle.runs.specs.declared.summaries.Summary.TheVariants as summaries
use Rattle.serving.specs.Telling.{AnswerOf, IsToldAfterCheck, IsToldInJob, IsToldOfValues, OpensAndTells, rows_line}
use Rattle.serving.specs.Telling.{playing_at, rows_told, types_and_sees}
use Rattle.serving.specs.declared.value_texts.ValueText.{ValueText}
use Rattle.serving.specs.declared.value_texts.ValueText.TheVariants as texts
use Rattle.serving.proofs.Greetings.{ungreeted}
use Rattle.serving.specs.declared.outcome.Outcome.{Outcome}

-- nobody sees standard error
unseen : (typed sees : Bool) → sees ≡ false → (typed && sees) ≡ false
unseen true sees off = off
unseen false sees off = refl

-- nothing of a board and its rounds, where nothing is told after them
untold_on : {Answer : Type 0} (IsGiven : PlainBoard → Type 0) (IsMissing : RunFault → Type 0) (shows : Bool)
    → shows ≡ false → (after : AfterRounds)
    → ((board : PlainBoard) (later : List ℕ) → after.IsTold board later → later ≡ [])
    → (result : Result Answer RunFault) (told : List ℕ) → IsToldOnBoard IsGiven IsMissing shows after result told
    → told ≡ []
untold_on IsGiven IsMissing true off after none result told is = cc
untold_on IsGiven IsMissing false off after none result told (inl missing) = missing.4
untold_on IsGiven IsMissing false off after none result told
    (inr (board, given, rest, is, inl (refused, untouched, nothing))) = is ∙ nothing
untold_on IsGiven IsMissing false off after none result told
    (inr (board, given, rest, is, inr (rounds, later, both, all, are))) =
    is ∙ both ∙ ap (λ r. r ++ later) all ∙ none board later are

-- nor of lengths of many chains
no_lines : (shows : Bool) → shows ≡ false → (step : ℕ) (counts : List ℕ)
    → lines_of (notice_of_length shows) step counts ≡ []
no_lines true off step counts = cc
no_lines false off step [] = refl
no_lines false off step (count ∷ counts) = no_lines false refl (suc step) counts

no_lengths : (most : ℕ) (read : Bytes) (shows : Bool) → shows ≡ false → (result : Result (Unit {0}) RunFault)
    (told : List ℕ) → IsToldOfChains most read shows result told → told ≡ []
no_lengths most read shows off result told (inl (board, gave, counts, are, complete, is)) =
    is ∙ no_lines shows off 1 counts
no_lengths most read shows off result told (inr (fault, broke, missing, none)) = none

-- nor of the rows of a document
no_rows : (shows : Bool) → shows ≡ false → (result : Result Verdict RunFault) → rows_told shows result ≡ []
no_rows shows off (Ok (Accepted shown rows)) = ap (λ b. if b then rows_line rows else []) off
no_rows shows off (Ok (Refused fault)) = refl
no_rows shows off (Ok (RefusedByClasses fault)) = refl
no_rows shows off (Ok (RefusedUpToSymmetries fault)) = refl
no_rows shows off (Err fault) = refl

uncounted : (shows : Bool) → shows ≡ false → (IsOfRun : Verdict → Type 0) (outcome : Outcome) (told : List ℕ)
    → IsToldAfterCheck shows IsOfRun outcome told → told ≡ []
uncounted shows off IsOfRun outcome told (result, same, ran, is) = is ∙ no_rows shows off result

unopened : {Answer : Type 0} (file : File) (Tells : Bytes → Result Answer RunFault → List ℕ → Type 0)
    (outcome : Outcome) (told : List ℕ)
    → ((read : Bytes) (result : Result Answer RunFault) → Tells read result told → told ≡ [])
    → OpensAndTells file Tells outcome told → told ≡ []
unopened file Tells outcome told none (inl (fails, is)) = is
unopened file Tells outcome told none (inr (read, opens, (result, same, tells))) = none read result tells

module _ (at : List ℕ → File) (terminals : Terminals) (off : terminals.errors ≡ false) (play : PlayStreams)
    (outcome : Outcome) where
  unseen_here : types_and_sees terminals ≡ false
  unseen_here = unseen terminals.input terminals.errors off

  -- no prompts of a play
  unprompted : (side : Side) (limit : BoardLimit) (result : Result PlayEnd RunFault) (board : PlainBoard)
      (prompts : List ℕ) → ArePrompted (playing_at terminals side limit) board play result prompts → prompts ≡ []
  unprompted side limit result board prompts (played, same, are) =
      nothing_told (game_played side board) prompts play.lines play.written played
      (subst (λ shows. ArePrompts shows (game_played side board) play.lines play.written played prompts) unseen_here
      are)

  -- of the size of a board
  size_untold : (text : ValueText) (limit : BoardLimit) (symmetries : Option (Bor Text)) (board : Bor Text)
      (told : List ℕ) → IsToldOfValues at terminals.errors text limit symmetries board outcome told → told ≡ []
  size_untold text limit None board told is =
      unopened {Answer = AnswerOf text} (at board.now) (λ read. IsToldInRun limit read terminals.errors nothing_after)
      outcome told
      (λ read result tells. untold_on _ _ terminals.errors off nothing_after (λ given later none. none) result told
      tells) is
  size_untold text limit (Some symmetries) board told is = is

  pub nothing_in_job : (job : Job) (told : List ℕ) → IsToldInJob at terminals play outcome job told → told ≡ []
  nothing_in_job Joined told (rows, after, is) =
      is ∙ ap (λ greeting. greeting ++ rows) (ungreeted terminals unseen_here)
      ∙ uncounted terminals.errors off (Ran IsAnswered MAX_JOINED_BYTES play.lines play.written) outcome rows after
  nothing_in_job (Check board proof) told (inl (fails, is)) = is
  nothing_in_job (Check board proof) told (inr (b, p, opens, opens_too, after)) =
      uncounted terminals.errors off (RanCheck MAX_BOARD_BYTES MAX_PROOF_BYTES (readers_by b p) play.written) outcome
      told after
  nothing_in_job (Nested levels pebbles) told is = is
  nothing_in_job (Solve workers side limit symmetries board) told is =
      size_untold (texts.Document side) limit symmetries board told is
  nothing_in_job (Report workers limit symmetries board) told is =
      size_untold (texts.Summary summaries.Report) limit symmetries board told is
  nothing_in_job (Starts workers limit symmetries board) told is =
      size_untold (texts.Summary summaries.Starts) limit symmetries board told is
  nothing_in_job (Chains workers most board) told is =
      unopened {Answer = Unit {0}} (at board.now) (λ read. IsToldOfChains most read terminals.errors) outcome told
      (λ read result tells. no_lengths most read terminals.errors off result told tells) is
  nothing_in_job (Play side limit None board) told is =
      unopened {Answer = PlayEnd} (at board.now)
      (λ read result. IsToldInRun limit read terminals.errors
      (prompts_after (playing_at terminals side limit) play result) result) outcome told
      (λ read result tells. untold_on _ _ terminals.errors off
      (prompts_after (playing_at terminals side limit) play result) (unprompted side limit result) result told
      tells) is
  nothing_in_job (Play side limit (Some symmetries) board) told (inl (fails, is)) = is
  nothing_in_job (Play side limit (Some symmetries) board) told
      (inr (b, s, opens, opens_too, (result, same, tells))) =
      untold_on _ _ false refl (prompts_after (playing_at terminals side limit) play result)
      (unprompted side limit result) result told tells
  nothing_in_job (Climb levels) told (played, same, are) =
      nothing_told (PersonClimbs levels) told play.lines play.written played
      (subst (λ shows. ArePrompts shows (PersonClimbs levels) play.lines play.written played told) unseen_here are)
