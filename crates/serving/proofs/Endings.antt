-- The outcomes of runs, by their results.
use Rattle.std.proofs.Common.{◌≡◌, ◌≢◌, ◌↔◌, ℕ, List, sym, ap, subst, ◌∙◌, inl, inr}
use Rattle.std.proofs.lemmas.Result.{MatchResult-from_both, IfErr-at_err, IfErr-weaker}
use Rattle.std.specs.Prelude.{Result, Ok, Err, IfOk, IfErr}
use Rattle.board_text.specs.PlainBoard.{PlainBoard}
use Rattle.command_line.specs.declared.asked.BoardLimit.{BoardLimit}
use Rattle.player.specs.declared.end.PlayEnd.{PlayEnd}
use Rattle.positions.specs.declared.side.Side.{Side}
use Rattle.serving.specs.Folders.{File, OpensWith}
use Rattle.serving.specs.Jobs.{Plays, PlaysUpTo, WritesAlone, WritesBoth, WritesWhole}
use Rattle.serving.specs.Outcomes.{EndsAs, outcome_of_check, outcome_of_run}
use Rattle.runs.specs.BoardRun.{FailsOn, RanOn, Readers, readers_by}
use Rattle.runs.specs.PlayRun.{IsToldUpTo, PlayFails, PlayFailsUpTo, PlayStreams, RanPlay, RanPlayUpTo}
use Rattle.runs.specs.SymmetricRun.{GaveNoDomain}
use Rattle.runs.specs.Run.{Bytes, Stream}
use Rattle.runs.specs.declared.reading.TheConstants.{MAX_BOARD_BYTES}
use Rattle.runs.specs.declared.fault.RunFault.{RunFault}
use Rattle.runs.specs.declared.fault.RunFault.TheVariants.{Write}
use Rattle.runs.specs.declared.playing.Playing.{Playing}
use Rattle.serving.specs.declared.outcome.Outcome.{Outcome}
use Rattle.serving.specs.declared.outcome.Outcome.TheVariants.{Broken}
use Rattle.runs.specs.declared.verdicts.Verdict.{Verdict}
use Rattle.runs.specs.declared.verdicts.Verdict.TheVariants.{Accepted as AcceptedAs, Refused as RefusedFor}
use Rattle.runs.specs.declared.verdicts.Verdict.TheVariants.{RefusedByClasses, RefusedUpToSymmetries}

-- a check whose outcome is broken gave this fault
pub broken_check : (r : Result Verdict RunFault) (fault : RunFault) → outcome_of_check r ≡ Broken fault → r ≡ Err fault
broken_check (Ok (AcceptedAs shown rows)) fault is = cc
broken_check (Ok (RefusedFor why)) fault is = cc
broken_check (Ok (RefusedByClasses why)) fault is = cc
broken_check (Ok (RefusedUpToSymmetries why)) fault is = cc
broken_check (Err why) fault is = let same : why ≡ fault = cc in ap (λ f. Err f) same

-- a run whose outcome is broken gave this fault
pub broken_run : {A : Type 0} (r : Result A RunFault) (fault : RunFault) → outcome_of_run r ≡ Broken fault
    → r ≡ Err fault
broken_run (Ok answer) fault is = cc
broken_run (Err why) fault is = let same : why ≡ fault = cc in ap (λ f. Err f) same

-- the outcome of a run is one that its clauses allow
module _ {A : Type 0} (told : Result A RunFault → Outcome) (r : Result A RunFault) (Answers : A → Type 0)
    (Breaks : RunFault → Type 0) where
  pub ends : (outcome : Outcome) → outcome ≡ told r → IfOk r Answers → IfErr r Breaks
      → EndsAs told Answers Breaks outcome
  ends outcome is ok fault = (r, MatchResult-from_both r Answers Breaks ok fault, is)

-- if the outcome is a fault other than of writing, the output was kept
module _ {A : Type 0} (told : Result A RunFault → Outcome)
    (broken : (r : Result A RunFault) (fault : RunFault) → told r ≡ Broken fault → r ≡ Err fault)
    (r : Result A RunFault) (outcome : Outcome) (is : outcome ≡ told r) where
  pub whole : (Kept : Type 0) → IfErr r (λ fault. fault ≢ Write → Kept) → (fault : RunFault) → outcome ≡ Broken fault
      → fault ≢ Write → Kept
  whole Kept unwritten fault breaks = IfErr-at_err (λ f. f ≢ Write → Kept) (broken r fault (sym is ∙ breaks)) unwritten

  pub told_as : (fault : RunFault) → told (Err fault) ≡ Broken fault → (Failed : Type 0) → (Failed ↔ (r ≡ Err fault))
      → (Failed ↔ (outcome ≡ Broken fault))
  told_as fault breaks Failed same =
      ((λ failed. is ∙ ap told (same.0 failed) ∙ breaks), (λ broke. same.1 (broken r fault (sym is ∙ broke))))

-- ---- jobs over files that were opened

-- what was written for the files, with the outcome of that
module _ (output : Stream) (ran outcome : Outcome) (is : outcome ≡ ran) where
  pub wrote_alone : (Writes : Bytes → Stream → Outcome → Type 0) (file : File) (read : Bytes)
      → OpensWith file read.old → Writes read output ran → WritesWhole output ran
      → WritesAlone Writes file output outcome
  wrote_alone Writes file read opens done entire =
      subst (λ o. WritesAlone Writes file output o) (sym is) (inr (read, opens, done), entire)

  pub wrote_both : (Writes : Readers → Stream → Outcome → Type 0) (first second : File) (one two : Bytes)
      → OpensWith first one.old → OpensWith second two.old → Writes (readers_by one two) output ran
      → WritesWhole output ran
      → WritesBoth Writes first second output outcome
  wrote_both Writes first second one two opens opens_too done entire =
      subst (λ o. WritesBoth Writes first second output o) (sym is) (inr (one, two, opens, opens_too, done), entire)

-- of a run that reads a board, and then another text
module _ {A : Type 0} (told : Result A RunFault → Outcome) (IsSmall : PlainBoard → Type 0)
    (IsRest : Bytes → PlainBoard → A → Type 0) (RestFails : Bytes → PlainBoard → RunFault → Type 0) (one two : Bytes)
    (r : Result A RunFault) (outcome : Outcome) (is : outcome ≡ told r) where
  abbrev RanBoth : A → Type 0
  RanBoth answer = RanOn IsSmall MAX_BOARD_BYTES one (λ board. IsRest two board answer)

  abbrev BothFail : Type 0 → RunFault → Type 0
  BothFail Untouched = FailsOn IsSmall MAX_BOARD_BYTES one Untouched (RestFails two)

  -- the fact that a failed run left the other text may be exchanged for one that follows
  untouched : (Old New : Type 0) → (Old → New) → (fault : RunFault) → BothFail Old fault → BothFail New fault
  untouched Old New to fault (inl (none, kept)) = inl (none, to kept)
  untouched Old New to fault (inr rest) = inr rest

  pub ends_on_both : IfOk r RanBoth → (Untouched : Type 0) → (Untouched → two.new ≡ two.old)
      → IfErr r (BothFail Untouched) → EndsAs told RanBoth (BothFail (two.new ≡ two.old)) outcome
  ends_on_both ok Untouched to fault =
      ends told r RanBoth (BothFail (two.new ≡ two.old)) outcome is ok
      (IfErr-weaker r (BothFail Untouched) (BothFail (two.new ≡ two.old))
      (untouched Untouched (two.new ≡ two.old) to) fault)

module _ (limit : BoardLimit) (side : Side) (file : File) (read : Bytes) (opens : OpensWith file read.old)
    (play : PlayStreams) (r : Result PlayEnd RunFault) (outcome : Outcome) (is : outcome ≡ outcome_of_run r) where
  pub opened_play : IfOk r (RanPlay limit side read play) → IfErr r (PlayFails limit side read play)
      → Plays side limit file play outcome
  opened_play ok fault = inr (
    read,
    opens,
    ends outcome_of_run r (RanPlay limit side read play) (PlayFails limit side read play) outcome is ok fault,
  )

-- of a play with values up to symmetries in another file
module _ (limit : BoardLimit) (side : Side) (first second : File) (one two : Bytes) (opens : OpensWith first one.old)
    (opens_too : OpensWith second two.old) (play : PlayStreams) (r : Result PlayEnd RunFault) (outcome : Outcome)
    (is : outcome ≡ outcome_of_run r) (Kept : Type 0) (to : Kept → two.new ≡ two.old) where
  -- the readers of a run, whose second is as it was, and not its bytes alone
  abbrev readers : Readers
  readers = record { board = one; text = two; IsTextKept = Kept }

  not_given : (fault : RunFault) → GaveNoDomain limit readers fault → GaveNoDomain limit (readers_by one two) fault
  not_given fault (inl (none, kept)) = inl (none, to kept)
  not_given fault (inr rest) = inr rest

  fails_so : (fault : RunFault) → PlayFailsUpTo limit side readers play fault
      → PlayFailsUpTo limit side (readers_by one two) play fault
  fails_so fault (inl (none, stays)) = inl (not_given fault none, stays)
  fails_so fault (inr rest) = inr rest

  pub opened_play_up_to : IfOk r (RanPlayUpTo limit side readers play) → IfErr r (PlayFailsUpTo limit side readers play)
      → PlaysUpTo side limit first second play outcome
  opened_play_up_to ok fault = inr (
    one,
    two,
    opens,
    opens_too,
    ends outcome_of_run r (RanPlayUpTo limit side (readers_by one two) play)
        (PlayFailsUpTo limit side (readers_by one two) play) outcome is ok
        (IfErr-weaker r (PlayFailsUpTo limit side readers play) (PlayFailsUpTo limit side (readers_by one two) play)
        fails_so fault),
  )

-- what a person is told in such a play
module _ (playing : Playing) (one two : Bytes) (play : PlayStreams) (Kept : Type 0) (to : Kept → two.new ≡ two.old)
    (result : Result PlayEnd RunFault) (told : List ℕ) where
  pub told_up_to : IsToldUpTo playing (record { board = one; text = two; IsTextKept = Kept }) play result told
      → IsToldUpTo playing (readers_by one two) play result told
  told_up_to (inl (fault, broke, inl (none, kept), stays, is)) = inl (fault, broke, inl (none, to kept), stays, is)
  told_up_to (inl (fault, broke, inr rest, stays, is)) = inl (fault, broke, inr rest, stays, is)
  told_up_to (inr played) = inr played
