-- The text that is written before the first line is read.
use Rattle.std.proofs.Common.{◌≡◌, ℕ, List, [], ◌++◌, inl, inr, refl, sym, ap, ◌∙◌, subst, arith, append_assoc}
use Rattle.std.specs.Prelude.{Option, None, Some}
use Rattle.std.specs.Io.KnownBytes.{Appends, Keeps}
use Rattle.board_text.specs.Streams.{AppendsAll, AppendsPrefix, AreAsBefore, Bytes}
use Rattle.board_text.proofs.Cited.{Appends-trans, between}
use Rattle.player.specs.Transcript.{Going, Over, Standing, Stops}
use Rattle.player.specs.Play.{Ends, GoesOnOrEnds, HasEnded, HasWritten, BreaksOff}
use Rattle.player.specs.declared.end.PlayEnd.{PlayEnd}
use Rattle.player.specs.declared.end.PlayFault.{PlayFault}
use Rattle.player.specs.declared.end.PlayFault.TheVariants.{Read, Write, Memory, Limit}
use Rattle.player.proofs.ReadLines.{none_yet, came_of}
use Rattle.console.proofs.Cited.{Appends-none, front_behind}
use Rattle.player.proofs.WrittenPlay.{goes_on_or_ends, front_kept}

-- a play, by its opening and what it brings behind it
module _ (Brings Played : List (List ℕ) → List ℕ → Standing → Type 0) (opening : List ℕ)
    (played : (lines : List (List ℕ)) (more : List ℕ) (to : Standing) → Brings lines more to
    → Played lines (opening ++ more) to) where
  stops : (lines : List (List ℕ)) (more : List ℕ) (end : PlayEnd) → Stops Brings lines more end
      → Stops Played lines (opening ++ more) end
  stops lines more end h = (
    h.0,
    opening ++ h.1,
    h.2,
    played lines h.1 (Going h.0 h.2) h.3,
    ap (λ l. opening ++ l) h.4 ∙ sym (append_assoc opening h.1 _),
    h.5,
  )

  ends : (left : Option (List ℕ)) (lines : List (List ℕ)) (rest more : List ℕ) (end : PlayEnd)
      → Ends Brings left lines rest more end
      → Ends Played left lines rest (opening ++ more) end
  ends left lines rest more end (inl over) = inl (played lines more (Over end) over)
  ends left lines rest more end (inr stopped) = inr (stops lines more end stopped.0, stopped.1, stopped.2, stopped.3)

  goes_on_or_ends_too : (left : Option (List ℕ)) (lines : List (List ℕ)) (rest more : List ℕ)
      → GoesOnOrEnds Brings left lines rest more
      → GoesOnOrEnds Played left lines rest (opening ++ more)
  goes_on_or_ends_too left lines rest more (inl going) =
      inl (going.0, going.1, played lines more (Going going.0 going.1) going.2)
  goes_on_or_ends_too left lines rest more (inr over) = inr (over.0, ends left lines rest more over.0 over.1)

  module _ (left : Bytes) (taken_old taken_now taken_new : Option (List ℕ))
      (written : Appends taken_old taken_now opening) where
    pub has_ended : (end : PlayEnd) → HasEnded Brings left (between taken_now taken_new) end
        → HasEnded Played left (between taken_old taken_new) end
    has_ended end h = (
      h.0,
      h.1,
      opening ++ h.2,
      h.3,
      ends left.new h.0 h.1 h.2 end h.4,
      Appends-trans taken_old taken_now taken_new opening h.2 written h.5,
    )

    has_written : (Waits : List (List ℕ) → List ℕ → Type 0)
        → HasWritten Brings left (between taken_now taken_new) Waits
        → HasWritten Played left (between taken_old taken_new) Waits
    has_written Waits h = (
      h.0,
      h.1,
      opening ++ h.2,
      h.3,
      h.4,
      h.5,
      h.6,
      played h.0 h.2 (Going h.3 h.4) h.7,
      Appends-trans taken_old taken_now taken_new opening h.2 written h.8,
    )

    behind : (text : List ℕ) → AppendsPrefix (between taken_now taken_new) text
        → AppendsPrefix (between taken_old taken_new) (opening ++ text)
    behind text begun = front_behind taken_old taken_now taken_new opening text written begun

    pub breaks_off : (fault : PlayFault) → BreaksOff Brings left (between taken_now taken_new) fault
        → BreaksOff Played left (between taken_old taken_new) fault
    breaks_off Read h = has_written _ h
    breaks_off Limit h = has_written _ h
    breaks_off Write h = (h.0, h.1, opening ++ h.2, h.3, goes_on_or_ends_too left.new h.0 h.1 h.2 h.4, behind h.2 h.5)
    breaks_off Memory h = (h.0, h.1, opening ++ h.2, h.3, goes_on_or_ends_too left.new h.0 h.1 h.2 h.4, behind h.2 h.5)

-- no line has been read
module _ (Played : List (List ℕ) → List ℕ → Standing → Type 0) (opening : List ℕ) (first : Standing)
    (alone : Played [] opening first) where
  -- nothing was written
  pub unopened : (left : Option (List ℕ)) (taken : Bytes) → AreAsBefore taken
      → BreaksOff Played (between left left) taken Memory
  unopened left taken kept = (
    [],
    [],
    opening,
    came_of (between left left) [] _ (omega arith) (none_yet left),
    goes_on_or_ends Played left [] [] opening first alone,
    front_kept taken.old taken.old taken.new [] opening (Appends-none taken.old) kept,
  )

  -- the play is over before a line is read
  pub over_at_once : (left : Option (List ℕ)) (taken : Bytes) (end : PlayEnd) → first ≡ Over end
      → AppendsAll taken opening → HasEnded Played (between left left) taken end
  over_at_once left taken end over written = (
    [],
    [],
    opening,
    came_of (between left left) [] _ (omega arith) (none_yet left),
    inl (subst (Played [] opening) over alone),
    written,
  )

  -- the opening wasn't written whole
  pub unshown_opening : (left : Option (List ℕ)) (taken : Bytes) → AppendsPrefix taken opening
      → BreaksOff Played (between left left) taken Write
  unshown_opening left taken begun = (
    [],
    [],
    opening,
    came_of (between left left) [] _ (omega arith) (none_yet left),
    goes_on_or_ends Played left [] [] opening first alone,
    front_behind taken.old taken.old taken.new [] opening (Appends-none taken.old) begun,
  )

pub Keeps-same : (a : Option (List ℕ)) → Keeps a a
Keeps-same None = tt
Keeps-same (Some x) = refl
