-- What a person is told in a play, line by line.
use Rattle.std.proofs.Common.{◌≡◌, ℕ, ◌<◌, Bool, true, false, List, [], ◌∷◌, ◌++◌}
use Rattle.std.proofs.Common.{inl, inr, refl, sym, ap, ◌∙◌, subst, append-nil, append_assoc, length}
use Rattle.std.specs.Prelude.{Option, Result, Ok, Err}
use Rattle.std.specs.Io.KnownBytes.{Appends}
use Rattle.board_text.specs.Streams.{AppendsAll, AppendsPrefix, AreAsBefore, Bytes}
use Rattle.board_text.proofs.Cited.{between}
use Rattle.positions.specs.declared.value.Value.{Value}
use Rattle.player.specs.Inside.Prompts.{IsToldHere, IsToldAtEnd, greeting_if, hint_there}
use Rattle.player.specs.Inside.LineInput.{GivesNoLine, Unread}
use Rattle.player.specs.Inside.Steps.{FailsToWrite}
use Rattle.player.specs.Play.{BreaksOff, Ends, GoesOnOrEnds, HasEnded}
use Rattle.player.specs.Prompts.{ArePrompts, AreToldResponses, EndsAfter, EndsBefore, HasValueIn, IsPlayedAndTold}
use Rattle.player.specs.Prompts.{hint_after, IsToldAt, IsToldIn, IsToldLast, NearlyTells, Telling, TellsBefore}
use Rattle.player.specs.Prompts.{greeting_of, shown_line, start_of, told_from, told_play}
use Rattle.player.specs.Transcript.{AreResponses, BeginsPlay, Game, Going, IsPlayed, IsResponse, Over, Standing}
use Rattle.player.specs.declared.end.PlayEnd.{PlayEnd}
use Rattle.player.specs.declared.end.PlayFault.{PlayFault}
use Rattle.player.specs.declared.end.PlayFault.TheVariants.{Read, Write, Memory, Limit}
use Rattle.player.specs.declared.turns.TheConstants.{MOST_LINES}
use Rattle.player.proofs.OpeningLines.{breaks_off, has_ended, over_at_once, unopened, unshown_opening}
use Rattle.player.proofs.ReadLines.{HasCome}
use Rattle.player.proofs.WrittenPlay.{brings_more, no_line}

-- ---- one line more

-- the replies without what is told
module _ (game : Game) where
  pub told_more : (from : Standing) (lines : List (List ℕ)) (line text said told prompt : List ℕ) (to next : Standing)
      → AreToldResponses game from lines text told to → IsResponse game to line said next
      → IsToldAt game next prompt
      → AreToldResponses game from (lines ++ line ∷ []) (text ++ said) (told ++ (hint_after line ++ prompt)) next
  told_more from [] line text said told prompt to next (none, here, same) is there = (
    said,
    [],
    told,
    prompt,
    next,
    here,
    subst (λ s. IsResponse game s line said next) (sym same) is,
    (refl, there, refl),
    ap (λ l. l ++ said) none ∙ sym (append-nil said),
    refl,
  )
  told_more from (first ∷ lines) line text said told prompt to next
      (reply, more, words, later, stood, here, was, rest, text_is, told_is) is there = (
        reply,
        more ++ said,
        words,
        later ++ (hint_after line ++ prompt),
        stood,
        here,
        was,
        told_more stood lines line more said later prompt to next rest is there,
        ap (λ l. l ++ said) text_is ∙ append_assoc reply more said,
        ap (λ l. l ++ (hint_after line ++ prompt)) told_is
            ∙ append_assoc words (hint_after first ++ later) (hint_after line ++ prompt)
            ∙ ap (λ l. words ++ l) (append_assoc (hint_after first) later (hint_after line ++ prompt)),
      )

module _ (game : Game) (at : List ℕ) (requests : ℕ) where
  -- before a line is read
  pub begins_told : (shows : Bool) (prompt : List ℕ) → IsToldHere shows game at prompt
      → (told_from shows game (Going at requests)).Tells (greeting_if shows game ++ prompt) [] [] (Going at requests)
  begins_told true prompt here = (prompt, (refl, here, refl), refl)
  begins_told false prompt here = ((refl, refl), here)

  -- a line that leaves the play going
  pub goes_on_told : (shows : Bool) (told prompt : List ℕ) (lines : List (List ℕ)) (line text said stood now : List ℕ)
      (before answered : ℕ) → (told_from shows game (Going at requests)).Tells told lines text (Going stood before)
      → IsResponse game (Going stood before) line said (Going now answered)
      → IsToldHere shows game now prompt
      → (told_from shows game (Going at requests)).Tells (told ++ (hint_there shows line ++ prompt))
      (lines ++ line ∷ []) (text ++ said) (Going now answered)
  goes_on_told true told prompt lines line text said stood now before answered (prompts, brings, is) replies here = (
    prompts ++ (hint_after line ++ prompt),
    told_more game (Going at requests) lines line text said prompts prompt (Going stood before)
        (Going now answered) brings replies here,
    ap (λ l. l ++ (hint_after line ++ prompt)) is
        ∙ append_assoc (shown_line (greeting_of game)) prompts (hint_after line ++ prompt),
  )
  goes_on_told false told prompt lines line text said stood now before answered (brings, none) replies here = (
    brings_more game (Going at requests) lines line text said (Going stood before) (Going now answered) brings replies,
    ap (λ l. l ++ prompt) none ∙ here,
  )

  -- a line that ends it
  pub ends_told : (shows : Bool) (told : List ℕ) (lines : List (List ℕ)) (line text said stood : List ℕ) (before : ℕ)
      (end : PlayEnd) → (told_from shows game (Going at requests)).Tells told lines text (Going stood before)
      → IsResponse game (Going stood before) line said (Over end)
      → (told_from shows game (Going at requests)).Tells (told ++ hint_there shows line) (lines ++ line ∷ [])
      (text ++ said) (Over end)
  ends_told true told lines line text said stood before end (prompts, brings, is) replies = (
    prompts ++ hint_after line,
    subst (λ l. AreToldResponses game (Going at requests) (lines ++ line ∷ []) (text ++ said) (prompts ++ l) (Over end))
        (append-nil (hint_after line))
        (told_more game (Going at requests) lines line text said prompts [] (Going stood before)
        (Over end) brings replies refl),
    ap (λ l. l ++ hint_after line) is
        ∙ append_assoc (shown_line (greeting_of game)) prompts (hint_after line),
  )
  ends_told false told lines line text said stood before end (brings, none) replies = (
    brings_more game (Going at requests) lines line text said (Going stood before) (Over end) brings replies,
    ap (λ l. l ++ []) none,
  )

  -- a line whose reply isn't written, whatever it is
  pub nearly_told : (shows : Bool) (left : Bytes) (told : List ℕ) (lines : List (List ℕ))
      (line text said stood : List ℕ) (before : ℕ) (to : Standing)
      → AreResponses game (Going at requests) lines text (Going stood before)
      → (told_from shows game (Going at requests)).Tells told lines text (Going stood before)
      → IsResponse game (Going stood before) line said to
      → NearlyTells (told_from shows game (Going at requests)) left told (lines ++ line ∷ []) (text ++ said) to
  nearly_told shows left told lines line text said stood before to brought tells replies = inr (
    brings_more game (Going at requests) lines line text said (Going stood before) to brought replies,
    inl (lines, line, refl, text, Going stood before, tells),
  )

-- as many requests were answered as the value has
pub reached : (shows : Bool) (value : Value) (end : PlayEnd) → (EndsBefore end value → ⊥)
    → (EndsAfter end value → ⊥) → IsToldAtEnd shows value end []
reached true value end not_before not_after = inr (inr (not_before, not_after, refl))
reached false value end not_before not_after = refl

-- what is told at the end
pub last_told : (shows : Bool) (game : Game) (value : Value) (end : PlayEnd) (told : List ℕ)
    → HasValueIn game (start_of game) value → IsToldAtEnd shows value end told → IsToldLast shows game end told
last_told true game value end told has is = (value, has, is)
last_told false game value end told has is = is

-- ---- faults

module _ (telling : Telling) (left taken last : Bytes) (told : List ℕ) where
  -- a text wasn't written whole
  pub near : (IsRight : List ℕ → Type 0) (fault : PlayFault) → FailsToWrite last IsRight fault
      → BreaksOff (NearlyTells telling left told) left taken fault
      → BreaksOff (TellsBefore fault telling left told) left taken fault
  near IsRight Write fails breaks = breaks
  near IsRight Memory fails breaks = breaks
  near IsRight Read fails breaks = absurd fails
  near IsRight Limit fails breaks = absurd fails

-- no line came
pub unread_told : (telling : Telling) (left_old left_now left_new : Option (List ℕ)) (taken : Bytes)
    (lines : List (List ℕ)) (unread : Unread) (text at : List ℕ) (requests : ℕ) (told : List ℕ) (fault : PlayFault)
    → telling.Tells told lines text (Going at requests) → AppendsAll taken text
    → HasCome (between left_old left_now) lines unread → length lines < MOST_LINES
    → GivesNoLine unread (between left_now left_new) fault
    → BreaksOff (TellsBefore fault telling (between left_old left_new) told) (between left_old left_new) taken fault
unread_told telling left_old left_now left_new taken lines unread text at requests told Read tells written come few
    gives =
    no_line (telling.Tells told) left_old left_now left_new taken lines unread text at requests Read tells written come
    few gives
unread_told telling left_old left_now left_new taken lines unread text at requests told Limit tells written come few
    gives =
    no_line (telling.Tells told) left_old left_now left_new taken lines unread text at requests Limit tells written come
    few gives
unread_told telling left_old left_now left_new taken lines unread text at requests told Write tells written come few
    gives = absurd gives
unread_told telling left_old left_now left_new taken lines unread text at requests told Memory tells written come few
    gives = absurd gives

-- a play of the same game
pub told_alike : (shows : Bool) (one game : Game) (from : Standing) (left taken : Bytes)
    (result : Result PlayEnd PlayFault) (told : List ℕ) → one ≡ game
    → IsToldIn (told_from shows one from) left taken result told
    → IsToldIn (told_from shows game from) left taken result told
told_alike shows one game from left taken result told same =
    subst (λ g. IsToldIn (told_from shows g from) left taken result told) same

-- ---- from the opening on

module _ (shows : Bool) (game : Game) (opening : List ℕ) (first : Standing)
    (opens : BeginsPlay game opening first) where
  pub played : (lines : List (List ℕ)) (more : List ℕ) (to : Standing) → AreResponses game first lines more to
      → IsPlayed game lines (opening ++ more) to
  played lines more to brings =
      record { opening = opening; first = first; more = more; opens = opens; brings = brings; text_is = refl }

  played_and_told : (told : List ℕ) (lines : List (List ℕ)) (more : List ℕ) (to : Standing)
      → (told_from shows game first).Tells told lines more to
      → IsPlayedAndTold shows game told lines (opening ++ more) to
  played_and_told told lines more to brings =
      record { opening = opening; first = first; more = more; opens = opens; brings = brings; text_is = refl }

  nearly_played : (left : Bytes) (told : List ℕ) (lines : List (List ℕ)) (more : List ℕ) (to : Standing)
      → NearlyTells (told_from shows game first) left told lines more to
      → NearlyTells (told_play shows game) left told lines (opening ++ more) to
  nearly_played left told lines more to (inl tells) = inl (played_and_told told lines more to tells)
  nearly_played left told lines more to (inr (brings, inl (before, last, is, front, stood, tells))) = inr (
    played lines more to brings,
    inl (before, last, is, opening ++ front, stood, played_and_told told before front stood tells),
  )
  nearly_played left told lines more to (inr (brings, inr none)) = inr (played lines more to brings, inr none)

  module _ (left : Bytes) (taken_old taken_now taken_new : Option (List ℕ))
      (written : Appends taken_old taken_now opening) (told : List ℕ) where
    broken_before : (fault : PlayFault)
        → BreaksOff (TellsBefore fault (told_from shows game first) left told) left (between taken_now taken_new) fault
        → BreaksOff (TellsBefore fault (told_play shows game) left told) left (between taken_old taken_new) fault
    broken_before Read =
        breaks_off ((told_from shows game first).Tells told) (IsPlayedAndTold shows game told) opening
        (played_and_told told) left taken_old taken_now taken_new written Read
    broken_before Limit =
        breaks_off ((told_from shows game first).Tells told) (IsPlayedAndTold shows game told) opening
        (played_and_told told) left taken_old taken_now taken_new written Limit
    broken_before Write =
        breaks_off (NearlyTells (told_from shows game first) left told) (NearlyTells (told_play shows game) left told)
        opening (nearly_played left told) left taken_old taken_now taken_new written Write
    broken_before Memory =
        breaks_off (NearlyTells (told_from shows game first) left told) (NearlyTells (told_play shows game) left told)
        opening (nearly_played left told) left taken_old taken_now taken_new written Memory

    pub prompted : (result : Result PlayEnd PlayFault)
        → IsToldIn (told_from shows game first) left (between taken_now taken_new) result told
        → ArePrompts shows game left (between taken_old taken_new) result told
    prompted (Ok end) is = record { ok = of_ended is.ok; fault = tt }
      where
        of_ended : (prompts last : List ℕ)
            × HasEnded ((told_from shows game first).Tells prompts) left (between taken_now taken_new) end
            × IsToldLast shows game end last × (told ≡ prompts ++ last)
            → (prompts last : List ℕ)
            × HasEnded (IsPlayedAndTold shows game prompts) left (between taken_old taken_new) end
            × IsToldLast shows game end last × (told ≡ prompts ++ last)
        of_ended (prompts, last, ended, lasts, is) = (
          prompts,
          last,
          has_ended ((told_from shows game first).Tells prompts) (IsPlayedAndTold shows game prompts) opening
              (played_and_told prompts) left taken_old taken_now taken_new written end ended,
          lasts,
          is,
        )
    prompted (Err fault) is = record { ok = tt; fault = broken_before fault is.fault }

  -- no line has been read
  pub alone : IsPlayed game [] opening first
  alone = subst (λ l. IsPlayed game [] l first) (append-nil opening) (played [] [] first (refl, refl))

  nearly_alone : (left : Option (List ℕ)) → NearlyTells (told_play shows game) (between left left) [] [] opening first
  nearly_alone left = inr (alone, inr (refl, refl, refl))

  -- nothing was written, and nothing told
  pub untold : (left : Option (List ℕ)) (taken : Bytes) → AreAsBefore taken
      → ArePrompts shows game (between left left) taken (Err Memory) []
  untold left taken kept = record {
    ok = tt;
    fault = unopened (NearlyTells (told_play shows game) (between left left) []) opening first
        (nearly_alone left) left taken kept;
  }

  -- the opening wasn't written whole, and nothing was told
  pub untold_opening : (left : Option (List ℕ)) (taken : Bytes) → AppendsPrefix taken opening
      → ArePrompts shows game (between left left) taken (Err Write) []
  untold_opening left taken begun = record {
    ok = tt;
    fault = unshown_opening (NearlyTells (told_play shows game) (between left left) []) opening first
        (nearly_alone left) left taken begun;
  }

over_alone : (shows : Bool) (game : Game) (end : PlayEnd) → (told_from shows game (Over end)).Tells [] [] [] (Over end)
over_alone true game end = ((refl, refl), refl)
over_alone false game end = ((refl, refl), refl)

-- the play was over before a line was read
pub untold_at_once : (shows : Bool) (game : Game) (opening : List ℕ) (end : PlayEnd)
    → BeginsPlay game opening (Over end)
    → (left : Option (List ℕ)) (taken : Bytes) → AppendsAll taken opening
    → (last : List ℕ) → IsToldLast shows game end last
    → ArePrompts shows game (between left left) taken (Ok end) last
untold_at_once shows game opening end opens left taken written last lasts = record {
  ok = (
    [],
    last,
    over_at_once (IsPlayedAndTold shows game []) opening (Over end)
        (record {
          opening = opening;
          first = Over end;
          more = [];
          opens = opens;
          brings = over_alone shows game end;
          text_is = sym (append-nil opening);
        })
        left taken end refl written,
    lasts,
    refl,
  );
  fault = tt;
}

-- ---- nobody is told anything

-- whatever ended or broke off was played
module _ (Played : List (List ℕ) → List ℕ → Standing → Type 0) (Claim : Type 0)
    (of : (lines : List (List ℕ)) (text : List ℕ) (to : Standing) → Played lines text to → Claim)
    (left taken : Bytes) where
  of_ends : (lines : List (List ℕ)) (rest text : List ℕ) (end : PlayEnd) → Ends Played left.new lines rest text end
      → Claim
  of_ends lines rest text end (inl over) = of lines text (Over end) over
  of_ends lines rest text end (inr stopped) = let h = stopped.0 in of lines h.1 (Going h.0 h.2) h.3

  of_either : (lines : List (List ℕ)) (rest text : List ℕ) → GoesOnOrEnds Played left.new lines rest text → Claim
  of_either lines rest text (inl (at, requests, played)) = of lines text (Going at requests) played
  of_either lines rest text (inr (end, ends)) = of_ends lines rest text end ends

  of_ended : (end : PlayEnd) → HasEnded Played left taken end → Claim
  of_ended end (lines, rest, text, came, ends, written) = of_ends lines rest text end ends

  of_broken : (fault : PlayFault) → BreaksOff Played left taken fault → Claim
  of_broken Read (lines, rest, text, at, requests, came, waits, played, written) = of lines text
      (Going at requests) played
  of_broken Limit (lines, rest, text, at, requests, came, waits, played, written) = of lines text
      (Going at requests) played
  of_broken Write (lines, rest, text, came, either, written) = of_either lines rest text either
  of_broken Memory (lines, rest, text, came, either, written) = of_either lines rest text either

module _ (game : Game) (told : List ℕ) (left : Bytes) where
  nothing_brought : (from : Standing) (lines : List (List ℕ)) (text : List ℕ) (to : Standing)
      → (told_from false game from).Tells told lines text to → told ≡ []
  nothing_brought from lines text to (brings, none) = none

  nearly_nothing : (lines : List (List ℕ)) (text : List ℕ) (to : Standing)
      → NearlyTells (told_play false game) left told lines text to → told ≡ []
  nearly_nothing lines text to (inl tells) = nothing_brought tells.first lines tells.more to tells.brings
  nearly_nothing lines text to (inr (played, inl (before, last, is, front, stood, tells))) =
      nothing_brought tells.first before tells.more stood tells.brings
  nearly_nothing lines text to (inr (played, inr (unread, is, none))) = none

  nothing_before : (fault : PlayFault) (lines : List (List ℕ)) (text : List ℕ) (to : Standing)
      → TellsBefore fault (told_play false game) left told lines text to → told ≡ []
  nothing_before Read lines text to tells = nothing_brought tells.first lines tells.more to tells.brings
  nothing_before Limit lines text to tells = nothing_brought tells.first lines tells.more to tells.brings
  nothing_before Write lines text to tells = nearly_nothing lines text to tells
  nothing_before Memory lines text to tells = nearly_nothing lines text to tells

  -- without a person to see it
  pub nothing_told : (taken : Bytes) (result : Result PlayEnd PlayFault) → ArePrompts false game left taken result told
      → told ≡ []
  nothing_told taken (Ok end) is = both is.ok
    where
      both : (prompts last : List ℕ)
          × HasEnded (IsPlayedAndTold false game prompts) left taken end
          × IsToldLast false game end last × (told ≡ prompts ++ last)
          → told ≡ []
      both (prompts, last, ended, lasts, is) =
          rw (
            of_ended (IsPlayedAndTold false game prompts) (prompts ≡ [])
                (λ lines text to tells. tells.brings.1) left taken end ended,
            lasts,
          ) at is
  nothing_told taken (Err fault) is =
      of_broken (TellsBefore fault (told_play false game) left told) (told ≡ []) (nothing_before fault) left taken fault
      is.fault
