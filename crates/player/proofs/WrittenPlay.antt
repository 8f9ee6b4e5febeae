-- The text that a play has written, as it goes on.
use Rattle.std.proofs.Common.{◌≡◌, ℕ, ◌≤◌, List, [], ◌∷◌, ◌++◌, ◌<◌, length, inl, inr, refl, sym, ap, ◌∙◌}
use Rattle.std.proofs.Common.{subst, arith, append-nil, append_assoc}
use Rattle.std.specs.Prelude.{Option, Result, Ok, Err, IfOk, IfErr, OnOk}
use Rattle.std.specs.Io.KnownBytes.{Appends, Keeps, IsAtEnd}
use Rattle.std.proofs.lemmas.List.{length_push}
use Rattle.board_text.specs.Streams.{AppendsAll, AppendsPrefix, Bytes}
use Rattle.board_text.proofs.Cited.{Appends-trans, Appends-kept, between, front_taken}
use Rattle.console.proofs.Cited.{front_behind}
use Rattle.player.specs.Transcript.{Game, Standing, Going, Over, IsResponse, AreResponses, stopped_line}
use Rattle.player.specs.Inside.Steps.{FailsToWrite}
use Rattle.player.specs.Play.{LinesCame, GoesOnOrEnds, HasEnded, BreaksOff}
use Rattle.player.specs.Inside.LineInput.{Unread, GivesNoLine}
use Rattle.player.specs.declared.line_meaning.LineMeaning.{LineMeaning}
use Rattle.player.specs.declared.end.PlayFault.{PlayFault}
use Rattle.player.specs.declared.end.PlayFault.TheVariants.{Read, Write, Memory, Limit}
use Rattle.player.proofs.ReadLines.{HasCome, ComesNext, came_of, came_with}
use Rattle.player.specs.declared.end.PlayEnd.{PlayEnd}
use Rattle.player.specs.declared.end.PlayEnd.TheVariants.{Stopped}
use Rattle.player.specs.declared.turns.TheConstants.{MOST_LINES}

-- one more line and its response
pub brings_more : (game : Game) (from : Standing) (lines : List (List ℕ)) (line text said : List ℕ) (to next : Standing)
    → AreResponses game from lines text to → IsResponse game to line said next
    → AreResponses game from (lines ++ line ∷ []) (text ++ said) next
brings_more game from [] line text said to next brought brings = (
  said,
  [],
  next,
  subst (λ s. IsResponse game s line said next) (sym brought.1) brings,
  (refl, refl),
  ap (λ l. l ++ said) brought.0 ∙ sym (append-nil said),
)
brings_more game from (first ∷ lines) line text said to next brought brings = (
  brought.0,
  brought.1 ++ said,
  brought.2,
  brought.3,
  brings_more game brought.2 lines line brought.1 said to next brought.4 brings,
  ap (λ l. l ++ said) brought.5 ∙ append_assoc brought.0 brought.1 said,
)

-- after these lines the play goes on or has ended
pub goes_on_or_ends : (Played : List (List ℕ) → List ℕ → Standing → Type 0) (left : Option (List ℕ))
    (lines : List (List ℕ)) (rest text : List ℕ) (to : Standing)
    → Played lines text to
    → GoesOnOrEnds Played left lines rest text
goes_on_or_ends Played left lines rest text (Going at requests) played = inl (at, requests, played)
goes_on_or_ends Played left lines rest text (Over end) played = inr (end, inl played)

-- a text after which nothing was written is a prefix of it and more
pub front_kept : (a b c : Option (List ℕ)) (front tail : List ℕ) → Appends a b front → Keeps b c
    → AppendsPrefix (between a c) (front ++ tail)
front_kept a b c front tail written kept =
    front_taken a c (front ++ tail) front tail refl (Appends-kept a b c front written kept)

-- no line came
pub no_line : (Played : List (List ℕ) → List ℕ → Standing → Type 0)
    (left_old left_now left_new : Option (List ℕ)) (taken : Bytes) (lines : List (List ℕ)) (unread : Unread)
    (text at : List ℕ) (requests : ℕ) (fault : PlayFault)
    → Played lines text (Going at requests) → AppendsAll taken text
    → HasCome (between left_old left_now) lines unread → length lines < MOST_LINES
    → GivesNoLine unread (between left_now left_new) fault
    → BreaksOff Played (between left_old left_new) taken fault
no_line Played left_old left_now left_new taken lines unread text at requests Read brought written come few gives = (
  lines,
  unread.bytes ++ gives.0,
  text,
  at,
  requests,
  came_with left_old left_now left_new lines unread gives.0 (omega (arith, few)) come gives.1 gives.2,
  (gives.3, few),
  brought,
  written,
)
no_line Played left_old left_now left_new taken lines unread text at requests Limit brought written come few gives = (
  lines,
  unread.bytes ++ gives.0,
  text,
  at,
  requests,
  came_with left_old left_now left_new lines unread gives.0 (omega (arith, few)) come gives.1 gives.2,
  inr gives.3,
  brought,
  written,
)
no_line Played left_old left_now left_new taken lines unread text at requests Write brought written come few gives =
    absurd gives
no_line Played left_old left_now left_new taken lines unread text at requests Memory brought written come few gives =
    absurd gives

-- ---- one turn

-- a line ended the play
pub ended : (Played : List (List ℕ) → List ℕ → Standing → Type 0)
    (left : Bytes) (taken_old taken_now taken_new : Option (List ℕ)) (lines : List (List ℕ)) (text : List ℕ)
    (word : LineMeaning) (unread : Unread) → Appends taken_old taken_now text
    → (next : ComesNext left lines unread word) → length lines < MOST_LINES
    → (end : PlayEnd) (said : List ℕ) → Played (lines ++ next.line ∷ []) (text ++ said) (Over end)
    → Appends taken_now taken_new said
    → HasEnded Played left (between taken_old taken_new) end
ended Played left taken_old taken_now taken_new lines text word unread written next few end said brings last = (
  lines ++ next.line ∷ [],
  unread.bytes,
  text ++ said,
  came_of left (lines ++ next.line ∷ []) unread (omega (arith, length_push lines next.line, few)) next.come,
  inl brings,
  Appends-trans taken_old taken_now taken_new text said written last,
)

module _ (Played : List (List ℕ) → List ℕ → Standing → Type 0)
    (left : Bytes) (taken_old taken_now taken_new : Option (List ℕ)) (lines : List (List ℕ)) (text at : List ℕ)
    (requests : ℕ)
    (brought : Played lines text (Going at requests)) (written : Appends taken_old taken_now text) where
  -- the input ended, and the line that says so was written
  pub stopped : (result : Result PlayEnd PlayFault)
      → LinesCame left lines [] × IsAtEnd left.new × (length lines < MOST_LINES)
      → IfOk result (λ end. end ≡ Stopped requests)
      → OnOk result (Appends taken_now taken_new (stopped_line requests))
      → IfOk result (HasEnded Played left (between taken_old taken_new))
  stopped (Ok end) came stops last = (
    lines,
    [],
    text ++ stopped_line requests,
    came.0,
    inr ((at, text, requests, brought, refl, stops), came.1, refl, came.2),
    Appends-trans taken_old taken_now taken_new text (stopped_line requests) written last,
  )
  stopped (Err fault) came stops last = tt

  -- the input ended, and the line that says so wasn't written whole
  pub not_stopped : (result : Result PlayEnd PlayFault)
      → LinesCame left lines [] × IsAtEnd left.new × (length lines < MOST_LINES)
      → IfErr result (FailsToWrite (between taken_now taken_new) (λ said. said ≡ stopped_line requests))
      → IfErr result (BreaksOff Played left (between taken_old taken_new))
  not_stopped (Ok end) came fails = tt
  not_stopped (Err Write) came fails = (
    lines,
    [],
    text ++ stopped_line requests,
    came.0,
    inr (Stopped requests, inr ((at, text, requests, brought, refl, refl), came.1, refl, came.2)),
    subst (AppendsPrefix (between taken_old taken_new)) (ap (λ l. text ++ l) fails.2)
        (front_behind taken_old taken_now taken_new text fails.0 written fails.1),
  )
  not_stopped (Err Memory) came fails = (
    lines,
    [],
    text ++ stopped_line requests,
    came.0,
    inr (Stopped requests, inr ((at, text, requests, brought, refl, refl), came.1, refl, came.2)),
    front_kept taken_old taken_now taken_new text (stopped_line requests) written fails,
  )
  not_stopped (Err Read) came fails = absurd fails
  not_stopped (Err Limit) came fails = absurd fails

  module _ (word : LineMeaning) (unread : Unread) (next : ComesNext left lines unread word)
      (few : length lines < MOST_LINES) where
    all_few : length (lines ++ next.line ∷ []) ≤ MOST_LINES
    all_few = omega (arith, length_push lines next.line, few)

    -- the response to a line wasn't written whole
    pub broken : (Says : List ℕ → Standing → Type 0)
        → ((said : List ℕ) (to : Standing) → Says said to → Played (lines ++ next.line ∷ []) (text ++ said) to)
        → (fault : PlayFault)
        → FailsToWrite (between taken_now taken_new) (λ said. (to : Standing) × Says said to) fault
        → BreaksOff Played left (between taken_old taken_new) fault
    broken Says brings Write fails =
        let said = fails.0 in
        let all = lines ++ next.line ∷ [] in (
          all,
          unread.bytes,
          text ++ said,
          came_of left all unread all_few next.come,
          goes_on_or_ends Played left.new all unread.bytes (text ++ said) fails.2.0 (brings said fails.2.0 fails.2.1),
          front_behind taken_old taken_now taken_new text said written fails.1,
        )
    broken Says brings Memory fails = (
      lines,
      next.rest,
      text,
      next.before (omega (arith, few)),
      inl (at, requests, brought),
      subst (AppendsPrefix (between taken_old taken_new)) (append-nil text)
          (front_kept taken_old taken_now taken_new text [] written fails),
    )
    broken Says brings Read fails = absurd fails
    broken Says brings Limit fails = absurd fails

-- if the write of a text failed, a prefix of it was written
pub unshown : {X : Type 0} (result : Result X PlayFault) (fault : PlayFault) (IsRight : List ℕ → Type 0)
    (taken : Bytes) (text said : List ℕ)
    → result ≡ Err fault → fault ≡ Write → AppendsPrefix taken text → text ≡ [] ++ said → IsRight said
    → IfErr result (FailsToWrite taken IsRight)
unshown result fault IsRight taken text said is write begun same right =
    rw is (rw write (said, subst (AppendsPrefix taken) same begun, right))
