-- Runs over known bytes have one outcome and one text.
use Rattle.std.proofs.Common.{◌≡◌, ◌≢◌, ◌∙◌, ℕ, ◌<◌, ◌≤◌, ◌⊎◌, inl, inr, List, [], ◌++◌, length, Option, Some, None}
use Rattle.std.proofs.Common.{refl, sym, ap, subst, arith, append-nil, length-append}
use Rattle.std.specs.Prelude.{Result, Ok, Err, MatchResult}
use Rattle.std.specs.Io.KnownBytes.{Appends, Consumes}
use Rattle.board_text.specs.Streams.{AppendsAll, GaveAll, GaveNext}
use Rattle.board_text.proofs.Cited.{between}
use Rattle.serving.specs.Jobs.{WritesWhole}
use Rattle.serving.specs.Outcomes.{EndsAs}
use Rattle.runs.specs.Run.{Bytes, Fails, Gave, IsUnread, Ran, Stream}
use Rattle.runs.specs.declared.fault.RunFault.{RunFault}
use Rattle.runs.specs.declared.fault.RunFault.TheVariants.{Memory, Worker, Read, Write, Limit}
use Rattle.serving.specs.declared.outcome.Outcome.{Outcome}
use Rattle.serving.specs.declared.outcome.Outcome.TheVariants.{Broken}
use Rattle.serving.proofs.KnownFaults.{IsRefusedOr}

-- ---- streams

-- the stream had these bytes, keeps them if it is kept, and hasn't failed
pub record Had (stream : Stream) (bytes : List ℕ) : Type 0 where
  pub old : stream.bytes.old ≡ Some bytes
  pub kept : stream.IsKept → stream.bytes.new ≡ stream.bytes.old
  pub sound : stream.HasFailed → ⊥

appends_is : (bytes text : List ℕ) (new : Option (List ℕ)) → Appends (Some bytes) new text → new ≡ Some (bytes ++ text)
appends_is bytes text None h = absurd h
appends_is bytes text (Some ys) h = ap Some h

pub took : (stream : Stream) (bytes text : List ℕ) → Had stream bytes → AppendsAll stream.bytes text
    → stream.bytes.new ≡ Some (bytes ++ text)
took stream bytes text had h =
    appends_is bytes text stream.bytes.new (subst (λ (o : Option (List ℕ)). Appends o stream.bytes.new text) had.old h)

pub stayed : (stream : Stream) (bytes : List ℕ) → Had stream bytes → stream.IsKept → stream.bytes.new ≡ Some
    (bytes ++ [])
stayed stream bytes had kept = had.kept kept ∙ had.old ∙ ap Some (sym (append-nil bytes))

-- bytes that were all given are the text
all_given : (bytes text : List ℕ) (new : Option (List ℕ)) → GaveAll (between (Some bytes) new) text → bytes ≡ text
all_given bytes text None gave = absurd gave.0
all_given bytes text (Some rest) gave = gave.0 ∙ ap (λ r. text ++ r) gave.1 ∙ append-nil text

pub gave_all : (read : Bytes) (bytes text : List ℕ) → read.old ≡ Some bytes → GaveAll read text → text ≡ bytes
gave_all read bytes text old gave = sym (all_given bytes text read.new
    (subst (λ (o : Option (List ℕ)). GaveAll (between o read.new) text) old gave))

consumed_fewer : (bytes taken : List ℕ) (new : Option (List ℕ)) → Consumes (Some bytes) new taken
    → length taken ≤ length bytes
consumed_fewer bytes taken None h = absurd h
consumed_fewer bytes taken (Some rest) h =
    let size : length bytes ≡ length (taken ++ rest) = ap length h in omega (arith, size, length-append taken rest)

pub read_fewer : (read : Bytes) (bytes taken : List ℕ) → read.old ≡ Some bytes → GaveNext read taken
    → length taken ≤ length bytes
read_fewer read bytes taken old h = consumed_fewer bytes taken read.new
    (subst (λ (o : Option (List ℕ)). Consumes o read.new taken) old h)

-- ends by such a relation, with the text written
abbrev pub EndsBy : Stream → List ℕ → (Outcome → List ℕ → Type 0) → Outcome → Type 0
EndsBy output taken E outcome = (text : List ℕ) × (output.bytes.new ≡ Some (taken ++ text)) × E outcome text

-- the relation gives one outcome and one text
abbrev pub IsOne : (Outcome → List ℕ → Type 0) → Type 0
IsOne E = (outcome other : Outcome) (text line : List ℕ) → E outcome text → E other line → (outcome ≡ other) ×
    (text ≡ line)

-- ---- outcomes

-- nothing that no bytes tell is the outcome: no memory, no worker, a failed read, a failed write
pub record IsPlain (outcome : Outcome) : Type 0 where
  pub memory : outcome ≢ Broken Memory
  pub worker : outcome ≢ Broken Worker
  pub read : outcome ≢ Broken Read
  pub write : outcome ≢ Broken Write

-- the limit is passed if the bytes weren't read for it
pub unread_is : (limit : ℕ) (read : Bytes) (bytes : List ℕ) (fault : RunFault) (outcome : Outcome)
    → read.old ≡ Some bytes
    → IsPlain outcome → outcome ≡ Broken fault → IsUnread limit read fault → (limit < length bytes) ×
    (outcome ≡ Broken Limit)
unread_is limit read bytes Memory outcome old is same h = absurd (is.memory same)
unread_is limit read bytes Read outcome old is same h = absurd (is.read same)
unread_is limit read bytes Limit outcome old is same (taken, long, consumed) =
    (let fewer = read_fewer read bytes taken old consumed in omega (arith, long, fewer), same)
unread_is limit read bytes fault outcome old is same h = absurd h

-- ---- a run that reads a text

module _ (limit : ℕ) (IsWrong : List ℕ → RunFault → Type 0) (Then : List ℕ → Outcome → List ℕ → Type 0) where
  -- the outcome and the text written that the bytes ask for: they are too many, or have a fault, or something is
  -- done with them
  abbrev pub ReadEnds : List ℕ → Outcome → List ℕ → Type 0
  ReadEnds bytes outcome text =
      ((limit < length bytes) × (outcome ≡ Broken Limit) × (text ≡ []))
      ⊎ ((length bytes ≤ limit) × (fault : RunFault) × IsWrong bytes fault × (outcome ≡ Broken fault) × (text ≡ []))
      ⊎ ((length bytes ≤ limit) × Then bytes outcome text)

  module _ (bytes : List ℕ)
      (one_wrong : (fault other : RunFault) → IsWrong bytes fault → IsWrong bytes other → fault ≡ other)
      (apart : (fault : RunFault) (outcome : Outcome) (text : List ℕ) → IsWrong bytes fault
      → Then bytes outcome text → ⊥)
      (one_then : IsOne (Then bytes)) where
    pub one_read_end : IsOne (ReadEnds bytes)
    one_read_end outcome other text line (inl one) (inl two) = (one.1 ∙ sym two.1, one.2 ∙ sym two.2)
    one_read_end outcome other text line (inl one) (inr (inl two)) = absurd (omega (arith, one.0, two.0))
    one_read_end outcome other text line (inl one) (inr (inr two)) = absurd (omega (arith, one.0, two.0))
    one_read_end outcome other text line (inr (inl one)) (inl two) = absurd (omega (arith, one.0, two.0))
    one_read_end outcome other text line (inr (inl one)) (inr (inl two)) =
        (one.3 ∙ ap Broken (one_wrong one.1 two.1 one.2 two.2) ∙ sym two.3, one.4 ∙ sym two.4)
    one_read_end outcome other text line (inr (inl one)) (inr (inr two)) =
        absurd (apart one.1 other line one.2 two.1)
    one_read_end outcome other text line (inr (inr one)) (inl two) = absurd (omega (arith, one.0, two.0))
    one_read_end outcome other text line (inr (inr one)) (inr (inl two)) =
        absurd (apart two.1 outcome text two.2 one.1)
    one_read_end outcome other text line (inr (inr one)) (inr (inr two)) =
        one_then outcome other text line one.1 two.1

  module _ (read : Bytes) (bytes : List ℕ) (old : read.old ≡ Some bytes) (output : Stream) (taken : List ℕ)
      (outcome : Outcome) where
    -- a text was read, and this was done with it
    pub then_ends : (text : List ℕ) → Gave limit read text → EndsBy output taken (Then text) outcome
        → EndsBy output taken (ReadEnds bytes) outcome
    then_ends text gave ended =
        let all : text ≡ bytes = gave_all read bytes text old gave.0 in
        let here : EndsBy output taken (Then bytes) outcome
        = subst (λ t. EndsBy output taken (Then t) outcome) all ended in
        (here.0, here.1, inr (inr (subst (λ t. length t ≤ limit) all gave.1, here.2)))

    -- no text was read, or one that has a fault, and nothing was written
    pub broken_ends : IsPlain outcome → (Cannot : List ℕ → RunFault → Type 0)
        → ((text : List ℕ) (fault : RunFault) → Cannot text fault → IsRefusedOr (IsWrong text) fault)
        → (fault : RunFault) → outcome ≡ Broken fault
        → IsUnread limit read fault ⊎ ((text : List ℕ) × Gave limit read text × Cannot text fault)
        → output.bytes.new ≡ Some (taken ++ []) → EndsBy output taken (ReadEnds bytes) outcome
    broken_ends plain Cannot wrong fault same (inl unread) stays =
        let over = unread_is limit read bytes fault outcome old plain same unread in
        ([], stays, inl (over.0, over.1, refl))
    broken_ends plain Cannot wrong fault same (inr (text, gave, says)) stays = elim (wrong text fault says) [
      | inl memory ↦ absurd (plain.memory (same ∙ ap Broken memory))
      | inr (inl worker) ↦ absurd (plain.worker (same ∙ ap Broken worker))
      | inr (inr bad) ↦
          let all : text ≡ bytes = gave_all read bytes text old gave.0 in (
            [],
            stays,
            inr (inl (
              subst (λ t. length t ≤ limit) all gave.1,
              fault,
              subst (λ t. IsWrong t fault) all bad,
              same,
              refl,
            )),
          )
    ]

-- ---- a run over one reader, whose text decides the answer and the text written

module _ {Answer : Type 0} (told : Result Answer RunFault → Outcome) (Says : List ℕ → Answer → List ℕ → Type 0) where
  -- the text has this answer, and this is said
  abbrev Answered : List ℕ → Outcome → List ℕ → Type 0
  Answered bytes outcome text = (answer : Answer) × Says bytes answer text × (outcome ≡ told (Ok answer))

  -- the outcome and the text that the bytes ask for
  abbrev pub Ends : (List ℕ → RunFault → Type 0) → ℕ → List ℕ → Outcome → List ℕ → Type 0
  Ends IsWrong limit = ReadEnds limit IsWrong Answered

  module _ (IsWrong : List ℕ → RunFault → Type 0) (limit : ℕ) (bytes : List ℕ)
      (one_answer : (answer other : Answer) (text line : List ℕ) → Says bytes answer text → Says bytes other line
      → (told (Ok answer) ≡ told (Ok other)) × (text ≡ line))
      (one_wrong : (fault other : RunFault) → IsWrong bytes fault → IsWrong bytes other → fault ≡ other)
      (apart : (answer : Answer) (text : List ℕ) (fault : RunFault) → Says bytes answer text → IsWrong bytes fault
      → ⊥) where
    one_answered : IsOne (Answered bytes)
    one_answered outcome other text line one two =
        let same = one_answer one.0 two.0 text line one.1 two.1 in (one.2 ∙ same.0 ∙ sym two.2, same.1)

    pub one_end : IsOne (Ends IsWrong limit bytes)
    one_end = one_read_end limit IsWrong Answered bytes one_wrong
        (λ fault outcome text wrong says. apart says.0 text fault says.1 wrong) one_answered

  module _ (breaks : (fault : RunFault) → told (Err fault) ≡ Broken fault)
      (Cannot IsWrong : List ℕ → RunFault → Type 0)
      (wrong : (text : List ℕ) (fault : RunFault) → Cannot text fault → IsRefusedOr (IsWrong text) fault)
      (limit : ℕ) (read : Bytes) (bytes : List ℕ) (old : read.old ≡ Some bytes) (output : Stream) (taken : List ℕ)
      (had : Had output taken) (outcome : Outcome) (plain : IsPlain outcome) (whole : WritesWhole output outcome) where
    -- a fault other than of writing leaves the output as it was
    broken_stays : (fault : RunFault) → outcome ≡ Broken fault → output.bytes.new ≡ Some (taken ++ [])
    broken_stays fault same =
        stayed output taken had (whole fault same (λ e. plain.write (same ∙ ap Broken e)))

    broken : (fault : RunFault) → outcome ≡ Broken fault
        → IsUnread limit read fault ⊎ ((text : List ℕ) × Gave limit read text × Cannot text fault)
        → EndsBy output taken (Ends IsWrong limit bytes) outcome
    broken fault same why =
        broken_ends limit IsWrong Answered read bytes old output taken outcome plain Cannot wrong fault same why
        (broken_stays fault same)

    pub ends : EndsAs told (Ran Says limit read output.bytes) (Fails Says Cannot limit read output.bytes) outcome
        → EndsBy output taken (Ends IsWrong limit bytes) outcome
    ends (result, match, same) = go result match same
      where
        go : (result : Result Answer RunFault) → MatchResult result (Ran Says limit read output.bytes)
            (Fails Says Cannot limit read output.bytes)
            → outcome ≡ told result → EndsBy output taken (Ends IsWrong limit bytes) outcome
        go (Ok answer) (text, gave, (line, says, appends)) same =
            then_ends limit IsWrong Answered read bytes old output taken outcome text gave
            (line, took output taken line had appends, (answer, says, same))
        go (Err fault) (inl unread) same = broken fault (same ∙ breaks fault) (inl unread)
        go (Err fault) (inr (inl given)) same = broken fault (same ∙ breaks fault) (inr given)
        go (Err fault) (inr (inr cut)) same = absurd (plain.write (same ∙ breaks fault ∙ ap Broken cut.4))
