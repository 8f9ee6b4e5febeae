-- When the notice of a large board is told.
use Rattle.std.proofs.Common.{◌≡◌, ◌∙◌, ◌<◌, ◌≤◌, Bool, true, false, List, [], ◌∷◌, ◌++◌, ℕ, suc, ap, append-nil}
use Rattle.std.proofs.Common.{inl, inr, le-ltb, lt-ltb, refl, subst, sym}
use Rattle.std.proofs.lemmas.Bool.{cases_lt}
use Rattle.std.specs.Prelude.{codes, Err, IfErr, IfOk, MatchResult, Ok, OnErr, OnOk, is_err, Option, Result}
use Rattle.std.specs.Prelude.{if◌then◌else◌}
use Rattle.board_text.specs.PlainBoard.{PlainBoard}
use Rattle.board_text.specs.declared.memory.Memory.{Memory as MemoryFault}
use Rattle.console.specs.Showing.{IsMore}
use Rattle.console.proofs.Cited.{none_more, then_more, told_lines}
use Rattle.console.specs.Watching.{AreStepsTold, lines_of}
use Rattle.gap_values.specs.OpenGaps.{AreOpenCounts}
use Rattle.positions.specs.Ranks.{configurations}
use Rattle.positions.specs.declared.space.TheConstants.{MAX_CONFIGURATIONS}
use Rattle.runs.specs.BoardRun.{GaveBoard, GaveNoBoard}
use Rattle.runs.specs.Inside.SolveRun.{IsToldOnText}
use Rattle.runs.specs.Notices.{AreAllRounds, AreRoundsTold, IsToldInRun, IsToldOnBoard, is_told_of, notice_for}
use Rattle.runs.specs.Notices.{nothing_after, bytes_words, round_line, size_notice, tenths_of, tenths_words}
use Rattle.runs.specs.Run.{Bytes, Gave}
use Rattle.runs.specs.Texts.{HasNoneWithin, IsBoardWithin}
use Rattle.command_line.specs.declared.asked.BoardLimit.{BoardLimit}
use Rattle.command_line.specs.declared.asked.BoardLimit.TheVariants.{Small}
use Rattle.runs.specs.declared.fault.RunFault.{RunFault}
use Rattle.runs.specs.declared.fault.RunFault.TheVariants.{Memory}
use Rattle.runs.specs.declared.reading.TheConstants.{MAX_BOARD_BYTES}

-- ---- the number of bytes

pub few_bytes : (bytes : ℕ) → bytes < 1000000000
    → tenths_words (tenths_of 100000 bytes) ++ codes " MB" ≡ bytes_words bytes
few_bytes bytes few =
    sym (ap (λ b. if b then tenths_words (tenths_of 100000 bytes) ++ codes " MB"
    else tenths_words (tenths_of 100000000 bytes) ++ codes " GB") (lt-ltb bytes 1000000000 few))

pub many_bytes : (bytes : ℕ) → 1000000000 ≤ bytes
    → tenths_words (tenths_of 100000000 bytes) ++ codes " GB" ≡ bytes_words bytes
many_bytes bytes many =
    sym (ap (λ b. if b then tenths_words (tenths_of 100000 bytes) ++ codes " MB"
    else tenths_words (tenths_of 100000000 bytes) ++ codes " GB") (le-ltb bytes 1000000000 many))

-- ---- when the notice is told

-- it isn't, where nobody is there to see it
pub nobody_sees : (shows : Bool) (board : PlainBoard) → shows ≡ false → [] ≡ notice_for shows board
nobody_sees shows board nobody = sym (ap (λ b. notice_for b board) nobody)

-- nor of a small board
pub small_board : (shows : Bool) (board : PlainBoard) → configurations board ≤ MAX_CONFIGURATIONS
    → [] ≡ notice_for shows board
small_board true board small =
    sym (ap (λ b. if b then size_notice board else []) (le-ltb MAX_CONFIGURATIONS (configurations board) small))
small_board false board small = refl

-- so that nothing is told of its rounds
pub untold : (shows : Bool) (board : PlainBoard) → configurations board ≤ MAX_CONFIGURATIONS
    → is_told_of shows board ≡ false
untold true board small = le-ltb MAX_CONFIGURATIONS (configurations board) small
untold false board small = refl

pub small_rounds : (shows : Bool) (board : PlainBoard) → configurations board ≤ MAX_CONFIGURATIONS
    → AreAllRounds (is_told_of shows board) board []
small_rounds shows board small = subst (λ b. AreAllRounds b board []) (sym (untold shows board small)) refl

-- and it is, of a large one
pub large_board : (shows : Bool) (board : PlainBoard) → shows ≡ true
    → (configurations board ≤ MAX_CONFIGURATIONS → ⊥) → size_notice board ≡ notice_for shows board
large_board true board shows large =
    sym (ap (λ b. if b then size_notice board else []) (lt-ltb MAX_CONFIGURATIONS (configurations board) many))
  where
    many : MAX_CONFIGURATIONS < configurations board
    many = elim (cases_lt MAX_CONFIGURATIONS (configurations board)) [
      | inl more ↦ more
      | inr few ↦ absurd (large few)
    ]
large_board false board shows large = cc

-- ---- the lines of the rounds

-- no lines
none_of : (step : ℕ) (counts : List ℕ) → lines_of (λ step count. []) step counts ≡ []
none_of step [] = refl
none_of step (count ∷ counts) = none_of (suc step) counts

module _ {E : Type 0} (known : E → Option (List ℕ)) (failed : E → Bool) where
  rounds_by : (shows : Bool) (board : PlainBoard) (counts : List ℕ) (old new : E) → AreOpenCounts board counts
      → IsMore known failed old new
      (lines_of (λ round count. if shows then round_line round count else []) 1 counts)
      → (told : List ℕ) × AreAllRounds shows board told × IsMore known failed old new told
  rounds_by true board counts old new are more = (lines_of round_line 1 counts, (counts, are, refl), more)
  rounds_by false board counts old new are more =
      ([], refl, subst (IsMore known failed old new) (none_of 1 counts) more)

  -- the values were found, and all rounds were told of; or they weren't, and nothing was told
  pub rounds_told : {Values Fault : Type 0} (shows shown : Bool) (board : PlainBoard) (old new : E)
      (result : Result Values Fault) → shown ≡ shows
      → OnOk result ((counts : List ℕ) × AreOpenCounts board counts
      × AreStepsTold (λ old new round count. IsMore known failed old new (if shown then round_line round count else []))
      1 counts old new)
      → OnErr result (new ≡ old)
      → (told : List ℕ) × MatchResult result (λ values. AreAllRounds shows board told) (λ fault. told ≡ [])
      × IsMore known failed old new told
  rounds_told shows shown board old new (Ok values) same told untold =
      rounds_by shows board told.0 old new told.1
      (subst (λ b. IsMore known failed old new
      (lines_of (λ round count. if b then round_line round count else []) 1 told.0)) same
      (told_lines known failed (λ round count. if shown then round_line round count else []) 1 told.0 old new told.2))
  rounds_told shows shown board old new (Err fault) same told untold =
      ([], refl, subst (λ e. IsMore known failed old e []) (sym untold) (none_more known failed old))

-- all rounds, and nothing after them
pub all_told : {Answer : Type 0} (shows : Bool) (board : PlainBoard) (result : Result Answer RunFault)
    (rounds : List ℕ) → AreAllRounds (is_told_of shows board) board rounds
    → AreRoundsTold shows nothing_after board result rounds
all_told shows board result rounds all = inr (rounds, [], sym (append-nil rounds), all, refl)

-- what was told of rounds may belong to another result, if memory is refused in that too
pub other_result : {Answer Other : Type 0} (shows : Bool) (board : PlainBoard) (result : Result Answer RunFault)
    (other : Result Other RunFault) → (result ≡ Err Memory → other ≡ Err Memory) → (rounds : List ℕ)
    → AreRoundsTold shows nothing_after board result rounds → AreRoundsTold shows nothing_after board other rounds
other_result shows board result other to rounds (inl (refused, kept, none)) = inl (to refused, kept, none)
other_result shows board result other to rounds (inr all) = inr all

-- a fault that is told of one answer is told of another
pub err_again : {Answer Other : Type 0} (result : Result Answer RunFault) (fault : RunFault) → result ≡ Err fault
    → result ≡ Err Memory → ◌≡◌ {A = Result Other RunFault} (Err fault) (Err Memory)
err_again result fault broke refused = let same : fault ≡ Memory = cc in ap Err same

-- the notice of the board with this text, and its rounds, in a run that ends so
pub noticed_text : {Answer Other : Type 0} (limit : BoardLimit) (text : List ℕ) (shows : Bool) (board : PlainBoard)
    → IsBoardWithin limit text board → (result : Result Answer RunFault) (other : Result Other RunFault)
    → (result ≡ Err Memory → other ≡ Err Memory) → (rounds : List ℕ)
    → AreRoundsTold shows nothing_after board result rounds
    → IsToldOnText limit text shows other (notice_for shows board ++ rounds)
noticed_text limit text shows board within result other to rounds are =
    inr (board, within, rounds, refl, other_result shows board result other to rounds are)

-- what was told of the rounds that find values belongs to a run in which memory is refused, if it is for these
pub rounds_of_run : {Values Answer : Type 0} (shows : Bool) (board : PlainBoard) (values : Result Values MemoryFault)
    (result : Result Answer RunFault) → (is_err values ≡ true → result ≡ Err Memory) → (rounds : List ℕ)
    → MatchResult values (λ found. AreAllRounds (is_told_of shows board) board rounds) (λ memory. rounds ≡ [])
    → AreRoundsTold shows nothing_after board result rounds
rounds_of_run shows board (Ok found) result to rounds all = all_told shows board result rounds all
rounds_of_run shows board (Err memory) result to rounds none = inl (to refl, tt, none)

-- the values were found, so all rounds were told of
pub rounds_found : {Values : Type 0} (shows : Bool) (board : PlainBoard) (values : Result Values MemoryFault)
    (found : Values) → values ≡ Ok found → (rounds : List ℕ)
    → MatchResult values (λ found. AreAllRounds (is_told_of shows board) board rounds) (λ memory. rounds ≡ [])
    → AreAllRounds (is_told_of shows board) board rounds
rounds_found shows board values found same rounds all =
    subst (λ (r : Result _ MemoryFault). MatchResult r (λ found. AreAllRounds (is_told_of shows board) board rounds)
    (λ memory. rounds ≡ [])) same all

-- memory for them was refused, so nothing was
pub rounds_none : {Values : Type 0} (shows : Bool) (board : PlainBoard) (values : Result Values MemoryFault)
    (fault : MemoryFault) → values ≡ Err fault → (rounds : List ℕ)
    → MatchResult values (λ found. AreAllRounds (is_told_of shows board) board rounds) (λ memory. rounds ≡ [])
    → rounds ≡ []
rounds_none shows board values fault same rounds all =
    subst (λ (r : Result _ MemoryFault). MatchResult r (λ found. AreAllRounds (is_told_of shows board) board rounds)
    (λ memory. rounds ≡ [])) same all

pub untold_more : {E : Type 0} (known : E → Option (List ℕ)) (failed : E → Bool) (old middle new : E)
    (notice rounds : List ℕ) → IsMore known failed old middle notice → rounds ≡ []
    → IsMore known failed middle new rounds → IsMore known failed old new notice
untold_more known failed old middle new notice rounds first none second =
    subst (IsMore known failed old new) (append-nil notice)
    (then_more known failed old middle new notice [] first (subst (IsMore known failed middle new) none second))

-- ---- of what was given

module _ {Answer Other : Type 0} (IsGiven IsGivenToo : PlainBoard → Type 0) (IsMissing IsMissingToo : RunFault → Type 0)
    (given : (board : PlainBoard) → IsGiven board → IsGivenToo board)
    (missing : (fault : RunFault) → IsMissing fault → IsMissingToo fault) (shows : Bool) (told : List ℕ)
    (result : Result Answer RunFault) (is : IsToldOnBoard IsGiven IsMissing shows nothing_after result told) where
  pub given_then : (answer : Answer) → result ≡ Ok answer → (other : Result Other RunFault)
      → IsToldOnBoard IsGivenToo IsMissingToo shows nothing_after other told
  given_then answer ok other = by is
    where
      by : IsToldOnBoard IsGiven IsMissing shows nothing_after result told
          → IsToldOnBoard IsGivenToo IsMissingToo shows nothing_after other told
      by (inl (fault, broke, is_missing, kept, none)) = cc
      by (inr (board, is_given, rounds, told_is, are)) =
          inr (
            board,
            given board is_given,
            rounds,
            told_is,
            other_result shows board result other (λ refused. let bad : ⊥ = cc in absurd bad) rounds are,
          )

  pub given_before : (fault : RunFault) → result ≡ Err fault
      → IsToldOnBoard {Answer = Other} IsGivenToo IsMissingToo shows nothing_after (Err fault) told
  given_before fault broke = by is
    where
      one : (other : RunFault) → result ≡ Err other → other ≡ fault
      one other same = cc

      by : IsToldOnBoard IsGiven IsMissing shows nothing_after result told
          → IsToldOnBoard {Answer = Other} IsGivenToo IsMissingToo shows nothing_after (Err fault) told
      by (inl (other, same, is_missing, kept, none)) =
          inl (fault, refl, missing fault (subst IsMissing (one other same) is_missing), kept, none)
      by (inr (board, is_given, rounds, told_is, are)) =
          inr (
            board,
            given board is_given,
            rounds,
            told_is,
            other_result {Other = Other} shows board result (Err fault) (λ refused. ap Err (sym (one Memory refused)))
                rounds are,
          )

-- ---- of a small board, nothing

pub small_unnoticed : {Answer : Type 0} (text : List ℕ) (shows : Bool) (IsSolved : PlainBoard → Answer → Type 0)
    (result : Result Answer RunFault)
    → IfOk result (λ answer. (board : PlainBoard) × IsBoardWithin Small text board × IsSolved board answer)
    → IfErr result (HasNoneWithin Small text) → IsToldOnText Small text shows result []
small_unnoticed text shows IsSolved (Ok answer) (board, within, solved) fault =
    inr (
      board,
      within,
      [],
      small_board shows board within.few ∙ sym (append-nil (notice_for shows board)),
      all_told shows board (Ok answer) [] (small_rounds shows board within.few),
    )
small_unnoticed text shows IsSolved (Err fault) ok none = inl (fault, refl, none, tt, refl)

-- ---- of the same board, in another run

module _ {Answer Other : Type 0} (limit : BoardLimit) (text : List ℕ) (shows : Bool) (told : List ℕ)
    (result : Result Answer RunFault) (is : IsToldOnText limit text shows result told) where
  pub text_noticed : (answer : Answer) → result ≡ Ok answer → (other : Result Other RunFault)
      → IsToldOnText limit text shows other told
  text_noticed =
      given_then (IsBoardWithin limit text) (IsBoardWithin limit text) (HasNoneWithin limit text)
      (HasNoneWithin limit text) (λ board within. within) (λ fault lacking. lacking) shows told result is

  pub text_noticed_before : (fault : RunFault) → result ≡ Err fault
      → IsToldOnText {Answer = Other} limit text shows (Err fault) told
  text_noticed_before =
      given_before (IsBoardWithin limit text) (IsBoardWithin limit text) (HasNoneWithin limit text)
      (HasNoneWithin limit text) (λ board within. within) (λ fault lacking. lacking) shows told result is

-- ---- of a board that is read

module _ {Answer Other : Type 0} (limit : BoardLimit) (read : Bytes) (text : List ℕ)
    (gave : Gave MAX_BOARD_BYTES read text) (shows : Bool) (told : List ℕ) (result : Result Answer RunFault)
    (is : IsToldOnText limit text shows result told) where
  pub noticed_then : (answer : Answer) → result ≡ Ok answer → (other : Result Other RunFault)
      → IsToldInRun limit read shows nothing_after other told
  noticed_then =
      given_then (IsBoardWithin limit text) (GaveBoard limit MAX_BOARD_BYTES read) (HasNoneWithin limit text)
      (GaveNoBoard limit MAX_BOARD_BYTES read) (λ board within. (text, gave, within))
      (λ fault lacking. inr (text, gave, lacking)) shows told result is

  pub noticed_before : (fault : RunFault) → result ≡ Err fault
      → IsToldInRun {Answer = Other} limit read shows nothing_after (Err fault) told
  noticed_before =
      given_before (IsBoardWithin limit text) (GaveBoard limit MAX_BOARD_BYTES read) (HasNoneWithin limit text)
      (GaveNoBoard limit MAX_BOARD_BYTES read) (λ board within. (text, gave, within))
      (λ fault lacking. inr (text, gave, lacking)) shows told result is
