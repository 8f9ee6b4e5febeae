-- Plays with values up to symmetries, over known bytes, end with one outcome and one transcript.
use Rattle.std.proofs.Common.{◌≡◌, ◌≢◌, ℕ, ◌⊎◌, inl, inr, List, [], Some, refl}
use Rattle.std.specs.Prelude.{Err, MatchResult, Ok, Result}
use Rattle.board_text.specs.PlainBoard.{IsBoard, PlainBoard}
use Rattle.command_line.specs.declared.asked.BoardLimit.{BoardLimit}
use Rattle.player.specs.declared.end.PlayEnd.{PlayEnd}
use Rattle.positions.specs.declared.side.Side.{Side}
use Rattle.runs.proofs.Cited.{given_or_lacking, one_lacking}
use Rattle.runs.specs.BoardRun.{GaveBoardAmong, readers_by}
use Rattle.runs.specs.PlayRun.{IsBrokenOff, IsOver, PlayFailsUpTo, RanPlayUpTo, game_played}
use Rattle.runs.specs.Run.{Bytes, Gave, IsUnread, Stream}
use Rattle.runs.specs.SymmetricRun.{GaveDomain, GivesFewOrbits, HasNoFewOrbits, LacksFewOrbits}
use Rattle.runs.specs.Texts.{IsWithinUpTo}
use Rattle.runs.specs.declared.fault.RunFault.{RunFault}
use Rattle.runs.specs.declared.fault.RunFault.TheVariants.{Read}
use Rattle.runs.specs.declared.given_symmetries.TheConstants.{MAX_SYMMETRIES_BYTES}
use Rattle.runs.specs.declared.reading.TheConstants.{MAX_BOARD_BYTES}
use Rattle.serving.specs.Folders.{CanFail, Closed, File, Holds, Unknown}
use Rattle.serving.specs.Jobs.{PlaysUpTo, play_over}
use Rattle.serving.specs.Outcomes.{EndsAs, outcome_of_run}
use Rattle.serving.specs.declared.outcome.Outcome.{Outcome}
use Rattle.serving.specs.declared.outcome.Outcome.TheVariants.{Broken}
use Rattle.serving.proofs.KnownFiles.{IsFair, PairEnds, plain_of}
use Rattle.serving.proofs.KnownRuns.{EndsBy, Had, IsOne, IsPlain, ReadEnds, broken_ends, one_read_end, stayed}
use Rattle.serving.proofs.KnownRuns.{then_ends}
use Rattle.serving.proofs.KnownFaults.{wrong_orbits}
use Rattle.serving.proofs.PlayEnds.{PlayEnds, is_game, one_play, play_known}
use Rattle.serving.proofs.ReadBoards.{BoardThen, one_board_then, with_board, without_board}

-- the texts of symmetries are given, and then there is a play on the board
abbrev GivenAndPlayed : Side → List ℕ → PlainBoard → List ℕ → Outcome → List ℕ → Type 0
GivenAndPlayed side lines board given outcome text =
    GivesFewOrbits board given × PlayEnds (game_played side board) lines outcome text

-- the outcome and the transcript for the texts of symmetries and of a play on the board
abbrev SymmetricPlayEnds : Side → List ℕ → List ℕ → PlainBoard → Outcome → List ℕ → Type 0
SymmetricPlayEnds side lines given board =
    ReadEnds MAX_SYMMETRIES_BYTES (LacksFewOrbits board) (GivenAndPlayed side lines board) given

one_symmetric_play : (side : Side) (lines given : List ℕ) (board : PlainBoard) → IsBoard board
    → IsOne (SymmetricPlayEnds side lines given board)
one_symmetric_play side lines given board is =
    one_read_end MAX_SYMMETRIES_BYTES (LacksFewOrbits board) (GivenAndPlayed side lines board) given
    (one_lacking board is given)
    (λ fault outcome text lacks played. given_or_lacking board is given fault played.0 lacks)
    (λ outcome other text line one two.
    one_play (game_played side board) (is_game side board is) lines outcome other text line one.1 two.1)

-- those for the texts of a board, of symmetries and of a play
abbrev pub DomainPlayEnds : BoardLimit → Side → List ℕ → List ℕ → List ℕ → Outcome → List ℕ → Type 0
DomainPlayEnds limit side lines bytes given =
    BoardThen (IsWithinUpTo limit) (SymmetricPlayEnds side lines given) bytes

pub one_domain_play : (limit : BoardLimit) (side : Side) (lines bytes given : List ℕ)
    → IsOne (DomainPlayEnds limit side lines bytes given)
one_domain_play limit side lines bytes given =
    one_board_then (IsWithinUpTo limit) (SymmetricPlayEnds side lines given) (one_symmetric_play side lines given) bytes

module _ (limit : BoardLimit) (side : Side) (input output : Stream) (lines taken : List ℕ)
    (old : input.bytes.old ≡ Some lines) (had : Had output taken) (outcome : Outcome) (fair : IsFair outcome) where
  module _ (one two : Bytes) (bytes given : List ℕ) (one_old : one.old ≡ Some bytes) (two_old : two.old ≡ Some given)
      (plain : IsPlain outcome) where
    abbrev OnDomain : Type 0
    OnDomain = EndsBy output taken (DomainPlayEnds limit side lines bytes given) outcome

    on_board : (board : PlainBoard) → GaveBoardAmong (IsWithinUpTo limit) MAX_BOARD_BYTES one board
        → EndsBy output taken (SymmetricPlayEnds side lines given board) outcome → OnDomain
    on_board board gave ended =
        with_board (IsWithinUpTo limit) (SymmetricPlayEnds side lines given) one bytes one_old output taken outcome
        board gave ended

    -- the symmetries weren't given
    not_given : (board : PlainBoard) (fault : RunFault) → outcome ≡ Broken fault
        → IsUnread MAX_SYMMETRIES_BYTES two fault
        ⊎ ((text : List ℕ) × Gave MAX_SYMMETRIES_BYTES two text × HasNoFewOrbits board text fault)
        → output.IsKept → EndsBy output taken (SymmetricPlayEnds side lines given board) outcome
    not_given board fault same why stays =
        broken_ends MAX_SYMMETRIES_BYTES (LacksFewOrbits board) (GivenAndPlayed side lines board) two given two_old
        output taken outcome plain (HasNoFewOrbits board) (wrong_orbits board) fault same why
        (stayed output taken had stays)

    domain_played : (board : PlainBoard) → GaveDomain limit one two board
        → EndsAs outcome_of_run (IsOver (game_played side board) input.bytes output.bytes)
        (IsBrokenOff (game_played side board) input.bytes output.bytes) outcome → OnDomain
    domain_played board domain run =
        let end = play_known (game_played side board) input output lines taken old had outcome plain run in
        on_board board domain.is_board
        (then_ends MAX_SYMMETRIES_BYTES (LacksFewOrbits board) (GivenAndPlayed side lines board) two given two_old
        output taken outcome domain.text domain.gave (end.0, end.1, (domain.few, end.2)))

    played_up_to : EndsAs outcome_of_run (RanPlayUpTo limit side (readers_by one two) (play_over input output))
        (PlayFailsUpTo limit side (readers_by one two) (play_over input output)) outcome → OnDomain
    played_up_to (result, match, same) = go result match same
      where
        go : (result : Result PlayEnd RunFault) → MatchResult result
            (RanPlayUpTo limit side (readers_by one two) (play_over input output))
            (PlayFailsUpTo limit side (readers_by one two) (play_over input output))
            → outcome ≡ outcome_of_run result → OnDomain
        go (Ok end) (board, domain, over) same = domain_played board domain (Ok end, over, same)
        go (Err fault) (inl (inl (none, untouched), stays)) same =
            without_board (IsWithinUpTo limit) (SymmetricPlayEnds side lines given) one bytes one_old output taken
            outcome plain fault same none (stayed output taken had stays.1)
        go (Err fault) (inl (inr (board, gave, why), stays)) same =
            on_board board gave (not_given board fault same why stays.1)
        go (Err fault) (inr (board, domain, breaks)) same = domain_played board domain (Err fault, breaks, same)

  pub domain_play_ends : (first second : File) → first ≢ Unknown → second ≢ Unknown
      → (outcome ≡ Broken Read → (CanFail first ⊎ CanFail second) ⊎ input.HasFailed) → (input.HasFailed → ⊥)
      → PlaysUpTo side limit first second (play_over input output) outcome
      → EndsBy output taken (PairEnds (DomainPlayEnds limit side lines) first second) outcome
  domain_play_ends Unknown second known known_too unread sound opens = absurd (known refl)
  domain_play_ends Closed second known known_too unread sound (inl (can, stays, same)) =
      ([], stayed output taken had stays.1, (same, refl))
  domain_play_ends Closed second known known_too unread sound (inr (one, two, opens, opens_too, then)) = absurd opens
  domain_play_ends (Holds bytes) Unknown known known_too unread sound opens = absurd (known_too refl)
  domain_play_ends (Holds bytes) Closed known known_too unread sound (inl (can, stays, same)) =
      ([], stayed output taken had stays.1, (same, refl))
  domain_play_ends (Holds bytes) Closed known known_too unread sound (inr (one, two, opens, opens_too, then)) =
      absurd opens_too
  domain_play_ends (Holds bytes) (Holds given) known known_too unread sound (inl (can, stays, same)) =
      absurd (elim can [ inl bad ↦ bad | inr bad ↦ bad ])
  domain_play_ends (Holds bytes) (Holds given) known known_too unread sound (inr (one, two, opens, opens_too, then)) =
      played_up_to one two bytes given opens opens_too (plain_of outcome fair (λ e. elim (unread e) [
        | inl (inl bad) ↦ bad
        | inl (inr bad) ↦ bad
        | inr failed ↦ sound failed
      ])) then
