-- Plays over known bytes end with one outcome and one transcript.
use Rattle.std.proofs.Common.{◌≡◌, ◌≢◌, ◌∙◌, ℕ, ◌≤◌, ◌⊎◌, inl, inr, List, [], length, Option, Some}
use Rattle.std.proofs.Common.{ap, refl, subst, sym}
use Rattle.std.specs.Prelude.{Err, MatchResult, Ok, Result}
use Rattle.board_text.specs.PlainBoard.{IsBoard, PlainBoard}
use Rattle.board_text.proofs.Cited.{between}
use Rattle.command_line.specs.declared.asked.BoardLimit.{BoardLimit}
use Rattle.player.specs.Laws.{IsGame}
use Rattle.player.specs.Play.{BreaksOff, Ends as PlayEndsBy, HasEnded, LinesCame}
use Rattle.player.specs.Transcript.{Game, IsPlayed}
use Rattle.player.specs.Words.{BeginsTooLong}
use Rattle.player.specs.declared.end.PlayEnd.{PlayEnd}
use Rattle.player.specs.declared.end.PlayFault.{PlayFault}
use Rattle.player.specs.declared.end.PlayFault.TheVariants as play_faults
use Rattle.positions.specs.declared.side.Side.{Side}
use Rattle.positions.specs.declared.side.Side.TheVariants.{Labeller, Adversary}
use Rattle.runs.specs.BoardRun.{GaveBoard}
use Rattle.runs.specs.Faults.{fault_of_play}
use Rattle.runs.specs.PlayRun.{IsBrokenOff, IsOver, PlayFails, RanPlay, game_played}
use Rattle.runs.specs.Run.{Bytes, Stream}
use Rattle.runs.specs.Texts.{IsWithinLimit}
use Rattle.runs.specs.declared.fault.RunFault.{RunFault}
use Rattle.runs.specs.declared.fault.RunFault.TheVariants.{Limit, Read}
use Rattle.runs.specs.declared.reading.TheConstants.{MAX_BOARD_BYTES}
use Rattle.serving.specs.Folders.{CanFail, Closed, File, Holds, Unknown}
use Rattle.serving.specs.Jobs.{Plays, play_over}
use Rattle.serving.specs.Outcomes.{EndsAs, outcome_of_run}
use Rattle.serving.specs.declared.outcome.Outcome.{Outcome}
use Rattle.serving.specs.declared.outcome.Outcome.TheVariants.{Broken, Done}
use Rattle.serving.proofs.KnownFiles.{FileEnds, IsFair, plain_of}
use Rattle.serving.proofs.KnownPlays.{Cuts, HasEndedBy, HasStoppedAt, Leaves, cuts, ended_or_stopped, too_long_is}
use Rattle.serving.proofs.KnownPlays.{two_ended, two_stopped}
use Rattle.serving.proofs.KnownRuns.{EndsBy, Had, IsOne, IsPlain, stayed, took}
use Rattle.serving.proofs.ReadBoards.{BoardThen, one_board_then, with_board, without_board}

-- the outcome and the transcript that the bytes of a play ask for
abbrev pub PlayEnds : Game → List ℕ → Outcome → List ℕ → Type 0
PlayEnds game bytes outcome text =
    ((lines : List (List ℕ)) × (tail : List ℕ) × (length lines ≤ 1000000) × HasEndedBy game bytes lines tail text ×
    (outcome ≡ Done))
    ⊎ ((lines : List (List ℕ)) × (tail : List ℕ) × (length lines ≤ 1000000) × HasStoppedAt game bytes lines tail text
    × (outcome ≡ Broken Limit))

pub one_play : (game : Game) (is : IsGame game) (bytes : List ℕ) → IsOne (PlayEnds game bytes)
one_play game is bytes outcome other text line (inl (lines, tail, few, ended, same))
    (inl (others, rest, few_too, ended_too, same_too)) =
    (same ∙ sym same_too, two_ended game is bytes lines others tail rest text line ended ended_too)
one_play game is bytes outcome other text line (inl (lines, tail, few, ended, same))
    (inr (others, rest, few_too, stopped, same_too)) =
    absurd (ended_or_stopped game is bytes lines others tail rest text line few ended stopped)
one_play game is bytes outcome other text line (inr (lines, tail, few, stopped, same))
    (inl (others, rest, few_too, ended, same_too)) =
    absurd (ended_or_stopped game is bytes others lines rest tail line text few_too ended stopped)
one_play game is bytes outcome other text line (inr (lines, tail, few, stopped, same))
    (inr (others, rest, few_too, stopped_too, same_too)) =
    (same ∙ sym same_too, two_stopped game is bytes lines others tail rest text line few few_too stopped stopped_too)

module _ (game : Game) (input output : Stream) (bytes taken : List ℕ) (old : input.bytes.old ≡ Some bytes)
    (had : Had output taken)
    (outcome : Outcome) (plain : IsPlain outcome) where
  abbrev Ended : Type 0
  Ended = EndsBy output taken (PlayEnds game bytes) outcome

  came_known : (lines : List (List ℕ)) (rest : List ℕ) → LinesCame input.bytes lines rest
      → LinesCame (between (Some bytes) input.bytes.new) lines rest
  came_known lines rest came =
      subst (λ (o : Option (List ℕ)). LinesCame (between o input.bytes.new) lines rest) old came

  played_to_end : (end : PlayEnd) → outcome ≡ Done → HasEnded (IsPlayed game) input.bytes output.bytes end → Ended
  played_to_end end same (lines, rest, text, came, ends, appends) =
      let cut = cuts bytes input.bytes.new lines rest (came_known lines rest came) in
      (text, took output taken text had appends, inl (lines, cut.0, came.few, ended cut.0 cut.1 cut.2 ends, same))
    where
      ended : (tail : List ℕ) → Cuts bytes lines tail → Leaves rest input.bytes.new tail → PlayEndsBy
          (IsPlayed game) input.bytes.new lines rest text end
          → HasEndedBy game bytes lines tail text
      ended tail cut leaves (inl over) = record { cut = cut; end = end; transcript = inl over; ends = inl over }
      ended tail cut leaves (inr (stops, finished, none, less)) =
          record { cut = cut; end = end; transcript = inr stops; ends = inr (leaves.1 finished none, less) }

  play_broken : (why : PlayFault) → outcome ≡ Broken (fault_of_play why)
      → BreaksOff (IsPlayed game) input.bytes output.bytes why → Ended
  play_broken play_faults.Read same breaks = absurd (plain.read same)
  play_broken play_faults.Write same breaks = absurd (plain.write same)
  play_broken play_faults.Memory same breaks = absurd (plain.memory same)
  play_broken play_faults.Limit same (lines, rest, text, at, requests, came, waits, played, appends) =
      let cut = cuts bytes input.bytes.new lines rest (came_known lines rest came) in
      (text, took output taken text had appends, inr (lines, cut.0, came.few, stopped cut.0 cut.1 cut.2 waits, same))
    where
      stopped : (tail : List ℕ) → Cuts bytes lines tail → Leaves rest input.bytes.new tail → (length lines ≡ 1000000)
          ⊎ BeginsTooLong rest
          → HasStoppedAt game bytes lines tail text
      stopped tail cut leaves (inl full) = record {
        cut = cut;
        at = at;
        requests = requests;
        goes = played;
        limit =
            inl full;
      }
      stopped tail cut leaves (inr long) = record {
        cut = cut;
        at = at;
        requests = requests;
        goes = played;
        limit = inr (subst BeginsTooLong (sym leaves.0.1) (too_long_is rest leaves.0.0 long));
      }

  pub play_known : EndsAs outcome_of_run (IsOver game input.bytes output.bytes)
      (IsBrokenOff game input.bytes output.bytes) outcome → Ended
  play_known (result, match, same) = go result match same
    where
      go : (result : Result PlayEnd RunFault) → MatchResult result (IsOver game input.bytes output.bytes)
          (IsBrokenOff game input.bytes output.bytes)
          → outcome ≡ outcome_of_run result → Ended
      go (Ok end) (ended, keeps) same = played_to_end end same ended
      go (Err fault) (why, breaks, told) same = play_broken why (same ∙ ap Broken told) breaks

-- the outcome and the transcript for the texts of a board and of a play
abbrev pub BoardPlayEnds : BoardLimit → Side → List ℕ → List ℕ → Outcome → List ℕ → Type 0
BoardPlayEnds limit side lines =
    BoardThen (IsWithinLimit limit) (λ board. PlayEnds (game_played side board) lines)

pub is_game : (side : Side) (board : PlainBoard) → IsBoard board → IsGame (game_played side board)
is_game Labeller board is = is
is_game Adversary board is = is

pub one_board_play : (limit : BoardLimit) (side : Side) (lines b : List ℕ) → IsOne (BoardPlayEnds limit side lines b)
one_board_play limit side lines =
    one_board_then (IsWithinLimit limit) (λ board. PlayEnds (game_played side board) lines)
    (λ board is. one_play (game_played side board) (is_game side board is) lines)

module _ (limit : BoardLimit) (side : Side) (input output : Stream) (lines taken : List ℕ)
    (old : input.bytes.old ≡ Some lines) (had : Had output taken) (outcome : Outcome) (fair : IsFair outcome) where
  abbrev Then : PlainBoard → Outcome → List ℕ → Type 0
  Then board = PlayEnds (game_played side board) lines

  played : (read : Bytes) (bytes : List ℕ) → read.old ≡ Some bytes → IsPlain outcome
      → EndsAs outcome_of_run (RanPlay limit side read (play_over input output))
      (PlayFails limit side read (play_over input output)) outcome
      → EndsBy output taken (BoardPlayEnds limit side lines bytes) outcome
  played read bytes board_old plain (result, match, same) = go result match same
    where
      on_board : (board : PlainBoard) → GaveBoard limit MAX_BOARD_BYTES read board
          → EndsAs outcome_of_run (IsOver (game_played side board) input.bytes output.bytes)
          (IsBrokenOff (game_played side board) input.bytes output.bytes) outcome
          → EndsBy output taken (BoardPlayEnds limit side lines bytes) outcome
      on_board board gave run =
          with_board (IsWithinLimit limit) Then read bytes board_old output taken outcome board gave
          (play_known (game_played side board) input output lines taken old had outcome plain run)

      go : (result : Result PlayEnd RunFault) → MatchResult result
          (RanPlay limit side read (play_over input output)) (PlayFails limit side read (play_over input output))
          → outcome ≡ outcome_of_run result → EndsBy output taken (BoardPlayEnds limit side lines bytes) outcome
      go (Ok end) (board, gave, over) same = on_board board gave (Ok end, over, same)
      go (Err fault) (inl (none, stays)) same =
          without_board (IsWithinLimit limit) Then read bytes board_old output taken outcome plain fault same none
          (stayed output taken had stays.1)
      go (Err fault) (inr (board, gave, breaks)) same = on_board board gave (Err fault, breaks, same)

  pub board_play_ends : (file : File) → file ≢ Unknown → (outcome ≡ Broken Read → CanFail file ⊎ input.HasFailed)
      → (input.HasFailed → ⊥) → Plays side limit file (play_over input output) outcome
      → EndsBy output taken (FileEnds (BoardPlayEnds limit side lines) file) outcome
  board_play_ends Unknown known unread sound opens = absurd (known refl)
  board_play_ends Closed known unread sound (inl (can, stays, same)) =
      ([], stayed output taken had stays.1, (same, refl))
  board_play_ends Closed known unread sound (inr (read, opens, then)) = absurd opens
  board_play_ends (Holds bytes) known unread sound (inl (can, stays, same)) = absurd can
  board_play_ends (Holds bytes) known unread sound (inr (read, opens, then)) =
      played read bytes opens (plain_of outcome fair
      (λ e. elim (unread e) [ inl bad ↦ bad | inr failed ↦ sound failed ])) then
