-- Each job ends with one outcome and one text, over known files and a known input.
use Rattle.std.proofs.Common.{◌≡◌, ◌∙◌, ℕ, inl, inr, List, Option, Some, None, ap, sym}
use Rattle.std.specs.Prelude.{Err, Ok, option_map}
use Rattle.std.specs.Borrow.{Bor}
use Rattle.clap.specs.Walk.{Text}
use Rattle.board_text.specs.BoardText.{board_text}
use Rattle.command_line.specs.Reading.{IsInRange}
use Rattle.command_line.specs.declared.asked.BoardLimit.{BoardLimit}
use Rattle.command_line.specs.declared.asked.Job.{Job}
use Rattle.command_line.specs.declared.asked.Job.TheVariants as jobs
use Rattle.nested_cycles.proofs.NestedBoards.{one_nested_board}
use Rattle.player.specs.Transcript.{PersonClimbs}
use Rattle.positions.specs.declared.side.Side.{Side}
use Rattle.runs.specs.NestedText.{IsNestedText}
use Rattle.runs.specs.Run.{Stream}
use Rattle.runs.specs.declared.fault.RunFault.TheVariants.{Read}
use Rattle.runs.specs.declared.summaries.Summary.TheVariants as summaries
use Rattle.serving.specs.Folders.{File}
use Rattle.serving.specs.Jobs.{CanFailAt, IsDone, WritesNested, WritesValues}
use Rattle.serving.specs.Servings.{AreKnown}
use Rattle.serving.specs.declared.outcome.Outcome.{Outcome}
use Rattle.serving.specs.declared.outcome.Outcome.TheVariants.{Broken, Done}
use Rattle.serving.specs.declared.value_texts.ValueText.{ValueText}
use Rattle.serving.specs.declared.value_texts.ValueText.TheVariants as texts
use Rattle.serving.proofs.DomainPlays.{DomainPlayEnds, domain_play_ends, one_domain_play}
use Rattle.serving.proofs.KnownChecks.{CheckEnds, JoinedEnds, check_ends, joined_ends, one_check_end, one_joined_end}
use Rattle.serving.proofs.KnownFiles.{FileEnds, IsFair, PairEnds, one_file, one_pair, plain_of}
use Rattle.serving.proofs.KnownRuns.{EndsBy, Had, IsOne, took}
use Rattle.serving.proofs.OneJob.{settled, settled_path}
use Rattle.serving.proofs.PlayEnds.{BoardPlayEnds, PlayEnds, board_play_ends, one_board_play, one_play, play_known}
use Rattle.serving.proofs.ValueEnds.{ChainsEnd, ValuesEnd, ValuesEndUpTo, chains_end, one_chains_end, one_values_end}
use Rattle.serving.proofs.ValueEnds.{one_values_end_up_to, values_end, values_end_up_to}

-- ---- a nested board

abbrev NestedEnds : ℕ → ℕ → Outcome → List ℕ → Type 0
NestedEnds levels pebbles outcome text = (outcome ≡ Done) × IsNestedText levels pebbles text

one_nested : (levels pebbles : ℕ) → IsOne (NestedEnds levels pebbles)
one_nested levels pebbles outcome other text line (same, (board, is, spelled)) (also, (second, is_too, spelled_too)) = (
  same ∙ sym also,
  spelled ∙ ap board_text (one_nested_board levels pebbles board second is is_too)
      ∙ sym spelled_too,
)

nested : (levels pebbles : ℕ) (output : Stream) (taken : List ℕ) (outcome : Outcome) → Had output taken → IsFair outcome
    → WritesNested levels pebbles output outcome → EndsBy output taken (NestedEnds levels pebbles) outcome
nested levels pebbles output taken outcome had fair ((Ok answer, (text, is, wrote), same), _) =
    (text, took output taken text had wrote, (same, is))
nested levels pebbles output taken outcome had fair ((Err fault, inl memory, same), _) =
    absurd (fair.memory (same ∙ ap Broken memory))
nested levels pebbles output taken outcome had fair ((Err fault, inr (write, cut), same), _) =
    absurd (fair.write (same ∙ ap Broken write))

-- ---- the outcome and the bytes that a job asks for

module _ (at : List ℕ → File) (lines : List ℕ) where
  -- a text of the values of a board
  abbrev TextEnds : ValueText → BoardLimit → Option (Bor Text) → Bor Text → Outcome → List ℕ → Type 0
  TextEnds text limit None board = FileEnds (ValuesEnd text limit) (at board.now)
  TextEnds text limit (Some symmetries) board =
      PairEnds (ValuesEndUpTo text limit) (at board.now) (at symmetries.now)

  -- a play
  abbrev PlayedEnds : Side → BoardLimit → Option (Bor Text) → Bor Text → Outcome → List ℕ → Type 0
  PlayedEnds side limit None board = FileEnds (BoardPlayEnds limit side lines) (at board.now)
  PlayedEnds side limit (Some symmetries) board =
      PairEnds (DomainPlayEnds limit side lines) (at board.now) (at symmetries.now)

  abbrev pub JobEnds : Job → Outcome → List ℕ → Type 0
  JobEnds jobs.Joined = JoinedEnds lines
  JobEnds (jobs.Check board proof) = PairEnds CheckEnds (at board.now) (at proof.now)
  JobEnds (jobs.Nested levels pebbles) = NestedEnds levels pebbles
  JobEnds (jobs.Solve workers side limit symmetries board) = TextEnds (texts.Document side) limit symmetries board
  JobEnds (jobs.Report workers limit symmetries board) =
      TextEnds (texts.Summary summaries.Report) limit symmetries board
  JobEnds (jobs.Starts workers limit symmetries board) =
      TextEnds (texts.Summary summaries.Starts) limit symmetries board
  JobEnds (jobs.Chains workers most board) = FileEnds (ChainsEnd most) (at board.now)
  JobEnds (jobs.Play side limit symmetries board) = PlayedEnds side limit symmetries board
  JobEnds (jobs.Climb levels) = PlayEnds (PersonClimbs levels) lines

  -- ---- there is one

  one_text_end : (text : ValueText) (limit : BoardLimit) (symmetries : Option (Bor Text)) (board : Bor Text)
      → IsOne (TextEnds text limit symmetries board)
  one_text_end text limit None board = one_file (ValuesEnd text limit) (one_values_end text limit) (at board.now)
  one_text_end text limit (Some symmetries) board =
      one_pair (ValuesEndUpTo text limit) (one_values_end_up_to text limit) (at board.now) (at symmetries.now)

  one_played_end : (side : Side) (limit : BoardLimit) (symmetries : Option (Bor Text)) (board : Bor Text)
      → IsOne (PlayedEnds side limit symmetries board)
  one_played_end side limit None board =
      one_file (BoardPlayEnds limit side lines) (one_board_play limit side lines) (at board.now)
  one_played_end side limit (Some symmetries) board =
      one_pair (DomainPlayEnds limit side lines) (one_domain_play limit side lines) (at board.now) (at symmetries.now)

  pub one_job_end : (job : Job) → IsInRange job → IsOne (JobEnds job)
  one_job_end jobs.Joined numbers = one_joined_end lines
  one_job_end (jobs.Check board proof) numbers = one_pair CheckEnds one_check_end (at board.now) (at proof.now)
  one_job_end (jobs.Nested levels pebbles) numbers = one_nested levels pebbles
  one_job_end (jobs.Solve workers side limit symmetries board) numbers =
      one_text_end (texts.Document side) limit symmetries board
  one_job_end (jobs.Report workers limit symmetries board) numbers =
      one_text_end (texts.Summary summaries.Report) limit symmetries board
  one_job_end (jobs.Starts workers limit symmetries board) numbers =
      one_text_end (texts.Summary summaries.Starts) limit symmetries board
  one_job_end (jobs.Chains workers most board) numbers =
      one_file (ChainsEnd most) (one_chains_end most) (at board.now)
  one_job_end (jobs.Play side limit symmetries board) numbers = one_played_end side limit symmetries board
  one_job_end (jobs.Climb levels) numbers = one_play (PersonClimbs levels) numbers lines

  -- ---- a job that is done ends so

  module _ (known : AreKnown at) (input output : Stream) (taken : List ℕ) (had_lines : Had input lines)
      (had : Had output taken) (outcome : Outcome) (fair : IsFair outcome) where
    text_ends : (text : ValueText) (workers : ℕ) (limit : BoardLimit) (symmetries : Option (Bor Text))
        (board : Bor Text) → (outcome ≡ Broken Read → CanFailAt at board symmetries)
        → WritesValues at text workers limit symmetries board output outcome
        → EndsBy output taken (TextEnds text limit (option_map settled_path symmetries) (settled_path board)) outcome
    text_ends text workers limit None board unread is =
        values_end output taken had outcome fair text workers limit (at board.now) (known board.now) unread is
    text_ends text workers limit (Some symmetries) board unread is =
        values_end_up_to output taken had outcome fair text limit (at board.now) (at symmetries.now) (known board.now)
        (known symmetries.now) unread is

    played_ends : (side : Side) (limit : BoardLimit) (symmetries : Option (Bor Text)) (board : Bor Text)
        → IsDone at input output (jobs.Play side limit symmetries board) outcome
        → EndsBy output taken (PlayedEnds side limit (option_map settled_path symmetries) (settled_path board)) outcome
    played_ends side limit None board is =
        board_play_ends limit side input output lines taken had_lines.old had outcome fair (at board.now)
        (known board.now) is.unread had_lines.sound is.does
    played_ends side limit (Some symmetries) board is =
        domain_play_ends limit side input output lines taken had_lines.old had outcome fair (at board.now)
        (at symmetries.now) (known board.now) (known symmetries.now) is.unread had_lines.sound is.does

    pub job_ends : (job : Job) → IsDone at input output job outcome
        → EndsBy output taken (JobEnds (settled job)) outcome
    job_ends jobs.Joined is = joined_ends lines input output taken had_lines had outcome fair is.unread is.does
    job_ends (jobs.Check board proof) is =
        check_ends output taken had outcome fair (at board.now) (at proof.now) (known board.now) (known proof.now)
        is.unread is.does.0
    job_ends (jobs.Nested levels pebbles) is = nested levels pebbles output taken outcome had fair is.does.0
    job_ends (jobs.Solve workers side limit symmetries board) is =
        text_ends (texts.Document side) workers limit symmetries board is.unread is.does.0
    job_ends (jobs.Report workers limit symmetries board) is =
        text_ends (texts.Summary summaries.Report) workers limit symmetries board is.unread is.does.0
    job_ends (jobs.Starts workers limit symmetries board) is =
        text_ends (texts.Summary summaries.Starts) workers limit symmetries board is.unread is.does.0
    job_ends (jobs.Chains workers most board) is =
        chains_end output taken had outcome fair most (at board.now) (known board.now) is.unread is.does.0
    job_ends (jobs.Play side limit symmetries board) is = played_ends side limit symmetries board is
    job_ends (jobs.Climb levels) is =
        play_known (PersonClimbs levels) input output lines taken had_lines.old had outcome
        (plain_of outcome fair (λ e. had_lines.sound (is.unread e))) is.does
