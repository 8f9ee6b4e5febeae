-- Runs that read a board first.
use Rattle.std.specs.Prelude.{◌≡◌, ℕ, ◌⊎◌, List, Option}
use Rattle.board_text.specs.PlainBoard.{PlainBoard}
use Rattle.runs.specs.Run.{Bytes, Gave, IsUnread, bytes_of}
use Rattle.runs.specs.Texts.{HasNoneAmong, IsBoardAmong, IsWithinLimit}
use Rattle.command_line.specs.declared.asked.BoardLimit.{BoardLimit}
use Rattle.runs.specs.declared.fault.RunFault.{RunFault}

-- the reader gave all, which is at most `most_bytes` and the text of this board, which is small
-- enough
abbrev pub GaveBoardAmong : (PlainBoard → Type 0) → ℕ → Bytes → PlainBoard → Type 0
GaveBoardAmong IsSmall most_bytes read board =
    (text : List ℕ) × Gave most_bytes read text × IsBoardAmong IsSmall text board

-- the faults of a reader that gave no such board
abbrev pub GaveNoneAmong : (PlainBoard → Type 0) → ℕ → Bytes → RunFault → Type 0
GaveNoneAmong IsSmall most_bytes read fault =
    IsUnread most_bytes read fault
    ⊎ ((text : List ℕ) × Gave most_bytes read text × HasNoneAmong IsSmall text fault)

-- the same of boards within a limit
abbrev pub GaveBoard : BoardLimit → ℕ → Bytes → PlainBoard → Type 0
GaveBoard limit = GaveBoardAmong (IsWithinLimit limit)

abbrev pub GaveNoBoard : BoardLimit → ℕ → Bytes → RunFault → Type 0
GaveNoBoard limit = GaveNoneAmong (IsWithinLimit limit)

-- the readers of a board and of the text after it: their bytes, and that the second is as it was
pub record Readers : Type 1 where
  pub board : Bytes
  pub text : Bytes
  pub IsTextKept : Type 0

-- the readers, by what is known of each before and after
abbrev pub readers_of : {B T : Type 0} → (B → Option (List ℕ)) → B → B → (T → Option (List ℕ)) → T
    → T → Readers
readers_of of_board board board_after of_text text text_after = record {
  board = bytes_of of_board board board_after;
  text = bytes_of of_text text text_after;
  IsTextKept = text_after ≡ text;
}

-- the readers of which nothing but their bytes is known
abbrev pub readers_by : Bytes → Bytes → Readers
readers_by board text =
    record { board = board; text = text; IsTextKept = text.new ≡ text.old }

-- a board that is small enough was read, and this was done with it
abbrev pub RanOn : (PlainBoard → Type 0) → ℕ → Bytes → (PlainBoard → Type 0) → Type 0
RanOn IsSmall most_bytes read IsDone =
    (board : PlainBoard) × GaveBoardAmong IsSmall most_bytes read board × IsDone board

-- the faults of a run that reads a board first: there is no board, and the inputs after it are
-- untouched; or there is one, and the rest failed
abbrev pub FailsOn : (PlainBoard → Type 0) → ℕ → Bytes → Type 0 → (PlainBoard → RunFault → Type 0)
    → RunFault
    → Type 0
FailsOn IsSmall most_bytes read IsUntouched RestFails fault =
    (GaveNoneAmong IsSmall most_bytes read fault × IsUntouched)
    ⊎ ((board : PlainBoard) × GaveBoardAmong IsSmall most_bytes read board × RestFails board fault)
