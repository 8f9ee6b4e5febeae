-- Summaries of the text of a board: its report, or its starts.
use Rattle.std.specs.Prelude.{ℕ, List}
use Rattle.board_text.specs.PlainBoard.{PlainBoard}
use Rattle.command_line.specs.declared.asked.BoardLimit.{BoardLimit}
use Rattle.runs.specs.Report.{IsReportOf}
use Rattle.runs.specs.StartText.{AreStartsOf}
use Rattle.runs.specs.Texts.{IsBoardWithin}
use Rattle.runs.specs.declared.summaries.Summary.{Summary}
use Rattle.runs.specs.declared.summaries.Summary.TheVariants.{Report, Starts}

-- the text is that of this summary of the board
abbrev pub IsSummary : Summary → PlainBoard → List ℕ → Type 0
IsSummary Report board written = IsReportOf board written
IsSummary Starts board written = AreStartsOf board written

-- the text is that of a board within the limit, and the bytes written are this summary of it; a run
-- answers nothing else
abbrev pub Summarizes : Summary → BoardLimit → List ℕ → Unit {0} → List ℕ → Type 0
Summarizes summary limit text answer written = (board : PlainBoard)
    × IsBoardWithin limit text board × IsSummary summary board written
