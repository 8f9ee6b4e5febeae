-- The report of a board: how many of its configurations have each value.
use Rattle.std.specs.Prelude.{◌≡◌, ℕ, suc, List, [], ◌∷◌, ◌++◌, codes}
use Rattle.std.specs.Fmt.{decimal}
use Rattle.board_text.specs.LineForms.{with_line_feed}
use Rattle.board_text.specs.PlainBoard.{PlainBoard}
use Rattle.gap_values.specs.Sizes.{AreValueCounts}
use Rattle.positions.specs.declared.value.Value.{Value}
use Rattle.positions.specs.Ranks.{configurations}
use Rattle.positions.specs.Value.{HasValue}
use Rattle.proof_text.specs.ProofText.{claim_words}
use Rattle.positions.specs.Claim.{claim_of}
use Rattle.runs.specs.Texts.{IsBoardWithin}
use Rattle.command_line.specs.declared.asked.BoardLimit.{BoardLimit}

-- the value of the start, how many configurations have each
-- finite value from 0 on, and how many last forever
pub record Report : Type 0 where
  pub start : Value
  pub counts : List ℕ
  pub forever : ℕ

-- the value is that of the start, and the counts are those of all configurations
pub record IsReport (board : PlainBoard) (report : Report) : Type 0 where
  pub start : HasValue board board.start report.start
  pub counted : AreValueCounts board report.counts report.forever

-- the line of a word and a number
abbrev pub size_line : List ℕ → ℕ → List ℕ
size_line word number = with_line_feed (word ++ codes " " ++ decimal number)

-- the first lines, with the numbers of labels, pebbles and configurations of the board
abbrev pub head_lines : PlainBoard → List ℕ
head_lines board =
    with_line_feed (codes "report 1") ++ size_line (codes "labels") board.labels
    ++ size_line (codes "pebbles") board.pebbles
    ++ size_line (codes "configurations") (configurations board)

-- the line of the start's value
abbrev pub start_value_line : Value → List ℕ
start_value_line value = with_line_feed (codes "start " ++ claim_words (claim_of value))

-- the line of a value and the number of configurations that have it
abbrev pub count_line : ℕ → ℕ → List ℕ
count_line value count =
    with_line_feed (codes "value " ++ decimal value ++ codes ": " ++ decimal count)

-- the lines of the counts of a value and of the values after it
abbrev pub count_lines : ℕ → List ℕ → List ℕ
count_lines value [] = []
count_lines value (count ∷ counts) = count_line value count ++ count_lines (suc value) counts

-- the last lines
abbrev pub end_lines : ℕ → List ℕ
end_lines forever = with_line_feed (codes "forever: " ++ decimal forever)
    ++ with_line_feed (codes "end")

-- the text of a report
abbrev pub report_text_alone : PlainBoard → Report → List ℕ
report_text_alone board report =
    head_lines board ++ start_value_line report.start ++ count_lines 0 report.counts
    ++ end_lines report.forever

-- the text is the board's report
pub record IsReportOf (board : PlainBoard) (text : List ℕ) : Type 0 where
  pub report : Report
  pub is_report : IsReport board report
  pub text_is : text ≡ report_text_alone board report

-- ---- the report of a text

-- the text is that of a board within the limit, and the bytes written are its report
abbrev pub IsReportOfText : BoardLimit → List ℕ → List ℕ → Type 0
IsReportOfText limit text written = (board : PlainBoard) × IsBoardWithin limit text board
    × IsReportOf board written

-- the same, of a run, which answers nothing else
abbrev pub Reports : BoardLimit → List ℕ → Unit {0} → List ℕ → Type 0
Reports limit text answer written = IsReportOfText limit text written
