-- A text has one summary of each kind.
use Rattle.std.proofs.Common.{◌≡◌, ◌∙◌, ℕ, List, subst, sym}
use Rattle.board_text.specs.PlainBoard.{PlainBoard}
use Rattle.board_text.proofs.Cited.{one_board}
use Rattle.command_line.specs.declared.asked.BoardLimit.{BoardLimit}
use Rattle.runs.specs.Summaries.{IsSummary, Summarizes}
use Rattle.runs.specs.declared.summaries.Summary.{Summary}
use Rattle.runs.specs.declared.summaries.Summary.TheVariants.{Report, Starts}
use Rattle.runs.proofs.OneOutcome.{one_report_of}
use Rattle.runs.proofs.StartTexts.{one_starts_of}

pub one_summary : (summary : Summary) (board : PlainBoard) (first second : List ℕ) → IsSummary summary board first
    → IsSummary summary board second → first ≡ second
one_summary Report board first second one other = one_report_of board first second one other
one_summary Starts board first second one other = one_starts_of board first second one other

-- whichever the limits are
pub one_summary_of_text : (summary : Summary) (text : List ℕ) (limit more : BoardLimit) (first second : List ℕ)
    → Summarizes summary limit text tt first → Summarizes summary more text tt second → first ≡ second
one_summary_of_text summary text limit more first second (board, is, says) (next, also, says_too) =
    one_summary summary board first second says
    (subst (λ b. IsSummary summary b second) (sym (one_board board next is.is_board also.is_board
    (sym is.spelled ∙ also.spelled))) says_too)
