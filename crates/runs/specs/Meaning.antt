-- The meaning of an accepted document for the start of its board.
use Rattle.std.specs.Prelude.{◌≡◌, ℕ, ◌≤◌, List, ◌++◌, codes}
use Rattle.std.specs.Fmt.{decimal}
use Rattle.board_text.specs.LineForms.{with_line_feed}
use Rattle.board_text.specs.PlainBoard.{PlainBoard, IsBoard}
use Rattle.board_text.specs.BoardText.{board_text}
use Rattle.positions.specs.Game.{LabellerTree}
use Rattle.positions.specs.Table.{AnswerRow, Answers}
use Rattle.proof_text.specs.declared.proof.TheConstants.{MAX_TURNS}
use Rattle.runs.specs.Texts.{BeginsAs}
use Rattle.runs.specs.Verdicts.{IsAnswered}
use Rattle.runs.specs.declared.verdicts.DocumentVersion.TheVariants.{ByConfigurations}
use Rattle.runs.specs.declared.verdicts.Verdict.{Verdict}

-- the text was answered with the line `accepted least k`, k being a number that documents have
abbrev pub AcceptsLeast : List ℕ → ℕ → Type 0
AcceptsLeast text number =
    (number ≤ MAX_TURNS) × (verdict : Verdict)
    × IsAnswered text verdict (with_line_feed (codes "accepted least " ++ decimal number))

-- the text begins with a board's; the labeller has a tree of this depth for its start, and if the
-- rest is by configurations, a table answers this number of requests, whichever they are
pub record CanAnswer (text : List ℕ) (number : ℕ) : Type 0 where
  pub board : PlainBoard
  pub rest : List ℕ
  pub is_board : IsBoard board
  pub text_is : text ≡ board_text board ++ rest
  pub tree : LabellerTree board number board.start
  pub answers : BeginsAs ByConfigurations rest
      → (table : List AnswerRow) × Answers board table number board.start
