-- The rounds of a board, with sets of one word for few labels.
use Rattle.std.specs.Prelude.{ℕ, ◌≤◌, List}
use Rattle.board_text.specs.PlainBoard.{PlainBoard, IsBoard}
use Rattle.gap_values.specs.Inside.Sets.{AreGapRounds}
use Rattle.gap_values.specs.Inside.Words.{AreRounds}
use Rattle.gap_values.specs.declared.values.Rounds.{Rounds}
use Rattle.gap_values.specs.declared.values.Rounds.TheVariants.{Few, Many}
use Rattle.gap_values.specs.declared.values.TheConstants.{FEW_LABELS}

-- the words of the rounds
abbrev pub round_words : Rounds → List ℕ
round_words (Few rounds) = rounds.words.items
round_words (Many rounds) = rounds.words.items

-- the rounds are those of the board, in sets that hold its labels
abbrev pub HoldLabels : PlainBoard → Rounds → Type 0
HoldLabels board (Few rounds) = (board.labels ≤ FEW_LABELS) × AreGapRounds board rounds
HoldLabels board (Many rounds) = AreGapRounds board rounds

-- the words are those of the board, and so are the rounds
pub record AreRoundsOf (board : PlainBoard) (rounds : Rounds) : Type 0 where
  pub is_board : IsBoard board
  pub words : AreRounds board (round_words rounds)
  pub sets : HoldLabels board rounds
