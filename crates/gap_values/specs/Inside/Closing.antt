-- What gaps are closed by in a round, and a part of them before and after it.
use Rattle.std.specs.Prelude.{◌≡◌, ◌↔◌, ◌+◌, ◌-◌, ◌*◌, ◌<◌, ◌≤◌, ℕ, Bool, true, IsTrue}
use Rattle.std.specs.Prelude.{List, length}
use Rattle.board_text.specs.Domination.{has_bit}
use Rattle.board_text.specs.PlainBoard.{PlainBoard, IsBoard, places}
use Rattle.board_text.specs.declared.board.TheConstants.{MAX_LABELS}
use Rattle.board_text.specs.declared.domination.TheConstants.{ROW_WORDS}
use Rattle.classes.specs.Numbers.{ways}
use Rattle.gap_values.specs.Inside.Sets.{AreSets, AreFresh, ArePassed, AreTablesOf}
use Rattle.gap_values.specs.Inside.Sets.{HasRound, IsOfRound}
use Rattle.gap_values.specs.declared.closing.Closing.{Closing}
use Rattle.gap_values.specs.declared.closing.TheConstants.{OPEN}

-- no more words than a row has, of which a set has bits for all labels, a board of two pebbles or
-- more, the numbers of its gaps, the sets of its lists, and a round
pub record CanClose (WORDS : ℕ) (board numbers : PlainBoard) (sets : List (List ℕ)) (round : ℕ)
    : Type 0 where
  pub narrow : WORDS ≤ ROW_WORDS
  pub fits : board.labels ≤ 64 * WORDS
  pub same_board : numbers ≡ board
  pub some : 2 ≤ board.pebbles
  pub each_list : AreSets board sets
  pub is_round : round < OPEN

-- these, and all labels of the board
pub record IsClosing {WORDS : ℕ} (closing : Closing WORDS) : Type 0 where
  pub can : CanClose WORDS closing.board.now closing.numbers.now closing.sets.now closing.round
  pub is_board : IsBoard closing.board.now
  pub labels : (x : ℕ) → x < MAX_LABELS
      → (has_bit closing.labels x ≡ true) ↔ (x < closing.board.now.labels)

-- the words of gaps of the board from the gap `first` on, none of which is the round yet, and
-- tables of sets, which are to be told of those that close
pub record MayClose (board : PlainBoard) (round first tables : ℕ) (words : List ℕ)
    (told : List (List ℕ)) : Type 0 where
  pub gaps : first + length words ≤ ways (board.pebbles - 1) (places board)
  pub fresh : AreFresh round words
  pub many : length told ≡ tables * ways (board.pebbles - 2) (places board)

-- the words of such gaps before and after all open ones that are shut closed in the round: the
-- tables tell of these alone, and the answer is whether there are any
pub record IsPartClosed (board : PlainBoard) (sets : List (List ℕ)) (round first tables : ℕ)
    (old new : List ℕ) (told : List (List ℕ)) (answer : Bool) : Type 0 where
  pub passed : ArePassed board sets round first 0 (length old) old new
  pub tell : AreTablesOf board tables (IsOfRound round first new) told
  pub some : IsTrue answer ↔ HasRound round new
