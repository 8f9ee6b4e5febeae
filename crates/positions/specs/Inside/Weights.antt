-- The numbers that a space keeps of its board to turn ranks and gaps.
use Rattle.std.specs.Prelude.{◌≡◌, ℕ, ◌+◌, ◌-◌, ◌/◌, ◌^◌, ◌<◌, ◌≤◌, ◌↔◌, List, true, slice_index}
use Rattle.board_text.specs.PlainBoard.{PlainBoard, IsBoard, places}
use Rattle.board_text.specs.Domination.{has_bit}
use Rattle.board_text.specs.declared.board.TheConstants.{MAX_LABELS}
use Rattle.positions.specs.Ranks.{configurations}
use Rattle.positions.specs.declared.space.TheConstants.{MAX_CONFIGURATIONS}

-- the difference in rank that one step of a pebble's place makes
abbrev pub weight_of : PlainBoard → ℕ → ℕ
weight_of board pebble = places board ^ (board.pebbles - 1 - pebble)

-- the numbers of a board with few configurations,
-- a weight for each pebble, and a bit for each label
pub record AreNumbersOf (board : PlainBoard) (labels pebbles base size : ℕ)
    (weights words : List ℕ) : Type 0 where
  pub is_board : IsBoard board
  pub few : configurations board ≤ MAX_CONFIGURATIONS
  pub labels_is : labels ≡ board.labels
  pub pebbles_is : pebbles ≡ board.pebbles
  pub base_is : base ≡ places board
  pub base_few : base ≤ MAX_LABELS + 1
  pub size_is : size ≡ configurations board
  pub weighs : (pebble : ℕ) → pebble < board.pebbles
      → slice_index weights pebble ≡ weight_of board pebble
  pub each_label : (label : ℕ) → label < MAX_LABELS
      → (has_bit words label ≡ true) ↔ (label < board.labels)

-- a divisor with the factor whose product with a number, divided by 2^43, is the quotient
pub record IsDivisor (by factor : ℕ) : Type 0 where
  pub some : 0 < by
  pub few : by ≤ MAX_CONFIGURATIONS
  pub factor_is : factor ≡ 2 ^ 43 / by + 1
