-- The words and the sizes of values by ranks.
use Rattle.std.specs.Prelude.{◌≡◌, ℕ, ◌<◌, ◌≤◌, ◌==◌, List, length, slice_index}
use Rattle.board_text.specs.PlainBoard.{PlainBoard, IsBoard}
use Rattle.graphs.specs.Graph.{count_below}
use Rattle.graphs.specs.Numbered.{Ordered, numbered}
use Rattle.positions.specs.declared.value.Value.TheVariants.{Finite, Forever}
use Rattle.positions.specs.Laws.{Occurs}
use Rattle.solver.specs.Sizes.{HasCount}
use Rattle.solver.specs.Words.{AreValueWords}
use Rattle.gap_values.specs.declared.closing.TheConstants.{OPEN}

-- each size is the number of the first words that are its value
abbrev pub AreWordCounts : List ℕ → ℕ → List ℕ → Type 0
AreWordCounts words count sizes = (v : ℕ) → v < length sizes
    → slice_index sizes v ≡ count_below count (λ x. slice_index words x == v)

-- all numbers are 0
abbrev pub AreZeros : List ℕ → Type 0
AreZeros numbers = (k : ℕ) → k < length numbers → slice_index numbers k ≡ 0

-- how many configurations have each finite value that there is, and how many have Forever
pub record AreSizes (board : PlainBoard) (sizes : List ℕ) (forever : ℕ) : Type 0 where
  pub few : length sizes ≤ OPEN
  pub finite : (v : ℕ) → v < length sizes → HasCount board (Finite v) (slice_index sizes v)
  pub beyond : (v : ℕ) → length sizes ≤ v → Occurs board v → ⊥
  pub unending : HasCount board Forever forever

-- each rank has its word, and each value its size
pub record AreRankValues (board : PlainBoard) (words sizes : List ℕ) (forever : ℕ) : Type 0 where
  pub is_board : IsBoard board
  pub valued : AreValueWords (numbered board Ordered) words
  pub sized : AreSizes board sizes forever
