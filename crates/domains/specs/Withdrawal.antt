-- Processes that give up their labels.
use Rattle.std.specs.Prelude.{◌≡◌, ℕ, zero, suc, ◌<◌, ◌≤◌, ◌⊎◌, List, length, slice_index}
use Rattle.board_text.specs.PlainBoard.{PlainBoard}
use Rattle.positions.specs.Game.{Legal, moved}

-- each pebble holds what it held, or no label
pub record IsFreed (board : PlainBoard) (held freed : List ℕ) : Type 0 where
  pub same_length : length freed ≡ length held
  pub each : (pebble : ℕ) → (slice_index freed pebble ≡ slice_index held pebble)
      ⊎ (board.labels ≤ slice_index freed pebble)

-- a labeller's tree in which the adversary may take any labels away before each request
abbrev pub WithdrawalTree : PlainBoard → ℕ → List ℕ → Type 0
WithdrawalTree board zero configuration = Unit {0}
WithdrawalTree board (suc depth) configuration =
    (freed : List ℕ) → IsFreed board configuration freed → (pebble : ℕ) → pebble < board.pebbles
    → (label : ℕ) × Legal board freed pebble label
    × WithdrawalTree board depth (moved freed pebble label)
