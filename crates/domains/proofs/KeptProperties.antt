-- A property that some answer keeps lasts for ever, and a rank that a request lowers bounds the value.
use Rattle.std.proofs.Common.{ℕ, zero, suc, ◌<◌, List, arith}
use Rattle.board_text.specs.PlainBoard.{PlainBoard}
use Rattle.positions.specs.Game.{AdversaryTree, LabellerTree, moved}
use Rattle.positions.specs.Value.{HasValueAtMost}
use Rattle.positions.proofs.Cited.{at_most_from_tree}
use Rattle.domains.specs.Kept.{IsKept, IsLowered}

pub kept_lasts : (Good : List ℕ → Type 0) (board : PlainBoard)
    → IsKept Good board
    → (c : List ℕ) → Good c → (depth : ℕ) → LabellerTree board depth c
kept_lasts Good board kept c good zero = tt
kept_lasts Good board kept c good (suc depth) =
    λ pebble below.
    let answer = kept c good pebble below in
    (answer.0, answer.1, kept_lasts Good board kept (moved c pebble answer.0) answer.2 depth)

lowered_ends : (Good : List ℕ → Type 0) (rank : List ℕ → ℕ) (board : PlainBoard) → IsLowered Good rank board
    → (depth : ℕ) (c : List ℕ) → Good c → rank c < depth → AdversaryTree board depth c
lowered_ends Good rank board lowered zero c good below = absurd (omega (arith, below))
lowered_ends Good rank board lowered (suc depth) c good below =
    let asked = lowered c good in (
      asked.0,
      asked.1,
      λ label legal.
          let then = asked.2 label legal in
          lowered_ends Good rank board lowered depth (moved c asked.0 label) then.0 (omega (arith, then.1, below)),
    )

pub lowered_at_most : (Good : List ℕ → Type 0) (rank : List ℕ → ℕ) (board : PlainBoard)
    → IsLowered Good rank board
    → (c : List ℕ) → Good c → HasValueAtMost board c (rank c)
lowered_at_most Good rank board lowered c good =
    at_most_from_tree board (rank c) c (lowered_ends Good rank board lowered (suc (rank c)) c good (omega arith))
