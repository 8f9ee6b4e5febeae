-- Orders end: a label is higher than those that it beats.
use Rattle.std.proofs.Common.{◌≡◌, ◌≢◌, ℕ, zero, suc, ◌+◌, ◌<◌, ◌≤◌, List, length, get_or, set, replicate, sym}
use Rattle.std.proofs.Common.{◌∙◌, subst, arith, inl, inr}
use Rattle.std.specs.Prelude.{All}
use Rattle.std.proofs.lemmas.List.{get_or-set_same, get_or-replicate, length-set, length-replicate}
use Rattle.std.proofs.lemmas.List.Elements.{All-set, All-get_or, All-replicate}
use Rattle.board_text.specs.PlainBoard.{PlainBoard}
use Rattle.positions.specs.Game.{LabellerTree, moved}
use Rattle.positions.specs.Value.{HasValue, HasValueAtMost}
use Rattle.positions.specs.declared.value.Value.TheVariants.{Finite, Forever}
use Rattle.positions.proofs.Cited.{at_most_from_tree, not_both_trees, some_tree}
use Rattle.domains.specs.Orders.{HasHeights, IsChain}

-- a pebble other than this one, if there are two or more
pub another : (count pebble : ℕ) → 2 ≤ count → (other : ℕ) × (other < count) × (pebble ≢ other)
another count zero two = (1, omega (arith, two), λ one. omega (arith, one))
another count (suc pebble) two = (0, omega (arith, two), λ one. omega (arith, one))

pub orders_end : (board : PlainBoard) (height : ℕ → ℕ) (count depth : ℕ) (configuration : List ℕ) (pebble : ℕ)
    → HasHeights board height count
    → 2 ≤ board.pebbles → length configuration ≡ board.pebbles → pebble < board.pebbles
    → get_or configuration pebble 0 < board.labels
    → LabellerTree board depth configuration → depth + height (get_or configuration pebble 0) < count
orders_end board height count zero configuration pebble heights two long below held tree = omega
    (arith, heights.low (get_or configuration pebble 0) held)
orders_end board height count (suc depth) configuration pebble heights two long below held tree =
    let other = another board.pebbles pebble two in
    let answer = tree other.0 other.1 in
    let higher = heights.higher answer.0 (get_or configuration pebble 0) answer.1.is_label held
    (answer.1.dominates pebble below other.2 held) in
    let same : get_or (set configuration other.0 answer.0) other.0 0 ≡ answer.0 = get_or-set_same configuration
    other.0 answer.0 0 (omega (arith, long, other.1)) in
    let rest = orders_end board height count depth (moved configuration other.0 answer.0) other.0 heights two
    (length-set configuration other.0 answer.0 ∙ long) other.1
    (subst (λ n. n < board.labels) (sym same) answer.1.is_label) answer.2 in
    let there = subst (λ n. depth + height n < count) same rest in
    omega (arith, there, higher)

pub orders_have_at_most : (board : PlainBoard) (height : ℕ → ℕ) (count : ℕ) (configuration : List ℕ)
    → HasHeights board height count → 2 ≤ board.pebbles → length configuration ≡ board.pebbles
    → HasValueAtMost board configuration count
orders_have_at_most board height count configuration heights two long =
    elim (some_tree board (suc count) configuration) [
      | inr tree ↦ at_most_from_tree board count configuration tree
      | inl tree ↦
          let answer = tree 0 (omega (arith, two)) in
          let there : get_or (set configuration 0 answer.0) 0 0 ≡ answer.0
          = get_or-set_same configuration 0 answer.0 0 (omega (arith, long, two)) in
          let bound = orders_end board height count count (moved configuration 0 answer.0) 0 heights two
          (length-set configuration 0 answer.0 ∙ long) (omega (arith, two))
          (subst (λ n. n < board.labels) (sym there) answer.1.is_label) answer.2 in
          let no : ⊥ = omega (arith, bound) in absurd no
    ]

pub orders_do_not_last : (board : PlainBoard) (height : ℕ → ℕ) (count : ℕ) (configuration : List ℕ)
    → HasHeights board height count → 2 ≤ board.pebbles → length configuration ≡ board.pebbles
    → HasValue board configuration Forever → ⊥
orders_do_not_last board height count configuration heights two long lasts =
    let bound = orders_have_at_most board height count configuration heights two long in
    not_both_trees board (suc bound.0) configuration (lasts (suc bound.0)) bound.2.1

-- ---- chains

-- while some label is above all others, a labeller climbs to it
climbs : (board : PlainBoard) (depth most : ℕ) (configuration : List ℕ) → IsChain board
    → length configuration ≡ board.pebbles
    → All (λ label. label ≤ most) configuration → depth + most < board.labels → LabellerTree board depth configuration
climbs board zero most configuration chain long below room = tt
climbs board (suc depth) most configuration chain long below room =
    λ pebble pebble_below. (
      suc most,
      record {
        is_label = omega (arith, room);
        dominates = λ other other_below differs low. chain.below (suc most) (get_or configuration other 0)
            (omega (arith, room))
            (omega (
              arith,
              All-get_or (λ label. label ≤ most) configuration other 0
                  (omega (arith, long, other_below)) below,
            ));
      },
      climbs board depth (suc most) (moved configuration pebble (suc most)) chain
          (length-set configuration pebble (suc most) ∙ long)
          (All-set (λ label. label ≤ suc most) configuration pebble (suc most) (omega arith)
          (λ place d inside. omega (arith, below place d inside)))
          (omega (arith, room)),
    )

pub chain_has : (board : PlainBoard) (more : ℕ) → IsChain board → board.labels ≡ suc more → 2 ≤ board.pebbles
    → HasValue board (replicate board.pebbles 0) (Finite more)
chain_has board more chain labels two =
    let configuration : List ℕ = replicate board.pebbles 0 in
    let long : length configuration ≡ board.pebbles = length-replicate {A = ℕ} board.pebbles 0 in
    let held : get_or configuration 0 0 ≡ 0 = get_or-replicate board.pebbles 0 0 0 (omega (arith, two)) in (
      climbs board more 0 configuration chain long (All-replicate (λ label. label ≤ 0) board.pebbles 0 (omega arith))
          (omega (arith, labels)),
      elim (some_tree board (suc more) configuration) [
        | inr tree ↦ tree
        | inl tree ↦
            let bound = orders_end board (λ label. label) board.labels (suc more) configuration 0
            (record { low = λ label low. low; higher = λ x y x_low y_low beats. chain.only x y beats }) two long
            (omega (arith, two))
            (subst (λ n. n < board.labels) (sym held) (omega (arith, labels))) tree in
            let no : ⊥ = omega (arith, bound, labels) in absurd no
      ],
    )
