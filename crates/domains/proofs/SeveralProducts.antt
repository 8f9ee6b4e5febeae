-- Products of a list of domains.
use Rattle.std.proofs.Common.{◌≡◌, ℕ, zero, suc, ◌+◌, ◌*◌, ◌<◌, List, [], ◌∷◌, replicate, subst, arith}
use Rattle.std.specs.Prelude.{All}
use Rattle.std.proofs.lemmas.List.Elements.{All-head, All-tail}
use Rattle.board_text.specs.PlainBoard.{PlainBoard}
use Rattle.positions.specs.Game.{LabellerTree, moved}
use Rattle.domains.specs.Products.{IsProductOf}
use Rattle.domains.proofs.LastingProducts.{factors_last}

-- one pebble is answered with the only label
pub lone_lasts : (board : PlainBoard) (depth : ℕ) (configuration : List ℕ) → board.labels ≡ 1 → board.pebbles ≡ 1
    → LabellerTree board depth configuration
lone_lasts board zero configuration labels pebbles = tt
lone_lasts board (suc depth) configuration labels pebbles =
    λ pebble below. (
      0,
      record {
        is_label = omega (arith, labels);
        dominates = λ other other_below differs low. absurd (differs (omega (arith, below, other_below, pebbles)));
      },
      lone_lasts board depth (moved configuration pebble 0) labels pebbles,
    )

-- a factor lasts this number of requests from all pebbles on the label 0
abbrev pub LastsFromZero : ℕ → PlainBoard → Type 0
LastsFromZero depth factor = (0 < factor.pebbles) × LabellerTree factor depth (replicate factor.pebbles 0)

pub several_last : (factors : List PlainBoard) (board : PlainBoard) (depth : ℕ) → IsProductOf factors board
    → All (LastsFromZero depth) factors → LabellerTree board depth (replicate board.pebbles 0)
several_last factors board zero is all = tt
several_last [] board (suc depth) is all = lone_lasts board (suc depth) (replicate board.pebbles 0) is.0 is.1
several_last (factor ∷ factors) board (suc depth) is all =
    let here = All-head (LastsFromZero (suc depth)) factor factors all in
    let rest = All-tail (LastsFromZero (suc depth)) factor factors all in
    let first = here.1 0 here.0 in
    let zero_is : 0 * is.0.labels + 0 ≡ 0 = omega arith in
    subst (λ (n : ℕ). LabellerTree board (suc depth) (replicate board.pebbles n)) zero_is
    (factors_last factor is.0 board (suc depth) 0 0 is.2 is.3
    (omega (arith, first.1.is_label)) is.2.some here.1 (several_last factors is.0 (suc depth) is.1 rest))
