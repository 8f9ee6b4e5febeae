-- The weights of the pebbles, computed from the last pebble to the first.
use Rattle.std.proofs.Common.{◌≡◌, ℕ, suc, ◌+◌, ◌-◌, ◌*◌, ◌^◌, ◌<◌, ◌≤◌, List, length, get_or, set, sym, ap, ◌∙◌, inl}
use Rattle.std.proofs.Common.{inr, arith}
use Rattle.std.proofs.Math.Nat.{pow-suc, pow-le-pow_left, pow-le-pow_right}
use Rattle.std.proofs.lemmas.Bool.{cases_eq}
use Rattle.std.proofs.lemmas.List.{length-set, get_or-set_same, get_or-set_other}
use Rattle.board_text.specs.PlainBoard.{PlainBoard, IsBoard, places}
use Rattle.board_text.specs.declared.board.TheConstants.{MAX_LABELS, MAX_PEBBLES}
use Rattle.board_text.proofs.Cited.{few_places, some_places}
use Rattle.positions.specs.Ranks.{configurations}
use Rattle.positions.specs.Inside.Weights.{weight_of}
use Rattle.positions.specs.declared.space.TheConstants.{MAX_CONFIGURATIONS}

-- the weights from a pebble on are found, and the next one too
pub record IsWeighed (board : PlainBoard) (weights : List ℕ) (pebble next : ℕ) : Type 0 where
  pub six : length weights ≡ MAX_PEBBLES
  pub few : next ≤ MAX_CONFIGURATIONS
  pub power : next ≡ places board ^ (board.pebbles - pebble)
  pub weighs : (other : ℕ) → pebble ≤ other → other < board.pebbles → get_or weights other 0 ≡ weight_of board other

next_power : (board : PlainBoard) (pebble next : ℕ) → pebble < board.pebbles
    → next ≡ places board ^ (board.pebbles - (pebble + 1))
    → next * places board ≡ places board ^ (board.pebbles - pebble)
next_power board pebble next inside power =
    let one_more : suc (board.pebbles - (pebble + 1)) ≡ board.pebbles - pebble = omega arith in
    ap (λ n. n * places board) power ∙ sym (pow-suc (places board) (board.pebbles - (pebble + 1)))
    ∙ ap (λ n. places board ^ n) one_more

-- each power is one of a board with few configurations
pub weighed_more : (board : PlainBoard) (weights : List ℕ) (pebble next : ℕ) → IsBoard board
    → configurations board ≤ MAX_CONFIGURATIONS → pebble < board.pebbles
    → IsWeighed board weights (pebble + 1) next → IsWeighed board (set weights pebble next) pebble (next * places board)
weighed_more board weights pebble next is few inside weighed =
    let six : length weights ≡ MAX_PEBBLES = weighed.six in
    let within : pebble < length weights = omega (arith, is.pebbles.1) in
    let left : board.pebbles - (pebble + 1) ≡ board.pebbles - 1 - pebble = omega arith in
    let power = next_power board pebble next inside weighed.power in
    let most : places board ^ (board.pebbles - pebble) ≤ configurations board =
    pow-le-pow_right (some_places board is) (omega arith) in
    record {
      six = length-set weights pebble next ∙ six;
      few = omega arith;
      power = power;
      weighs = λ other from below. elim (cases_eq other pebble) [
        | inl same ↦ ap (λ n. get_or (set weights pebble next) n 0) same ∙ get_or-set_same weights pebble next 0 within
            ∙ weighed.power
            ∙ ap (λ n. places board ^ n) left ∙ ap (weight_of board) (sym same)
        | inr differ ↦ get_or-set_other weights pebble other next 0 differ ∙ weighed.weighs other (omega arith) below
      ];
    }

-- the number of configurations of any board has eight bytes
pub fits_power : (board : PlainBoard) → IsBoard board → configurations board < 2 ^ 64
fits_power board is =
    let base : places board ^ board.pebbles ≤ (MAX_LABELS + 1) ^ board.pebbles =
    pow-le-pow_left (few_places board is) board.pebbles in
    let top : (MAX_LABELS + 1) ^ board.pebbles ≤ (MAX_LABELS + 1) ^ MAX_PEBBLES =
    pow-le-pow_right (omega arith) is.pebbles.1 in
    omega arith
