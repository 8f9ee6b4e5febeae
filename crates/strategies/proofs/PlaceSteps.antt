-- The rank of a configuration in which one place changes.
use Rattle.std.proofs.Common.{◌≡◌, ℕ, zero, suc, ◌+◌, ◌-◌, ◌*◌, ◌^◌, ◌<◌, ◌≤◌, List, [], ◌∷◌, length}
use Rattle.std.proofs.Common.{get_or, set, inl, inr, sym, ap, ◌∙◌, subst, arith}
use Rattle.std.proofs.Math.Nat.{pow-le-pow_right}
use Rattle.std.proofs.lemmas.Bool.{cases_eq}
use Rattle.std.proofs.lemmas.List.{get_or-set_other, get_or-set_same, length-set}
use Rattle.std.proofs.lemmas.List.Elements.{All-set}
use Rattle.board_text.specs.PlainBoard.{PlainBoard, IsBoard, IsConfiguration, places}
use Rattle.board_text.specs.declared.board.TheConstants.{MAX_PEBBLES}
use Rattle.board_text.proofs.Cited.{some_places}
use Rattle.positions.specs.Game.{moved}
use Rattle.positions.specs.Ranks.{configurations, configuration_at, number_of, rank_of}
use Rattle.positions.specs.declared.space.TheConstants.{MAX_CONFIGURATIONS}
use Rattle.positions.proofs.Cited.{configuration_at_is, rank_below, rank_of-configuration_at}

-- a place counts as many steps as it is high
number-set : (base : ℕ) (list : List ℕ) (index place : ℕ) → index < length list
    → number_of base (set list index place) + get_or list index 0 * base ^ (length list - 1 - index)
    ≡ number_of base list + place * base ^ (length list - 1 - index)
number-set base [] index place inside = absurd (omega (arith, inside))
number-set base (first ∷ others) zero place inside =
    let size : length (first ∷ others) - 1 - 0 ≡ length others = omega arith in
    let old : first * base ^ (length (first ∷ others) - 1 - 0) ≡ first * base ^ length others =
    ap (λ n. first * base ^ n) size in
    let new : place * base ^ (length (first ∷ others) - 1 - 0) ≡ place * base ^ length others =
    ap (λ n. place * base ^ n) size in
    omega (arith, old, new)
number-set base (first ∷ others) (suc index) place inside =
    let rest = number-set base others index place (omega (arith, inside)) in
    let size : length (first ∷ others) - 1 - suc index ≡ length others - 1 - index = omega arith in
    let high : first * base ^ length (set others index place) ≡ first * base ^ length others =
    ap (λ n. first * base ^ n) (length-set others index place) in
    let old : get_or others index 0 * base ^ (length (first ∷ others) - 1 - suc index)
    ≡ get_or others index 0 * base ^ (length others - 1 - index) =
    ap (λ n. get_or others index 0 * base ^ n) size in
    let new : place * base ^ (length (first ∷ others) - 1 - suc index) ≡ place * base ^ (length others - 1 - index) =
    ap (λ n. place * base ^ n) size in
    omega (arith, rest, high, old, new)

-- the rank after a pebble is put on a label, by the steps of its place
pub record IsStepped (board : PlainBoard) (rank pebble label place step : ℕ) : Type 0 where
  pub least : place * step ≤ rank
  pub same : rank - place * step + label * step ≡ rank_of board (moved (configuration_at board rank) pebble label)
  pub below : rank - place * step + label * step < configurations board

pub stepped : (board : PlainBoard) (rank pebble label place step : ℕ)
    → rank < configurations board → pebble < board.pebbles → label < places board
    → place ≡ get_or (configuration_at board rank) pebble 0
    → step ≡ places board ^ (board.pebbles - 1 - pebble)
    → IsStepped board rank pebble label place step
stepped board rank pebble label place step below inside low place_is step_is =
    let held : List ℕ = configuration_at board rank in
    let is : IsConfiguration board held = configuration_at_is board rank below in
    let size : length held ≡ board.pebbles = is.each_pebble in
    let here : rank_of board held ≡ rank = rank_of-configuration_at board rank below in
    let in_list : pebble < length held = omega (arith, inside, size) in
    let power : step ≡ places board ^ (length held - 1 - pebble) =
    step_is ∙ ap (λ n. places board ^ (n - 1 - pebble)) (sym size) in
    let old : place * step ≡ get_or held pebble 0 * places board ^ (length held - 1 - pebble) =
    ap (λ n. n * step) place_is ∙ ap (λ n. get_or held pebble 0 * n) power in
    let new : label * step ≡ label * places board ^ (length held - 1 - pebble) = ap (λ n. label * n) power in
    let changed = number-set (places board) held pebble label in_list in
    let emptied = number-set (places board) held pebble 0 in_list in
    let none : 0 * places board ^ (length held - 1 - pebble) ≡ 0 = omega arith in
    let least : place * step ≤ rank = omega (arith, old, emptied, none, here) in
    let same : rank - place * step + label * step ≡ rank_of board (moved held pebble label) =
    omega (arith, old, new, changed, here, least) in
    record {
      least = least;
      same = same;
      below = subst (λ n. n < configurations board) (sym same)
          (rank_below board (moved held pebble label) (record {
            each_pebble = length-set held pebble label ∙ size;
            each_place = All-set (λ p. p < places board) held pebble label low is.each_place;
          }));
    }

-- ---- the steps of all pebbles, one after the other

-- those of the pebbles below a bound
pub record AreStepsBelow (board : PlainBoard) (bound : ℕ) (steps : List ℕ) : Type 0 where
  pub room : length steps ≡ MAX_PEBBLES
  pub each : (pebble : ℕ) → pebble < bound → get_or steps pebble 0 ≡ places board ^ (board.pebbles - 1 - pebble)

pub steps-begin : (board : PlainBoard) (steps : List ℕ) → length steps ≡ 6 → AreStepsBelow board 0 steps
steps-begin board steps room = record { room = room; each = λ pebble low. absurd (omega (arith, low)) }

pub steps-more : (board : PlainBoard) (bound step : ℕ) (steps : List ℕ) → bound < 6 → AreStepsBelow board bound steps
    → step ≡ places board ^ (board.pebbles - 1 - bound) → AreStepsBelow board (bound + 1) (set steps bound step)
steps-more board bound step steps few are is =
    let room : length steps ≡ 6 = are.room in
    record {
      room = length-set steps bound step ∙ room;
      each = λ other low. elim (cases_eq other bound) [
        | inl same ↦
            ap (λ n. get_or (set steps bound step) n 0) same
            ∙ get_or-set_same steps bound step 0 (omega (arith, room, few))
            ∙ is ∙ ap (λ n. places board ^ (board.pebbles - 1 - n)) (sym same)
        | inr differ ↦
            get_or-set_other steps bound other step 0 differ ∙ are.each other (omega (arith, low, differ))
      ];
    }

-- a step is less than the number of configurations
pub step-below : (board : PlainBoard) (pebble : ℕ) → IsBoard board → configurations board ≤ MAX_CONFIGURATIONS
    → places board ^ (board.pebbles - 1 - pebble) < 2 ^ 32
step-below board pebble is few =
    let most : places board ^ (board.pebbles - 1 - pebble) ≤ configurations board =
    pow-le-pow_right (some_places board is) (omega arith) in
    omega (arith, most, few)
