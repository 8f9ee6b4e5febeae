-- Each list with a place for each pebble has a value, even if the board's start has no such places.
use Rattle.std.proofs.Common.{◌≡◌, ℕ, ◌+◌, ◌<◌, ◌≤◌, ◌⊎◌, List, length, get_or, map, refl, sym, ◌∙◌, subst}
use Rattle.std.proofs.Common.{arith, inl, inr}
use Rattle.std.proofs.lemmas.Bool.{cases_lt}
use Rattle.std.proofs.lemmas.List.{get_or-map, length-map}
use Rattle.board_text.specs.PlainBoard.{PlainBoard, plain_board, IsConfiguration}
use Rattle.board_text.proofs.Cited.{start_from_numbers}
use Rattle.positions.specs.Value.{HasValue}
use Rattle.positions.specs.declared.value.Value.{Value}
use Rattle.positions.proofs.Cited.{some_value}
use Rattle.domains.specs.ValueOrder.{IsWorthAtMost}
use Rattle.domains.proofs.Choices.{one_or, of_one_or}
use Rattle.domains.proofs.Following.{itself, led_lasts}
use Rattle.domains.proofs.ComparedValues.{LastsAsLong, trees_from_at_most, value_goes_over}

-- the place if it is a label, and else the number of labels
capped : PlainBoard → ℕ → ℕ
capped board place = one_or (cases_lt place board.labels) place board.labels

capped_low : (board : PlainBoard) (place : ℕ) → capped board place < board.labels + 1
unfolding capped
capped_low board place =
    of_one_or (λ n. n < board.labels + 1) (cases_lt place board.labels) place board.labels
    (λ low. omega (arith, low)) (λ _. omega arith)

capped_is : (board : PlainBoard) (place : ℕ)
    → ((place < board.labels) × (capped board place ≡ place))
    ⊎ ((board.labels ≤ place) × (board.labels ≤ capped board place))
unfolding capped
capped_is board place =
    of_one_or (λ n. ((place < board.labels) × (n ≡ place)) ⊎ ((board.labels ≤ place) × (board.labels ≤ n)))
    (cases_lt place board.labels) place board.labels (λ low. inl (low, refl)) (λ high. inr (high, omega arith))

-- the board with this start
starting : PlainBoard → List ℕ → PlainBoard
starting board configuration = plain_board board.labels board.pebbles (map (capped board) configuration) board.pairs

module _ (board : PlainBoard) (configuration : List ℕ) (long : length configuration ≡ board.pebbles) where
  at_place : (pebble : ℕ) → pebble < board.pebbles
      → get_or (map (capped board) configuration) pebble 0 ≡ capped board (get_or configuration pebble 0)
  at_place pebble below = get_or-map (capped board) configuration pebble 0 0 (omega (arith, long, below))

  starts : IsConfiguration (starting board configuration) (map (capped board) configuration)
  unfolding starting
  starts = start_from_numbers (starting board configuration) (
    length-map configuration (capped board) ∙ long,
    λ place d inside.
        subst (λ n. n < board.labels + 1)
        (sym (get_or-map (capped board) configuration place d d
        (omega (arith, length-map configuration (capped board), inside))))
        (capped_low board (get_or configuration place d)),
  )

  to_start : LastsAsLong board configuration (starting board configuration) (map (capped board) configuration)
  unfolding starting
  to_start depth = led_lasts (starting board configuration) board (λ label. label) (λ pebble. pebble)
      (itself (starting board configuration) board refl refl refl) depth configuration
      (map (capped board) configuration)
      (record {
        long = long;
        led_long = length-map configuration (capped board) ∙ long;
        each = λ pebble below. elim (capped_is board (get_or configuration pebble 0)) [
          | inl held ↦ inl (held.0, at_place pebble below ∙ held.1)
          | inr none ↦ inr (subst (λ n. board.labels ≤ n) (sym (at_place pebble below)) none.1)
        ];
      })

  from_start : LastsAsLong (starting board configuration) (map (capped board) configuration) board configuration
  unfolding starting
  from_start depth = led_lasts board (starting board configuration) (λ label. label) (λ pebble. pebble)
      (itself board (starting board configuration) refl refl refl) depth
      (map (capped board) configuration) configuration
      (record {
        long = length-map configuration (capped board) ∙ long;
        led_long = long;
        each = λ pebble below. elim (capped_is board (get_or configuration pebble 0)) [
          | inl held ↦
              let same = at_place pebble below ∙ held.1 in
              inl (subst (λ n. n < board.labels) (sym same) held.0, sym same)
          | inr none ↦ inr none.0
        ];
      })

  pub each_has_value : (value : Value) × HasValue board configuration value
  each_has_value =
      let found = some_value (starting board configuration) (map (capped board) configuration) starts in (
        found.0,
        value_goes_over (starting board configuration) board (map (capped board) configuration) configuration
            from_start to_start found.0 found.1,
      )

-- of two values that compare, each tree of the smaller is matched by one of the other
pub trees_from_worth : (first second : PlainBoard) (configuration other : List ℕ) → length configuration ≡ first.pebbles
    → length other ≡ second.pebbles → IsWorthAtMost first configuration second other
    → LastsAsLong first configuration second other
trees_from_worth first second configuration other long other_long most =
    let value = each_has_value first configuration long in
    let bound = each_has_value second other other_long in
    trees_from_at_most first second configuration other value.0 bound.0 value.1 bound.1
    (most value.0 bound.0 value.1 bound.1)
