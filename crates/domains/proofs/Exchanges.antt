-- Processes that exchange their labels.
use Rattle.std.proofs.Common.{◌≡◌, ◌≢◌, ℕ, ◌<◌, ◌≤◌, List, [], ◌∷◌, length, get_or, set, refl, sym, ◌∙◌, ap, subst}
use Rattle.std.proofs.Common.{arith, inl, inr}
use Rattle.std.specs.List.{swap}
use Rattle.std.specs.List.Sorted.{IsPermutation, SwapsInRange, apply_swaps}
use Rattle.std.proofs.lemmas.Bool.{cases_lt, cases_eq}
use Rattle.std.proofs.lemmas.Grind.{get_or-set_at}
use Rattle.std.proofs.lemmas.List.{get_or-set_other, get_or_default, length-set}
use Rattle.std.proofs.lemmas.List.Edits.{length-swap}
use Rattle.std.proofs.lemmas.List.Sorted.{IsPermutation-sym, length_permutation}
use Rattle.board_text.specs.PlainBoard.{PlainBoard}
use Rattle.domains.specs.ValueOrder.{AreWorthTheSame}
use Rattle.domains.proofs.Choices.{one_or, of_one_or}
use Rattle.domains.proofs.Following.{same_domain, led_lasts}
use Rattle.domains.proofs.ComparedValues.{LastsAsLong, one_value_from_trees}

-- two numbers, each in the other's place
pub trade : ℕ → ℕ → ℕ → ℕ
trade i j k = one_or (cases_eq k i) j (one_or (cases_eq k j) i k)

pub record Traded (i j k to : ℕ) : Type 0 where
  pub first : k ≡ i → to ≡ j
  pub second : k ≡ j → to ≡ i
  pub other : k ≢ i → k ≢ j → to ≡ k

pub trade_is : (i j k : ℕ) → Traded i j k (trade i j k)
unfolding trade
trade_is i j k =
    of_one_or (Traded i j k) (cases_eq k i) j (one_or (cases_eq k j) i k)
    (λ is. record { first = λ _. refl; second = λ same. sym same ∙ is; other = λ not _. absurd (not is) })
    (λ not. of_one_or (Traded i j k) (cases_eq k j) i k
    (λ is. record { first = λ one. absurd (not one); second = λ _. refl; other = λ _ differs. absurd (differs is) })
    (λ differs. record {
      first = λ one. absurd (not one);
      second = λ one. absurd
          (differs one);
      other = λ _ _. refl;
    }))

pub trade_apart : (i j first second : ℕ) → trade i j first ≡ trade i j second → first ≡ second
trade_apart i j first second one =
    let one_is = trade_is i j first in
    let other_is = trade_is i j second in
    elim (cases_eq first i) [
      | inl at_i ↦ elim (cases_eq second i) [
        | inl same ↦ at_i ∙ sym same
        | inr not ↦ elim (cases_eq second j) [
          | inl at_j ↦ omega (arith, at_i, at_j, one, one_is.first at_i, other_is.second at_j)
          | inr differs ↦ omega (arith, at_i, one, one_is.first at_i, other_is.other not differs, differs)
        ]
      ]
      | inr not_i ↦ elim (cases_eq first j) [
        | inl at_j ↦ elim (cases_eq second i) [
          | inl at_i ↦ omega (arith, at_i, at_j, one, one_is.second at_j, other_is.first at_i)
          | inr not ↦ elim (cases_eq second j) [
            | inl same ↦ at_j ∙ sym same
            | inr differs ↦ omega (arith, at_j, one, one_is.second at_j, other_is.other not differs, not)
          ]
        ]
        | inr not_j ↦ elim (cases_eq second i) [
          | inl at_i ↦ omega (arith, at_i, one, one_is.other not_i not_j, other_is.first at_i, not_j)
          | inr not ↦ elim (cases_eq second j) [
            | inl at_j ↦ omega (arith, at_j, one, one_is.other not_i not_j, other_is.second at_j, not_i)
            | inr differs ↦ omega (arith, one, one_is.other not_i not_j, other_is.other not differs)
          ]
        ]
      ]
    ]

pub trade_below : (count i j k : ℕ) → i < count → j < count → k < count → trade i j k < count
trade_below count i j k i_below j_below k_below =
    let is = trade_is i j k in
    elim (cases_eq k i) [
      | inl at_i ↦ omega (arith, is.first at_i, j_below)
      | inr not_i ↦ elim (cases_eq k j) [
        | inl at_j ↦ omega (arith, is.second at_j, i_below)
        | inr not_j ↦ omega (arith, is.other not_i not_j, k_below)
      ]
    ]

-- an exchange puts at each place the element of the place that it trades with
swapped_at : (xs : List ℕ) (i j k : ℕ) → i < length xs → j < length xs
    → get_or (swap xs i j) k 0 ≡ get_or xs (trade i j k) 0
swapped_at [] i j k i_below j_below = absurd (omega (arith, i_below))
swapped_at (d ∷ ys) i j k i_below j_below =
    let xs = d ∷ ys in
    let is = trade_is i j k in
    let half = set xs i (get_or xs j d) in
    elim (cases_eq k j) [
      | inl at_j ↦
          get_or-set_at half j k (get_or xs i d) 0 at_j (omega (arith, length-set xs i (get_or xs j d), j_below))
          ∙ (get_or_default xs i d 0 i_below ∙ ap (λ n. get_or xs n 0) (sym (is.second at_j)))
      | inr not_j ↦
          get_or-set_other half j k (get_or xs i d) 0 not_j
          ∙ elim (cases_eq k i) [
            | inl at_i ↦ get_or-set_at xs i k (get_or xs j d) 0 at_i i_below
                ∙ (get_or_default xs j d 0 j_below ∙ ap (λ n. get_or xs n 0) (sym (is.first at_i)))
            | inr not_i ↦ get_or-set_other xs i k (get_or xs j d) 0 not_i
                ∙ ap (λ n. get_or xs n 0) (sym (is.other not_i not_j))
          ]
    ]

swapped_lasts : (board : PlainBoard) (configuration : List ℕ) (i j : ℕ) → length configuration ≡ board.pebbles
    → i < length configuration → j < length configuration
    → LastsAsLong board configuration board (swap configuration i j)
swapped_lasts board configuration i j long i_below j_below depth =
    led_lasts board board (λ label. label) (trade i j)
    (same_domain board board (trade i j) refl refl
    (λ pebble below. trade_below board.pebbles i j pebble (omega (arith, long, i_below))
    (omega (arith, long, j_below)) below)
    (λ first second below second_below one. trade_apart i j first second one))
    depth configuration (swap configuration i j)
    (record {
      long = long;
      led_long = length-swap configuration i j ∙ long;
      each = λ pebble below.
          let same = swapped_at configuration i j pebble i_below j_below in
          elim (cases_lt (get_or configuration (trade i j pebble) 0) board.labels) [
            | inl low ↦ inl (low, same)
            | inr none ↦ inr (subst (λ n. board.labels ≤ n) (sym same) none)
          ];
    })

swaps_last : (board : PlainBoard) (configuration : List ℕ) (moves : List (ℕ × ℕ))
    → length configuration ≡ board.pebbles
    → SwapsInRange (length configuration) moves
    → (length (apply_swaps configuration moves) ≡ length configuration)
    × LastsAsLong board configuration board (apply_swaps configuration moves)
swaps_last board configuration [] long inside = (refl, λ depth tree. tree)
swaps_last board configuration (move ∷ moves) long inside =
    let before = swaps_last board configuration moves long inside.2 in
    let now = apply_swaps configuration moves in (
      length-swap now move.0 move.1 ∙ before.0,
      λ depth tree. swapped_lasts board now move.0 move.1 (before.0 ∙ long) (omega (arith, before.0, inside.0))
          (omega (arith, before.0, inside.1)) depth (before.1 depth tree),
    )

pub permuted_lasts : (board : PlainBoard) (configuration other : List ℕ) → length configuration ≡ board.pebbles
    → IsPermutation configuration other → LastsAsLong board configuration board other
permuted_lasts board configuration other long permutation =
    subst (LastsAsLong board configuration board) (sym permutation.is)
    (swaps_last board configuration permutation.moves long permutation.below).1

pub permuted_worth : (board : PlainBoard) (configuration other : List ℕ) → length configuration ≡ board.pebbles
    → IsPermutation configuration other → AreWorthTheSame board configuration board other
permuted_worth board configuration other long permutation =
    one_value_from_trees board board configuration other (permuted_lasts board configuration other long permutation)
    (permuted_lasts board other configuration (length_permutation configuration other permutation ∙ long)
    (IsPermutation-sym configuration other permutation))
