-- Instances of boards that follow: wider domains, other names, exchanged processes, one process fewer.
use Rattle.std.proofs.Common.{◌≡◌, ℕ, ◌+◌, ◌<◌, ◌≤◌, ◌⊎◌, List, length, get_or, refl, sym, ◌∙◌, ap, subst, arith, inl}
use Rattle.std.proofs.Common.{inr}
use Rattle.std.specs.List.{remove}
use Rattle.std.proofs.lemmas.Bool.{cases_lt}
use Rattle.std.proofs.lemmas.List.Edits.{get_or-remove_above, get_or-remove_below, length-remove}
use Rattle.board_text.specs.PlainBoard.{PlainBoard, Dominates}
use Rattle.domains.specs.Embedding.{IsWithin, IsOnBoth, IsRenaming, IsRenamed, HasOnePebbleFewer}
use Rattle.domains.specs.ValueOrder.{IsWorthAtMost, AreWorthTheSame}
use Rattle.domains.proofs.Choices.{one_or, of_one_or}
use Rattle.domains.proofs.Following.{same_domain, led_lasts}
use Rattle.domains.proofs.ComparedValues.{LastsAsLong, at_most_from_trees, one_value_from_trees}

pub wider_lasts : (board wider : PlainBoard) (configuration : List ℕ) → IsWithin board wider
    → IsOnBoth board wider configuration → IsWorthAtMost board configuration wider configuration
wider_lasts board wider configuration within on =
    at_most_from_trees board wider configuration configuration
    (λ depth. led_lasts wider board (λ label. label) (λ pebble. pebble)
    (record {
      labels = λ label low. omega (arith, within.labels, low);
      beats = within.beats;
      leaders = λ pebble below. omega (arith, within.pebbles, below);
      apart = λ pebble other below other_below one. one;
    })
    depth configuration configuration
    (record {
      long = on.long;
      led_long = on.long ∙ sym within.pebbles;
      each = λ pebble below. elim (on.each pebble (omega (arith, within.pebbles, below))) [
        | inl low ↦ inl (low, refl)
        | inr none ↦ inr none
      ];
    }))

module _ (board renamed : PlainBoard) (to back : ℕ → ℕ) (renaming : IsRenaming board renamed to back) where
  renamed_lasts : (configuration other : List ℕ) → IsRenamed board to configuration other
      → LastsAsLong board configuration renamed other
  renamed_lasts configuration other is = λ depth. led_lasts renamed board to (λ pebble. pebble)
      (record {
        labels = λ label low. omega (arith, (renaming.there label low).0, renaming.labels);
        beats = λ x y x_low y_low. (renaming.beats x y x_low y_low).0;
        leaders = λ pebble below. omega (arith, renaming.pebbles, below);
        apart = λ pebble other below other_below one. one;
      })
      depth configuration other
      (record {
        long = is.long;
        led_long = is.renamed_long ∙ sym renaming.pebbles;
        each = λ pebble below. elim (is.each pebble (omega (arith, renaming.pebbles, below))) [
          | inl held ↦ inl held
          | inr none ↦ inr (omega (arith, none.1, renaming.labels))
        ];
      })

  named_back_lasts : (configuration other : List ℕ) → IsRenamed board to configuration other
      → LastsAsLong renamed other board configuration
  named_back_lasts configuration other is = λ depth. led_lasts board renamed back (λ pebble. pebble)
      (record {
        labels = λ label low. (renaming.again label (omega (arith, renaming.labels, low))).0;
        beats = λ x y x_low y_low beats.
            let x_back = renaming.again x (omega (arith, renaming.labels, x_low)) in
            let y_back = renaming.again y (omega (arith, renaming.labels, y_low)) in
            (renaming.beats (back x) (back y) x_back.0 y_back.0).1
            (subst (λ n. Dominates renamed n (to (back y))) (sym x_back.1)
            (subst (Dominates renamed x) (sym y_back.1) beats));
        leaders = λ pebble below. omega (arith, renaming.pebbles, below);
        apart = λ pebble other below other_below one. one;
      })
      depth other configuration
      (record {
        long = is.renamed_long ∙ sym renaming.pebbles;
        led_long = is.long;
        each = λ pebble below. elim (is.each pebble below) [
          | inl held ↦
              let place = get_or configuration pebble 0 in
              let there = renaming.there place held.0 in
              inl (
                subst (λ n. n < renamed.labels) (sym held.1) (omega (arith, there.0, renaming.labels)),
                sym there.1 ∙ sym (ap back held.1),
              )
          | inr none ↦ inr none.0
        ];
      })

  pub renamed_worth : (configuration other : List ℕ) → IsRenamed board to configuration other
      → AreWorthTheSame board configuration renamed other
  renamed_worth configuration other is =
      one_value_from_trees board renamed configuration other
      (renamed_lasts configuration other is) (named_back_lasts configuration other is)

-- ---- one process fewer

-- the pebbles from this one on follow the next
pub beyond : ℕ → ℕ → ℕ
beyond pebble other = one_or (cases_lt other pebble) other (other + 1)

pub beyond_is : (pebble other : ℕ) → ((other < pebble) × (beyond pebble other ≡ other))
    ⊎ ((pebble ≤ other) × (beyond pebble other ≡ other + 1))
unfolding beyond
beyond_is pebble other =
    of_one_or (λ n. ((other < pebble) × (n ≡ other)) ⊎ ((pebble ≤ other) × (n ≡ other + 1))) (cases_lt other pebble)
    other (other + 1) (λ low. inl (low, refl)) (λ high. inr (high, refl))

pub beyond_apart : (pebble first second : ℕ) → beyond pebble first ≡ beyond pebble second → first ≡ second
beyond_apart pebble first second one =
    elim (beyond_is pebble first) [
      | inl low ↦ elim (beyond_is pebble second) [
        | inl other ↦ omega (arith, low.1, other.1, one)
        | inr other ↦ omega (arith, low.0, low.1, other.0, other.1, one)
      ]
      | inr high ↦ elim (beyond_is pebble second) [
        | inl other ↦ omega (arith, high.0, high.1, other.0, other.1, one)
        | inr other ↦ omega (arith, high.1, other.1, one)
      ]
    ]

pub fewer_last : (board fewer : PlainBoard) (configuration : List ℕ) (pebble : ℕ) → HasOnePebbleFewer board fewer
    → length configuration ≡ board.pebbles → pebble < board.pebbles
    → IsWorthAtMost board configuration fewer (remove configuration pebble)
fewer_last board fewer configuration pebble has long pebble_below =
    let inside : pebble < length configuration = omega (arith, long, pebble_below) in
    at_most_from_trees board fewer configuration (remove configuration pebble)
    (λ depth. led_lasts fewer board (λ label. label) (beyond pebble)
    (same_domain fewer board (beyond pebble) has.labels has.pairs
    (λ other below. elim (beyond_is pebble other) [
      | inl low ↦ omega (arith, low.0, low.1, pebble_below)
      | inr high ↦ omega (arith, high.1, below, has.pebbles)
    ])
    (λ first second below second_below one. beyond_apart pebble first second one))
    depth configuration (remove configuration pebble)
    (record {
      long = long;
      led_long = omega (arith, length-remove configuration pebble inside, long, has.pebbles);
      each = λ other below.
          let same : get_or (remove configuration pebble) other 0 ≡ get_or configuration (beyond pebble other) 0
          = elim (beyond_is pebble other) [
            | inl low ↦ get_or-remove_below configuration pebble 0 other low.0 inside
                ∙ sym (ap (λ n. get_or configuration n 0) low.1)
            | inr high ↦ get_or-remove_above configuration pebble 0 other high.0 inside
                ∙ sym (ap (λ n. get_or configuration n 0) high.1)
          ] in
          elim (cases_lt (get_or configuration (beyond pebble other) 0) board.labels) [
            | inl low ↦ inl (low, same)
            | inr none ↦ inr (omega (arith, same, none, has.labels))
          ];
    }))
