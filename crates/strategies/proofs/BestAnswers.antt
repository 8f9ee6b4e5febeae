-- A request with a legal answer has one best answer.
use Rattle.std.proofs.Common.{◌≡◌, ℕ, zero, suc, ◌+◌, ◌<◌, ◌≤◌, ◌⊎◌, List, Option, None, Some, inl, inr, refl, sym, ◌∙◌}
use Rattle.std.proofs.Common.{subst, arith}
use Rattle.std.proofs.lemmas.Bool.{cases_lt}
use Rattle.board_text.specs.PlainBoard.{PlainBoard, IsConfiguration}
use Rattle.positions.specs.declared.value.Value.{Value}
use Rattle.positions.specs.Game.{Legal, DominatesOthers, LabellerTree, moved}
use Rattle.positions.specs.Value.{HasValue}
use Rattle.positions.proofs.Cited.{dominates_or_not, moved_is_configuration, some_value, same_value}
use Rattle.gap_values.specs.declared.value_table.Best.{Best}
use Rattle.strategies.specs.Best.{IsLess, HasSmallerValue, HasNoGreaterValue, HasGreatestResult, IsBestAnswer}
use Rattle.strategies.specs.Best.{IsBestFor}
use Rattle.strategies.proofs.ValueOrder.{cases_value, IsLess-trans, not_above, lasts_too, one_smallest}

-- the better of the best answer so far and a later one, which must lead to a greater value
abbrev IsBetter : Option Best → Best → Best → Type 0
IsBetter (Some first) later better = (IsLess first.value later.value → better ≡ later)
    × (¬ IsLess first.value later.value → better ≡ first)
IsBetter None later better = better ≡ later

-- the best label's result has a greater value than the label's, or the same and then the best label isn't larger
abbrev IsBehind : PlainBoard → List ℕ → ℕ → Best → ℕ → Type 0
IsBehind board configuration pebble best label =
    (value : Value) × HasValue board (moved configuration pebble label) value
    × (IsLess value best.value ⊎ ((value ≡ best.value) × (best.label ≤ label)))

-- the smallest of the labels below a bound whose result has the greatest value
record IsBestBelow (board : PlainBoard) (configuration : List ℕ) (pebble bound : ℕ) (best : Best) : Type 0 where
  early : best.label < bound
  legal : Legal board configuration pebble best.label
  has : HasValue board (moved configuration pebble best.label) best.value
  behind : (other : ℕ) → other < bound → Legal board configuration pebble other
      → IsBehind board configuration pebble best other

-- that label, or none of the labels is legal
abbrev IsFoundBelow : PlainBoard → List ℕ → ℕ → ℕ → Option Best → Type 0
IsFoundBelow board configuration pebble bound (Some best) = IsBestBelow board configuration pebble bound best
IsFoundBelow board configuration pebble bound None =
    (other : ℕ) → other < bound → ¬ Legal board configuration pebble other

better_exists : (best : Option Best) (later : Best) → (result : Best) × IsBetter best later result
better_exists None later = (later, refl)
better_exists (Some first) later = elim (cases_value first.value later.value) [
  | inl less ↦ (later, (λ _. refl, λ not. absurd (not less)))
  | inr not_less ↦ (first, (λ less. absurd (not_above first.value later.value not_less less), λ _. refl))
]

module _ (board : PlainBoard) (configuration : List ℕ) (pebble : ℕ) where
  -- if no label is legal from one bound to another, the best label is the same for both
  widen : (bound more : ℕ) (best : Option Best) → bound ≤ more
      → ((label : ℕ) → bound ≤ label → label < more → ¬ Legal board configuration pebble label)
      → IsFoundBelow board configuration pebble bound best → IsFoundBelow board configuration pebble more best
  widen bound more None enough none found = λ other below. elim (cases_lt other bound) [
    | inl early ↦ found other early
    | inr late ↦ none other late below
  ]
  widen bound more (Some best) enough none found = record {
    early = omega (arith, found.early);
    legal = found.legal;
    has = found.has;
    behind = λ other below legal. elim (cases_lt other bound) [
      | inl early ↦ found.behind other early legal
      | inr late ↦ absurd (none other late below legal)
    ];
  }

  -- if no legal label below a bound or at it is better, none below the next bound is better
  below_or_last : (best : Best) (bound : ℕ) → ((other : ℕ) → other < bound → Legal board configuration pebble other
      → IsBehind board configuration pebble best other)
      → IsBehind board configuration pebble best bound → (other : ℕ) → other < bound + 1
      → Legal board configuration pebble other
      → IsBehind board configuration pebble best other
  below_or_last best bound before last other below legal = elim (cases_lt other bound) [
    | inl less ↦ before other less legal
    | inr most ↦ let same : bound ≡ other = omega arith in subst (IsBehind board configuration pebble best) same last
  ]

  -- a legal label is the best if it is better than all legal ones before it
  leads_all : (later : Best) → Legal board configuration pebble later.label
      → HasValue board (moved configuration pebble later.label) later.value
      → ((other : ℕ) → other < later.label → Legal board configuration pebble other
      → IsBehind board configuration pebble later other)
      → IsBestBelow board configuration pebble (later.label + 1) later
  leads_all later legal has before = record {
    early = omega arith;
    legal = legal;
    has = has;
    behind = below_or_last later later.label before (later.value, has, inr (refl, omega arith));
  }

  -- the best label after one more legal label
  next_label : (best : Option Best) (later result : Best) → IsFoundBelow board configuration pebble later.label best
      → Legal board configuration pebble later.label
      → HasValue board (moved configuration pebble later.label) later.value
      → IsBetter best later result → IsBestBelow board configuration pebble (later.label + 1) result
  next_label None later result none legal has is =
      subst (IsBestBelow board configuration pebble (later.label + 1)) (sym is)
      (leads_all later legal has (λ other before is_legal. absurd (none other before is_legal)))
  next_label (Some first) later result found legal has (greater, kept) = elim (cases_value first.value later.value) [
    | inl less ↦ subst (IsBestBelow board configuration pebble (later.label + 1)) (sym (greater less))
        (leads_all later legal has (λ other before is_legal. let known = found.behind other before is_legal in (
          known.0,
          known.1,
          inl (elim known.2 [
            | inl worse ↦ IsLess-trans known.0 first.value later.value worse less
            | inr equal ↦ subst (λ (value : Value). IsLess value later.value) (sym equal.0) less
          ]),
        )))
    | inr not_less ↦ subst (IsBestBelow board configuration pebble (later.label + 1))
        (sym (kept (not_above first.value later.value not_less))) (record {
          early = omega (arith, found.early);
          legal = found.legal;
          has = found.has;
          behind = below_or_last first later.label found.behind (
            later.value,
            has,
            elim not_less [
              | inl same ↦ inr (sym same, omega (arith, found.early))
              | inr less ↦ inl less
            ],
          );
        })
  ]

  -- below each bound no label is legal, or there is a best one
  best_below : IsConfiguration board configuration → (bound : ℕ) → bound ≤ board.labels
      → (best : Option Best) × IsFoundBelow board configuration pebble bound best
  best_below is zero few = (None, λ other below. absurd (omega arith))
  best_below is (suc bound) few =
      let before = best_below is bound (omega arith) in
      elim (dominates_or_not board configuration pebble bound) [
        | inr not ↦ (
          before.0,
          widen bound (suc bound) before.0 (omega arith) (λ label late early legal.
              let same : label ≡ bound = omega arith in
              not (subst (DominatesOthers board configuration pebble) same legal.dominates)) before.1,
        )
        | inl dominates ↦
            let legal : Legal board configuration pebble bound =
            record { is_label = omega arith; dominates = dominates } in
            let value = some_value board (moved configuration pebble bound)
            (moved_is_configuration board configuration pebble bound legal.is_label is) in
            let later : Best = record { label = bound; value = value.0 } in
            let better = better_exists before.0 later in
            let one_more : bound + 1 ≡ suc bound = omega arith in (
              Some better.0,
              subst (λ (n : ℕ). IsBestBelow board configuration pebble n better.0) one_more
                  (next_label before.0 later better.0 before.1 legal value.1 better.1),
            )
      ]

  -- the best label below a bound is the best answer if it is better than all legal ones from there on
  best_of_all : (bound : ℕ) (best : Best) → IsBestBelow board configuration pebble bound best
      → ((other : ℕ) → bound ≤ other → Legal board configuration pebble other
      → IsBehind board configuration pebble best other)
      → IsBestFor board configuration pebble (Some best)
  best_of_all bound best found late = (
    (
      record {
        legal = found.legal;
        greatest = λ other legal.
            let known = behind other legal in
            record {
              value = known.0;
              bound = best.value;
              of_first = known.1;
              of_second = found.has;
              not_greater =
                  not_above best.value known.0 (elim known.2 [ inl less ↦ inr less | inr equal ↦ inl (sym equal.0) ]);
            };
      },
      is_smallest,
    ),
    found.has,
  )
    where
      behind : (other : ℕ) → Legal board configuration pebble other → IsBehind board configuration pebble best other
      behind other legal = elim (cases_lt other bound) [
        | inl below ↦ found.behind other below legal
        | inr above ↦
            late other above legal
      ]

      is_smallest : (other : ℕ) → HasGreatestResult board configuration pebble other → best.label ≤ other
      is_smallest other also =
          let known = behind other also.legal in
          elim known.2 [
            | inr equal ↦ equal.1
            | inl less ↦
                let most = also.greatest best.label found.legal in
                let same = same_value board
                (moved configuration pebble best.label) best.value most.value found.has most.of_first in
                let bound =
                same_value board (moved configuration pebble other) known.0 most.bound known.1 most.of_second in
                absurd (most.not_greater (subst (λ (u : Value). IsLess u most.value) bound
                (subst (IsLess known.0) same less)))
          ]

pub best_answer : (board : PlainBoard) (configuration : List ℕ) (pebble : ℕ) → IsConfiguration board configuration
    → (some : ℕ) → Legal board configuration pebble some → (label : ℕ) × IsBestAnswer board configuration pebble label
best_answer board configuration pebble is some legal =
    let found = best_below board configuration pebble is board.labels (omega arith) in by found.0 found.1
  where
    by : (best : Option Best) → IsFoundBelow board configuration pebble board.labels best
        → (label : ℕ) × IsBestAnswer board configuration pebble label
    by None none = absurd (none some legal.is_label legal)
    by (Some best) found =
        let all = best_of_all board configuration pebble board.labels best found in
        (best.label, (all (λ other late legal. absurd (omega (arith, legal.is_label)))).0)

pub same_answer : (board : PlainBoard) (configuration : List ℕ) (pebble first second : ℕ)
    → IsBestAnswer board configuration pebble first → IsBestAnswer board configuration pebble second → first ≡ second
same_answer board configuration pebble = one_smallest (HasGreatestResult board configuration pebble)

-- a best answer leaves the labeller as many requests as any answer
pub lasts_after : (board : PlainBoard) (number : ℕ) (configuration : List ℕ) (pebble label : ℕ) → pebble < board.pebbles
    → IsBestAnswer board configuration pebble label → LabellerTree board (suc number) configuration
    → LabellerTree board number (moved configuration pebble label)
lasts_after board number configuration pebble label is_pebble best lasts =
    let answer = lasts pebble is_pebble in
    lasts_too board number (moved configuration pebble answer.0) (moved configuration pebble label)
    (best.0.greatest answer.0 answer.1) answer.2

-- each smaller legal label has a result of a smaller value
pub smaller_before : (board : PlainBoard) (configuration : List ℕ) (pebble label other : ℕ)
    → IsBestAnswer board configuration pebble label
    → other < label → Legal board configuration pebble other
    → HasSmallerValue board (moved configuration pebble other) (moved configuration pebble label)
smaller_before board configuration pebble label other best before legal =
    elim (cases_value most.value most.bound) [
      | inl less ↦ record {
        smaller = most.value;
        greater = most.bound;
        of_first = most.of_first;
        of_second = most.of_second;
        less = less;
      }
      | inr (inl same) ↦ let behind : label ≤ other = best.1 other (as_great same) in absurd (omega arith)
      | inr (inr more) ↦ absurd (most.not_greater more)
    ]
  where
    most : HasNoGreaterValue board (moved configuration pebble other) (moved configuration pebble label)
    most = best.0.greatest other legal

    as_great : most.value ≡ most.bound → HasGreatestResult board configuration pebble other
    as_great same = record {
      legal = legal;
      greatest = λ third is_legal.
          let least = best.0.greatest third is_legal in
          let bound : least.bound ≡ most.value =
          same_value board (moved configuration pebble label) least.bound most.bound least.of_second most.of_second
          ∙ sym same in
          record {
            value = least.value;
            bound = most.value;
            of_first = least.of_first;
            of_second = most.of_first;
            not_greater = subst (λ (v : Value). ¬ IsLess v least.value) bound least.not_greater;
          };
    }
