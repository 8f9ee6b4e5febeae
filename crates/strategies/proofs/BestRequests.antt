-- Best requests exist exactly at finite values, and there is one.
use Rattle.std.proofs.Common.{◌≡◌, ℕ, zero, suc, ◌<◌, ◌≤◌, ◌⊎◌, List, inl, inr, subst, arith}
use Rattle.std.proofs.lemmas.Bool.{cases_lt}
use Rattle.board_text.specs.PlainBoard.{PlainBoard, IsConfiguration}
use Rattle.positions.specs.declared.value.Value.{Value}
use Rattle.positions.specs.declared.value.Value.TheVariants.{Finite, Forever}
use Rattle.positions.specs.Game.{Legal, DominatesOthers, LabellerTree, AdversaryTree, moved}
use Rattle.positions.specs.Ranks.{configurations}
use Rattle.positions.specs.Value.{HasValue}
use Rattle.positions.proofs.Cited.{each_or_some, dominates_or_not, some_tree, moved_is_configuration, some_value}
use Rattle.positions.proofs.Cited.{forever_from_count, same_value}
use Rattle.strategies.specs.Best.{IsLess, HasNoGreaterValue, LowersValue, IsBestRequest}
use Rattle.strategies.proofs.ValueOrder.{at_least, less_from_tree, not_less, one_smallest}

-- the least number at which P holds, from one at which it does
pub least : (P : ℕ → Type 0) → ((i : ℕ) → P i ⊎ ¬ P i) → (fuel n : ℕ) → n ≤ fuel → P n
    → (m : ℕ) × (m ≤ n) × P m × ((i : ℕ) → i < m → ¬ P i)
least P decided zero n bound here = (n, omega arith, here, λ i below. absurd (omega arith))
least P decided (suc fuel) n bound here =
    elim (each_or_some (λ i. ¬ P i) P n
    (λ i below. elim (decided i) [ inl holds ↦ inr holds | inr fails ↦ inl fails ])) [
      | inl none ↦ (n, omega arith, here, none)
      | inr some ↦
          let below : some.0 < n = some.1 in
          let found = least P decided fuel some.0 (omega arith) some.2 in
          let smaller : found.0 ≤ some.0 = found.1 in
          (found.0, omega arith, found.2, found.3)
    ]

-- if P fails for all smaller numbers, the number is the smallest
pub first_is_smallest : (P : ℕ → Type 0) (first : ℕ) → ((i : ℕ) → i < first → ¬ P i) → (other : ℕ) → P other
    → first ≤ other
first_is_smallest P first before other here = elim (cases_lt other first) [
  | inl less ↦ absurd (before other less here)
  | inr behind ↦ behind
]

-- a request lowers a finite value, or has a legal answer after which the labeller lasts as long
lowers_or_some : (board : PlainBoard) (number : ℕ) (configuration : List ℕ)
    → HasValue board configuration (Finite number) → (pebble : ℕ) → pebble < board.pebbles
    → LowersValue board configuration pebble
    ⊎ ((label : ℕ) × Legal board configuration pebble label
    × LabellerTree board number (moved configuration pebble label))
lowers_or_some board number configuration has pebble is_pebble =
    elim (each_or_some (λ label. DominatesOthers board configuration pebble label
    → AdversaryTree board number (moved configuration pebble label))
    (λ label. DominatesOthers board configuration pebble label
    × LabellerTree board number (moved configuration pebble label)) board.labels
    (λ label below. elim (dominates_or_not board configuration pebble label) [
      | inr not ↦ inl (λ dominates. absurd (not dominates))
      | inl dominates ↦ elim (some_tree board number (moved configuration pebble label)) [
        | inl tree ↦
            inr (dominates, tree)
        | inr tree ↦ inl (λ _. tree)
      ]
    ])) [
      | inl each ↦ inl (record {
        is_pebble = is_pebble;
        lowers = λ label legal. less_from_tree board number (moved configuration pebble label) configuration
            (each label legal.is_label legal.dominates) has;
      })
      | inr some ↦ inr (some.0, record { is_label = some.1; dominates = some.2.0 }, some.2.1)
    ]

-- a request lowers a finite value, or doesn't
lowers_or_not : (board : PlainBoard) (number : ℕ) (configuration : List ℕ)
    → HasValue board configuration (Finite number) → (pebble : ℕ)
    → LowersValue board configuration pebble ⊎ ¬ LowersValue board configuration pebble
lowers_or_not board number configuration has pebble =
    elim (cases_lt pebble board.pebbles) [
      | inr beyond ↦ inr (λ lowering. let is_pebble : pebble < board.pebbles = lowering.is_pebble in
          absurd (omega arith))
      | inl is_pebble ↦ elim (lowers_or_some board number configuration has pebble is_pebble) [
        | inl lowers ↦ inl lowers
        | inr some ↦ inr (λ lowering. not_less board number (moved configuration pebble some.0) configuration some.2 has
            (lowering.lowers some.0 some.1))
      ]
    ]

pub best_request : (board : PlainBoard) (number : ℕ) (configuration : List ℕ)
    → HasValue board configuration (Finite number)
    → (pebble : ℕ) × IsBestRequest board configuration pebble
best_request board number configuration has =
    let asked = has.1 in
    let lowering : LowersValue board configuration asked.0 = record {
      is_pebble = asked.1;
      lowers = λ label legal. less_from_tree board number (moved configuration asked.0 label) configuration
          (asked.2 label legal) has;
    } in
    let first = least (LowersValue board configuration) (lowers_or_not board number configuration has) asked.0 asked.0
    (omega arith) lowering in
    (first.0, (first.2, first_is_smallest (LowersValue board configuration) first.0 first.3))

-- no request lowers the value of a configuration that lasts forever
pub not_lowered : (board : PlainBoard) (configuration : List ℕ) (pebble : ℕ) → IsConfiguration board configuration
    → HasValue board configuration Forever → LowersValue board configuration pebble → ⊥
not_lowered board configuration pebble is has lowering =
    let answer = has (suc (configurations board)) pebble lowering.is_pebble in
    let to : List ℕ = moved configuration pebble answer.0 in
    let forever = forever_from_count board to
    (moved_is_configuration board configuration pebble answer.0 answer.1.is_label is) answer.2 in
    let less = lowering.lowers answer.0 answer.1 in
    subst (λ (value : Value). IsLess value less.greater)
    (same_value board to less.smaller Forever less.of_first forever) less.less

pub finite_from_request : (board : PlainBoard) (configuration : List ℕ) (pebble : ℕ)
    → IsConfiguration board configuration
    → IsBestRequest board configuration pebble → (number : ℕ) × HasValue board configuration (Finite number)
finite_from_request board configuration pebble is best =
    let value = some_value board configuration is in by value.0 value.1
  where
    by : (value : Value) → HasValue board configuration value
        → (number : ℕ) × HasValue board configuration (Finite number)
    by (Finite number) has = (number, has)
    by Forever has = absurd (not_lowered board configuration pebble is has best.0)

pub same_request : (board : PlainBoard) (configuration : List ℕ) (first second : ℕ)
    → IsBestRequest board configuration first → IsBestRequest board configuration second → first ≡ second
same_request board configuration = one_smallest (LowersValue board configuration)

-- each smaller pebble has a legal answer after which the value is not smaller
pub not_lowered_before : (board : PlainBoard) (configuration : List ℕ) (pebble other : ℕ)
    → IsConfiguration board configuration
    → IsBestRequest board configuration pebble → other < pebble
    → (label : ℕ) × Legal board configuration other label
    × HasNoGreaterValue board configuration (moved configuration other label)
not_lowered_before board configuration pebble other is best before =
    elim (lowers_or_some board finite.0 configuration finite.1 other
    (let is_pebble : pebble < board.pebbles = best.0.is_pebble in omega arith)) [
      | inl lowers ↦ let behind : pebble ≤ other = best.1 other lowers in absurd (omega arith)
      | inr some ↦ (some.0, some.1, as_great some.0 some.1 some.2)
    ]
  where
    finite : (number : ℕ) × HasValue board configuration (Finite number)
    finite = finite_from_request board configuration pebble is best

    not_below : (number : ℕ) (to : List ℕ) (value : Value) → LabellerTree board number to → HasValue board to value
        → ¬ IsLess value (Finite number)
    not_below number to (Finite value) lasts has less =
        let enough : number ≤ value = at_least board number value to lasts has in omega (arith, enough, less)
    not_below number to Forever lasts has less = less

    as_great : (label : ℕ) → Legal board configuration other label
        → LabellerTree board finite.0 (moved configuration other label)
        → HasNoGreaterValue board configuration (moved configuration other label)
    as_great label legal lasts =
        let value = some_value board (moved configuration other label)
        (moved_is_configuration board configuration other label legal.is_label is) in
        record {
          value = Finite finite.0;
          bound = value.0;
          of_first = finite.1;
          of_second = value.1;
          not_greater = not_below finite.0 (moved configuration other label) value.0 lasts value.1;
        }
