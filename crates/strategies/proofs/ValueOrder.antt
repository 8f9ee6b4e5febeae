-- The order of values, by trees.
use Rattle.std.proofs.Common.{◌≡◌, ℕ, zero, suc, ◌<◌, ◌≤◌, ◌⊎◌, List, Some, inl, inr, refl, ap, subst, arith}
use Rattle.std.proofs.lemmas.Bool.{cases_lt, cases_order}
use Rattle.board_text.specs.PlainBoard.{PlainBoard}
use Rattle.positions.specs.declared.value.Value.{Value}
use Rattle.positions.specs.declared.value.Value.TheVariants.{Finite, Forever}
use Rattle.positions.specs.Counts.{IsSmallest}
use Rattle.positions.specs.Game.{LabellerTree, AdversaryTree}
use Rattle.positions.specs.Value.{HasValue}
use Rattle.positions.proofs.Cited.{not_both_trees, lasts_at_most, at_most_from_tree, same_value}
use Rattle.strategies.specs.Best.{IsLess, HasSmallerValue, HasNoGreaterValue}
use Rattle.strategies.specs.DocumentMoves.{IsAnswerable}

-- a labeller that lasts a number of requests has at least that value
pub at_least : (board : PlainBoard) (number depth : ℕ) (configuration : List ℕ)
    → LabellerTree board number configuration → HasValue board configuration (Finite depth) → number ≤ depth
at_least board number depth configuration lasts has =
    elim (cases_lt depth number) [
      | inl less ↦ absurd (not_both_trees board (suc depth) configuration
          (lasts_at_most board configuration (suc depth) number (omega arith) lasts) has.1)
      | inr enough ↦ enough
    ]

-- a configuration with an adversary's tree of a depth has a value below it
pub less_from_tree : (board : PlainBoard) (number : ℕ) (first second : List ℕ)
    → AdversaryTree board number first → HasValue board second (Finite number) → HasSmallerValue board first second
less_from_tree board zero first second stops has = absurd stops
less_from_tree board (suc number) first second stops has =
    let value = at_most_from_tree board number first stops in
    let bound : value.0 ≤ number = value.1 in
    record {
      smaller = Finite value.0;
      greater = Finite (suc number);
      of_first = value.2;
      of_second = has;
      less = omega arith;
    }

-- a configuration with a smaller value than a finite one has a finite value below that
pub less_than_finite : (board : PlainBoard) (number : ℕ) (first second : List ℕ) → HasValue board second (Finite number)
    → HasSmallerValue board first second
    → (depth : ℕ) × (depth < number) × HasValue board first (Finite depth)
less_than_finite board number first second has less =
    let same = same_value board second less.greater (Finite number) less.of_second has in
    by less.smaller less.of_first (subst (IsLess less.smaller) same less.less)
  where
    by : (low : Value) → HasValue board first low → IsLess low (Finite number)
        → (depth : ℕ) × (depth < number) × HasValue board first (Finite depth)
    by (Finite low) one below = (low, below, one)
    by Forever one below = absurd below

-- a configuration with a smaller value than a finite one has no labeller's tree of that depth
pub not_less : (board : PlainBoard) (number : ℕ) (first second : List ℕ)
    → LabellerTree board number first → HasValue board second (Finite number) → HasSmallerValue board first second → ⊥
not_less board number first second lasts has less =
    let found = less_than_finite board number first second has less in
    let below : found.0 < number = found.1 in
    let enough : number ≤ found.0 = at_least board number found.0 first lasts found.2 in
    omega arith

-- if the second value isn't smaller, a labeller lasts as long from the second configuration
pub lasts_too : (board : PlainBoard) (number : ℕ) (first second : List ℕ) → HasNoGreaterValue board first second
    → LabellerTree board number first → LabellerTree board number second
lasts_too board number first second most lasts = by most.value most.bound most.of_first most.of_second most.not_greater
  where
    by : (value bound : Value) → HasValue board first value → HasValue board second bound → ¬ IsLess bound value
        → LabellerTree board number second
    by value Forever one other not = other number
    by Forever (Finite bound) one other not = absurd (not tt)
    by (Finite value) (Finite bound) one other not =
        elim (cases_lt bound value) [
          | inl less ↦ absurd (not less)
          | inr enough ↦
              let most : number ≤ value = at_least board number value first lasts one in
              lasts_at_most board second number bound (omega arith) other.0
        ]

-- two values are in order or equal
pub cases_value : (v w : Value) → IsLess v w ⊎ ((v ≡ w) ⊎ IsLess w v)
cases_value (Finite m) (Finite n) =
    elim (cases_order m n) [
      | inl same ↦ inr (inl (ap Finite same))
      | inr (inl less) ↦ inl less
      | inr (inr more) ↦
          inr (inr more)
    ]
cases_value (Finite m) Forever = inl tt
cases_value Forever (Finite n) = inr (inr tt)
cases_value Forever Forever = inr (inl refl)

pub IsLess-irrefl : (v : Value) → IsLess v v → ⊥
IsLess-irrefl (Finite n) less = omega (arith, less)
IsLess-irrefl Forever less = less

pub IsLess-trans : (u v w : Value) → IsLess u v → IsLess v w → IsLess u w
IsLess-trans (Finite l) (Finite m) (Finite n) p q = omega (arith, p, q)
IsLess-trans (Finite l) (Finite m) Forever p q = tt
IsLess-trans (Finite l) Forever w p q = absurd q
IsLess-trans Forever v w p q = absurd p

-- a value that is equal or greater isn't smaller
pub not_above : (v w : Value) → (v ≡ w) ⊎ IsLess w v → ¬ IsLess v w
not_above v w (inl same) less = IsLess-irrefl w (subst (λ (u : Value). IsLess u w) same less)
not_above v w (inr more) less = IsLess-irrefl v (IsLess-trans v w v less more)

-- there is at most one smallest number of which P holds
pub one_smallest : (P : ℕ → Type 0) (first second : ℕ) → IsSmallest P (Some first) → IsSmallest P (Some second)
    → first ≡ second
one_smallest P first second one other = omega (arith, one.1 second other.0, other.1 first one.0)

-- a configuration whose value is less than 1 isn't answerable
pub worthless : (board : PlainBoard) (configuration : List ℕ) (value : Value) → HasValue board configuration value
    → ¬ IsLess (Finite 0) value
    → ¬ IsAnswerable board configuration
worthless board configuration value has not some =
    not (subst (IsLess (Finite 0)) (same_value board configuration some.value value some.has_value has) some.some)
