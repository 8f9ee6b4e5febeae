-- The counts of a report add up.
use Rattle.std.proofs.Common.{◌≡◌, ◌≢◌, ℕ, zero, suc, ◌+◌, ◌<◌, ◌≤◌, ◌==◌, ◌↔◌, ◌⊎◌, inl, inr, true, cond, List, []}
use Rattle.std.proofs.Common.{◌∷◌, length, slice_index, refl, sym, ap, ◌∙◌, subst, arith}
use Rattle.std.specs.List.{sum}
use Rattle.std.proofs.lemmas.Bool.{cases_lt, cases_eq, eqb-true}
use Rattle.std.proofs.lemmas.List.Sums.{sum_by-cons}
use Rattle.board_text.specs.PlainBoard.{PlainBoard}
use Rattle.index_lists.proofs.Cited.{same_is, differ_is}
use Rattle.positions.specs.declared.value.Value.{Value}
use Rattle.positions.specs.declared.value.Value.TheVariants.{Finite, Forever}
use Rattle.positions.specs.Counts.{HasSize}
use Rattle.positions.specs.Ranks.{configurations, configuration_at}
use Rattle.positions.specs.Value.{HasValue}
use Rattle.positions.proofs.Cited.{size_of, some_value, configuration_at_is, same_size, same_value}
use Rattle.graphs.specs.Graph.{count_below}
use Rattle.solver.proofs.Cited.{count-same}
use Rattle.gap_values.specs.Sizes.{HasValueCount}
use Rattle.runs.specs.Report.{Report, IsReport}

-- ---- sums of numbers

abbrev total : ℕ → (ℕ → ℕ) → ℕ
total zero g = 0
total (suc n) g = g 0 + total n (λ j. g (suc j))

total_same : (n : ℕ) (g h : ℕ → ℕ) → ((j : ℕ) → j < n → g j ≡ h j) → total n g ≡ total n h
total_same zero g h same = refl
total_same (suc n) g h same =
    let first = same 0 (omega arith) in
    let rest = total_same n (λ j. g (suc j)) (λ j. h (suc j)) (λ j below. same (suc j) (omega arith)) in
    omega (arith, first, rest)

total_zero : (n : ℕ) → total n (λ j. 0) ≡ 0
total_zero zero = refl
total_zero (suc n) = let rest = total_zero n in omega (arith, rest)

total_add : (n : ℕ) (g h : ℕ → ℕ) → total n (λ j. g j + h j) ≡ total n g + total n h
total_add zero g h = refl
total_add (suc n) g h = let rest = total_add n (λ j. g (suc j)) (λ j. h (suc j)) in omega (arith, rest)

total_last : (n : ℕ) (g : ℕ → ℕ) → total (suc n) g ≡ total n g + g n
total_last zero g = omega arith
total_last (suc n) g = let rest = total_last n (λ j. g (suc j)) in omega (arith, rest)

-- just one number below the bound is this one
one_hit : (n v : ℕ) → v < n → total n (λ j. cond (v == j) 1 0) ≡ 1
one_hit zero v below = absurd (omega arith)
one_hit (suc n) zero below =
    let none : total n (λ j. cond (0 == suc j) 1 0) ≡ 0 =
    total_same n (λ j. cond (0 == suc j) 1 0) (λ j. 0) (λ j _. differs 0 (suc j) (λ same. absurd (omega arith)))
    ∙ total_zero n in
    let first : cond {A = ℕ} (0 == 0) 1 0 ≡ 1 = hits 0 0 refl in
    omega (arith, none, first)
  where
    differs : (a b : ℕ) → a ≢ b → cond {A = ℕ} (a == b) 1 0 ≡ 0
    differs a b other = rw (differ_is a b other) refl

    hits : (a b : ℕ) → a ≡ b → cond {A = ℕ} (a == b) 1 0 ≡ 1
    hits a b same = rw (same_is a b same) refl
one_hit (suc n) (suc v) below =
    let rest : total n (λ j. cond (suc v == suc j) 1 0) ≡ 1 =
    total_same n (λ j. cond (suc v == suc j) 1 0) (λ j. cond (v == j) 1 0) (λ j _. level j)
    ∙ one_hit n v (omega arith) in
    let first : cond {A = ℕ} (suc v == 0) 1 0 ≡ 0 = rw (differ_is (suc v) 0 (λ same. absurd (omega arith))) refl in
    omega (arith, rest, first)
  where
    level : (j : ℕ) → cond {A = ℕ} (suc v == suc j) 1 0 ≡ cond (v == j) 1 0
    level j = elim (cases_eq v j) [
      | inl same ↦ let next : suc v ≡ suc j = ap suc same in rw (same_is v j same, same_is (suc v) (suc j) next) refl
      | inr other ↦ let next : suc v ≢ suc j = λ e. other (omega arith) in
          rw (differ_is v j other, differ_is (suc v) (suc j) next) refl
    ]

-- the counts of all classes add up to the number of numbers
all_classes : (of : ℕ → ℕ) (classes n : ℕ) → ((k : ℕ) → k < n → of k < classes)
    → total classes (λ j. count_below n (λ k. of k == j)) ≡ n
all_classes of classes zero below =
    total_same classes (λ j. count_below 0 (λ k. of k == j)) (λ j. 0) (λ j _. refl) ∙ total_zero classes
all_classes of classes (suc n) below =
    let step = total_add classes (λ j. count_below n (λ k. of k == j)) (λ j. cond (of n == j) 1 0) in
    let before = all_classes of classes n (λ k less. below k (omega arith)) in
    let last = one_hit classes (of n) (below n (omega arith)) in
    step ∙ (let sum_is : total classes (λ j. count_below n (λ k. of k == j)) + total classes (λ j. cond (of n == j) 1 0)
    ≡ suc n = omega (arith, before, last) in sum_is)

sum_is_total : (xs : List ℕ) → sum xs ≡ total (length xs) (slice_index xs)
sum_is_total [] = refl
sum_is_total (x ∷ xs) = sum_by-cons (λ (n : ℕ). n) x xs ∙ ap (λ (n : ℕ). x + n) (sum_is_total xs)

-- ---- configurations by their values

module _ (board : PlainBoard) (report : Report) (is : IsReport board report) where
  abbrev lines : ℕ
  lines = length report.counts

  abbrev class_of : Value → ℕ
  class_of (Finite value) = value
  class_of Forever = lines

  value_at : (rank : ℕ) → rank < configurations board
      → (value : Value) × HasValue board (configuration_at board rank) value
  value_at rank below = some_value board (configuration_at board rank) (configuration_at_is board rank below)

  abbrev class : ℕ → ℕ
  class rank =
      elim (cases_lt rank (configurations board)) [ inl below ↦ class_of (value_at rank below).0 | inr above ↦ 0 ]

  class_is : (rank : ℕ) (value : Value) → rank < configurations board
      → HasValue board (configuration_at board rank) value → class rank ≡ class_of value
  class_is rank value below has = by (cases_lt rank (configurations board)) refl
    where
      by : (c : (rank < configurations board) ⊎ (configurations board ≤ rank))
          → cases_lt rank (configurations board) ≡ c
          → (elim c [ inl low ↦ class_of (value_at rank low).0 | inr above ↦ 0 ]) ≡ class_of value
      by (inl low) same = ap class_of
          (same_value board (configuration_at board rank) (value_at rank low).0 value (value_at rank low).1 has)
      by (inr above) same = absurd (omega arith)

  occurs_below : (rank value : ℕ) → rank < configurations board
      → HasValue board (configuration_at board rank) (Finite value) → value < lines
  occurs_below rank value below has =
      (is.counted.to_greatest value).1
      (value, omega arith, (configuration_at board rank, configuration_at_is board rank below, has))

  class_below : (rank : ℕ) → rank < configurations board → class rank < suc lines
  class_below rank below = let found = value_at rank below in by found.0 found.1
    where
      by : (value : Value) → HasValue board (configuration_at board rank) value → class rank < suc lines
      by (Finite value) has = let low = occurs_below rank value below has in let same =
          class_is rank (Finite value) below has in omega (arith, low, same)
      by Forever has = let same = class_is rank Forever below has in omega (arith, same)

  -- the configurations of a value are those of its class
  in_class : (value : Value)
      → ((other : Value) (rank : ℕ) → rank < configurations board → HasValue board (configuration_at board rank) other
      → class_of other ≡ class_of value → other ≡ value)
      → (rank : ℕ)
      → ((rank < configurations board) × HasValue board (configuration_at board rank) value)
      ↔ ((rank < configurations board) × (class rank == class_of value ≡ true))
  in_class value apart rank = (
    λ has. (has.0, same_is (class rank) (class_of value) (class_is rank value has.0 has.1)),
    λ is_in.
        let found = value_at rank is_in.0 in
        let same : class_of found.0 ≡ class_of value =
        sym (class_is rank found.0 is_in.0 found.1) ∙ eqb-true (class rank) (class_of value) is_in.1 in (
          is_in.0,
          subst (HasValue board (configuration_at board rank))
              (apart found.0 rank is_in.0 found.1 same) found.1,
        ),
  )

  finite_apart : (value : ℕ) → value < lines → (other : Value) (rank : ℕ) → rank < configurations board
      → HasValue board (configuration_at board rank) other
      → class_of other ≡ value → other ≡ Finite value
  finite_apart value low (Finite number) rank below has same = ap Finite same
  finite_apart value low Forever rank below has same = absurd (omega (arith, same, low))

  forever_apart : (other : Value) (rank : ℕ) → rank < configurations board
      → HasValue board (configuration_at board rank) other → class_of other ≡ lines → other ≡ Forever
  forever_apart (Finite number) rank below has same =
      absurd (let low = occurs_below rank number below has in omega (arith, same, low))
  forever_apart Forever rank below has same = refl

  count_is : (value : Value) (count : ℕ)
      → ((other : Value) (rank : ℕ) → rank < configurations board → HasValue board (configuration_at board rank) other
      → class_of other ≡ class_of value → other ≡ value)
      → HasValueCount board value count → count ≡ count_below (configurations board) (λ rank. class rank == class_of
      value)
  count_is value count apart has =
      same_size (λ rank. (rank < configurations board) × HasValue board (configuration_at board rank) value) count
      (count_below (configurations board) (λ rank. class rank == class_of value)) has
      (subst (HasSize (λ rank. (rank < configurations board) × HasValue board (configuration_at board rank) value))
      (count-same (λ rank. class rank == class_of value) (configurations board))
      (size_of (λ rank. (rank < configurations board) × HasValue board (configuration_at board rank) value)
      (λ rank. class rank == class_of value) (configurations board) (in_class value apart)))

  pub adds_up : sum report.counts + report.forever ≡ configurations board
  adds_up =
      let g : ℕ → ℕ = λ j. count_below (configurations board) (λ rank. class rank == j) in
      let finite : total lines (slice_index report.counts) ≡ total lines g =
      total_same lines (slice_index report.counts) g
      (λ value low. count_is (Finite value) (slice_index report.counts value) (finite_apart value low)
      (is.counted.each value low)) in
      let forever : report.forever ≡ g lines = count_is Forever report.forever forever_apart is.counted.unending in
      let whole : total (suc lines) g ≡ configurations board =
      all_classes class (suc lines) (configurations board) class_below in
      let last = total_last lines g in
      let sums = sum_is_total report.counts in
      omega (arith, finite, forever, whole, last, sums)
