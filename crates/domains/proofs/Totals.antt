-- Sums over the numbers below a bound, and the pairs of numbers of which none goes both ways.
use Rattle.std.proofs.Common.{◌≡◌, ℕ, zero, suc, ◌+◌, ◌*◌, ◌<◌, ◌≤◌, ◌⊎◌, sym, subst, arith, inl, inr}
use Rattle.std.proofs.lemmas.Bool.{cases_lt}
use Rattle.std.proofs.lemmas.Nat.{mul-le}

-- the sum of a function at the numbers below a bound
abbrev pub total : (ℕ → ℕ) → ℕ → ℕ
total f zero = 0
total f (suc n) = total f n + f n

pub total_le : (f g : ℕ → ℕ) (n : ℕ) → ((i : ℕ) → i < n → f i ≤ g i) → total f n ≤ total g n
total_le f g zero less = omega arith
total_le f g (suc n) less =
    let rest : total f n ≤ total g n = total_le f g n (λ i low. less i (omega (arith, low))) in
    let here : f n ≤ g n = less n (omega arith) in
    omega (arith, rest, here)

total_sum : (f g : ℕ → ℕ) (n : ℕ) → total (λ i. f i + g i) n ≡ total f n + total g n
total_sum f g zero = omega arith
total_sum f g (suc n) =
    let rest : total (λ i. f i + g i) n ≡ total f n + total g n = total_sum f g n in
    omega (arith, rest)

total_times : (d : ℕ) (f : ℕ → ℕ) (n : ℕ) → total (λ i. d * f i) n ≡ d * total f n
total_times d f zero = omega arith
total_times d f (suc n) =
    let rest : total (λ i. d * f i) n ≡ d * total f n = total_times d f n in
    omega (arith, rest)

total_none : (n : ℕ) → total (λ i. 0) n ≡ 0
total_none zero = omega arith
total_none (suc n) =
    let rest : total (λ i. 0) n ≡ 0 = total_none n in
    omega (arith, rest)

pub total_ones : (n : ℕ) → total (λ i. 1) n ≡ n
total_ones zero = omega arith
total_ones (suc n) =
    let rest : total (λ i. 1) n ≡ n = total_ones n in
    omega (arith, rest)

pub total_has : (f : ℕ → ℕ) (n i : ℕ) → i < n → f i ≤ total f n
total_has f zero i low = absurd (omega (arith, low))
total_has f (suc n) i low =
    elim (cases_lt i n) [
      | inl before ↦
          let rest : f i ≤ total f n = total_has f n i before in
          omega (arith, rest)
      | inr not ↦
          let is : n ≡ i = omega (arith, low, not) in
          subst (λ j. f j ≤ total f n + f n) is (omega arith)
    ]

-- ---- pairs

-- numbers that weigh one or nothing, and pairs of those that weigh, of which none goes both ways
pub record AreOneWay (weight : ℕ → ℕ) (pair : ℕ → ℕ → ℕ) : Type 0 where
  pub unit : (x : ℕ) → weight x ≤ 1
  pub itself : (x : ℕ) → pair x x ≡ 0
  pub either : (x y : ℕ) → pair x y + pair y x ≤ weight y

-- the square of the next number has room for twice as many pairs more as there are numbers
grown : (old new more size next : ℕ) → 2 * old + size ≤ size * size → more ≤ size → next ≡ size + 1
    → new ≡ old + more → 2 * new + next ≤ next * next
grown old new more size next few more_few next_is new_is =
    let there : 2 * new + (size + 1) ≤ (size + 1) * (size + 1) = omega (arith, few, more_few, new_is) in
    subst (λ n. 2 * new + n ≤ n * n) (sym next_is) there

module _ (weight : ℕ → ℕ) (pair : ℕ → ℕ → ℕ) (one_way : AreOneWay weight pair) where
  -- the pairs of a number with those before it
  with_last : (n : ℕ)
      → ((weight n ≡ 1) × (total (λ v. pair n v) n + total (λ u. pair u n) n ≤ total weight n))
      ⊎ ((weight n ≡ 0) × (total (λ v. pair n v) n + total (λ u. pair u n) n ≡ 0))
  with_last n =
      let sum : total (λ i. pair n i + pair i n) n ≡ total (λ v. pair n v) n + total (λ u. pair u n) n
      = total_sum (λ v. pair n v) (λ u. pair u n) n in
      let unit : weight n ≤ 1 = one_way.unit n in
      elim (cases_lt 0 (weight n)) [
        | inl some ↦
            let few : total (λ i. pair n i + pair i n) n ≤ total weight n
            = total_le (λ i. pair n i + pair i n) weight n (λ i _. one_way.either n i) in
            inl (omega (arith, some, unit), omega (arith, sum, few))
        | inr none ↦
            let few : total (λ i. pair n i + pair i n) n ≤ total (λ i. 0) n
            = total_le (λ i. pair n i + pair i n) (λ i. 0) n (λ i _.
            let most : pair i n + pair n i ≤ weight n = one_way.either i n in omega (arith, most, none)) in
            let zero_is : total (λ i. 0) n ≡ 0 = total_none n in
            inr (omega (arith, none), omega (arith, sum, few, zero_is))
      ]

  -- the pairs among the numbers below a bound
  abbrev pairs : ℕ → ℕ
  pairs n = total (λ v. total (λ u. pair u v) n) n

  few_pairs : (n : ℕ) → 2 * pairs n + total weight n ≤ total weight n * total weight n
  few_pairs zero = omega arith
  few_pairs (suc n) =
      let split : total (λ v. total (λ u. pair u v) n + pair n v) n ≡ pairs n + total (λ v. pair n v) n
      = total_sum (λ v. total (λ u. pair u v) n) (λ v. pair n v) n in
      let more : ℕ = total (λ v. pair n v) n + total (λ u. pair u n) n in
      let itself : pair n n ≡ 0 = one_way.itself n in
      let grows : pairs (suc n) ≡ pairs n + more = omega (arith, split, itself) in
      elim (with_last n) [
        | inl one ↦ grown (pairs n) (pairs (suc n)) more (total weight n) (total weight (suc n)) (few_pairs n) one.1
            (omega (arith, one.0)) grows
        | inr none ↦
            let size : total weight n ≡ total weight (suc n) = omega (arith, none.0) in
            let same : pairs n ≡ pairs (suc n) = omega (arith, grows, none.1) in
            subst (λ m. 2 * pairs (suc n) + m ≤ m * m) size
            (subst (λ p. 2 * p + total weight n ≤ total weight n * total weight n) same (few_pairs n))
      ]

  -- if each number that weighs has this many pairs to it, and one weighs, then more than twice as many weigh
  pub many_weigh : (n d : ℕ) → ((v : ℕ) → v < n → d * weight v ≤ total (λ u. pair u v) n) → 0 < total weight n
      → 2 * d < total weight n
  many_weigh n d each some =
      let size : ℕ = total weight n in
      let low : total (λ v. d * weight v) n ≤ pairs n
      = total_le (λ v. d * weight v) (λ v. total (λ u. pair u v) n) n each in
      let times : total (λ v. d * weight v) n ≡ d * total weight n = total_times d weight n in
      let high : 2 * pairs n + total weight n ≤ total weight n * total weight n = few_pairs n in
      elim (cases_lt (2 * d) (total weight n)) [
        | inl more ↦ more
        | inr less ↦
            let square : total weight n * total weight n ≤ (2 * d) * total weight n
            = mul-le (total weight n) (total weight n) (2 * d) (total weight n) less (omega arith) in
            absurd (omega (arith, low, times, high, square, some))
      ]
