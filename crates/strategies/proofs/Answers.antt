-- A best answer as two numbers.
use Rattle.std.proofs.Common.{◌≡◌, ℕ, zero, suc, ◌<◌, ◌≤◌, if◌then◌else◌, inl, inr, sym, ap, ◌∙◌, subst, lt-ltb, le-ltb}
use Rattle.std.proofs.Common.{arith}
use Rattle.std.proofs.lemmas.Bool.{cases_lt}
use Rattle.positions.specs.declared.value.Value.TheVariants.{Finite, Forever}
use Rattle.strategies.specs.Best.{IsLess}
use Rattle.strategies.specs.Inside.Answers.{best_with, high-after, low-after, value_with}
use Rattle.strategies.specs.Inside.RankMoves.{answered_with, one_more}

pub low-value : (requests : ℕ) → requests < 4294967295 → value_with requests ≡ Finite requests
low-value requests low = ap (λ b. if b then Finite requests else Forever) (lt-ltb requests 4294967295 low)

pub high-value : (requests : ℕ) → 4294967295 ≤ requests → value_with requests ≡ Forever
high-value requests high = ap (λ b. if b then Finite requests else Forever) (le-ltb requests 4294967295 high)

-- the number of requests stands for the value that the answer leaves
pub answered : (label requests : ℕ) → value_with requests ≡ answered_with (best_with label requests)
answered label zero = low-value 0 (omega arith)
answered label (suc number) = elim (cases_lt (suc number) 4294967295) [
  | inl low ↦ low-value (suc number) low ∙ sym (ap one_more (low-after number low))
  | inr high ↦ high-value (suc number) high ∙ sym (ap one_more (high-after number high))
]

-- ---- the order of numbers is that of the values for which they stand

pub less-with : (one other : ℕ) → other ≤ 4294967295 → one < other → IsLess (value_with one) (value_with other)
less-with one other few less =
    subst (λ v. IsLess v (value_with other)) (sym (low-value one (omega (arith, few, less))))
    (elim (cases_lt other 4294967295) [
      | inl low ↦ subst (IsLess (Finite one)) (sym (low-value other low)) less
      | inr high ↦ subst (IsLess (Finite one)) (sym (high-value other high)) tt
    ])

pub not-less-with : (one other : ℕ) → other ≤ one → ¬ IsLess (value_with one) (value_with other)
not-less-with one other most less = elim (cases_lt one 4294967295) [
  | inl low ↦
      let lower : other < 4294967295 = omega (arith, most, low) in
      let finite : IsLess (Finite one) (Finite other) =
      subst (λ v. IsLess v (Finite other)) (low-value one low)
      (subst (IsLess (value_with one)) (low-value other lower) less) in
      absurd (omega (arith, finite, most))
  | inr high ↦ subst (λ v. IsLess v (value_with other)) (high-value one high) less
]
