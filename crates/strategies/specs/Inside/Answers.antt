-- A best answer as two numbers: its label, and how many requests can be answered if it is the first
-- answer.
use Rattle.std.specs.Prelude.{◌≡◌, ◌⊎◌, ℕ, zero, suc, ◌≤◌, nat_lt, if◌then◌else◌, Option, Some}
use Rattle.std.specs.Prelude.{None}
use Rattle.std.proofs.Common.{◌<◌, inl, inr, refl, sym, ap, ◌∙◌, lt-ltb, le-ltb, arith}
use Rattle.std.proofs.lemmas.Bool.{cases_lt}
use Rattle.positions.specs.declared.value.Value.{Value}
use Rattle.positions.specs.declared.value.Value.TheVariants.{Finite, Forever}
use Rattle.gap_values.specs.declared.value_table.Best.{Best}
use Rattle.strategies.specs.Best.{IsLess}
use Rattle.strategies.specs.declared.answer.TheConstants.{ENDLESS}

-- the value of a configuration at which this number of requests can be answered
abbrev pub value_with : ℕ → Value
value_with requests = if nat_lt requests ENDLESS then Finite requests else Forever

-- the value after the first of them, with this number before it
abbrev pub value_after : ℕ → Value
value_after number = if nat_lt (suc number) ENDLESS then Finite number else Forever

-- the best answer, if there is one
abbrev pub best_with : ℕ → ℕ → Option Best
best_with label zero = None
best_with label (suc number) = Some (record { label = label; value = value_after number })

-- the label of a best answer, and 0 without one
abbrev pub label_of : Option Best → ℕ
label_of (Some best) = best.label
label_of None = 0

-- the requests that can be answered, if the first answer leads to this value
abbrev pub requests_before : Value → ℕ
requests_before (Finite number) = suc number
requests_before Forever = ENDLESS

-- the same for a best answer, and 0 without one
abbrev pub requests_of : Option Best → ℕ
requests_of (Some best) = requests_before best.value
requests_of None = 0

-- the second value if it is less than the first, which it is else
abbrev pub IsLesser : Value → Value → Value → Type 0
IsLesser first second lesser = ((lesser ≡ second) × IsLess second first)
    ⊎ ((lesser ≡ first) × ¬ IsLess second first)

-- a number of 32 bits, and the label 0 without an answer
pub record IsAnswerInNumbers (label requests : ℕ) : Type 0 where
  pub few : requests ≤ ENDLESS
  pub no_label : requests ≡ 0 → label ≡ 0

-- ---- the two numbers are those of the best answer

pub low-after : (number : ℕ) → suc number < ENDLESS → value_after number ≡ Finite number
low-after number low =
    ap (λ b. if b then Finite number else Forever) (lt-ltb (suc number) ENDLESS low)

pub high-after : (number : ℕ) → ENDLESS ≤ suc number → value_after number ≡ Forever
high-after number high =
    ap (λ b. if b then Finite number else Forever) (le-ltb (suc number) ENDLESS high)

pub same_label : (label requests : ℕ) → IsAnswerInNumbers label requests
    → label_of (best_with label requests) ≡ label
same_label label zero is = sym (is.no_label refl)
same_label label (suc number) is = refl

pub same_requests : (label requests : ℕ) → IsAnswerInNumbers label requests
    → requests_of (best_with label requests) ≡ requests
same_requests label zero is = refl
same_requests label (suc number) is = elim (cases_lt (suc number) ENDLESS) [
  | inl low ↦ ap requests_before (low-after number low)
  | inr high ↦
      let most : suc number ≤ ENDLESS = is.few in
      let same : ENDLESS ≡ suc number = omega arith in
      ap requests_before (high-after number high) ∙ same
]
