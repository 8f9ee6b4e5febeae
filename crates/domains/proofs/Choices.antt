-- A number by cases.
use Rattle.std.proofs.Common.{ℕ, ◌⊎◌, inl, inr}

abbrev pub one_or : {A B : Type 0} → A ⊎ B → ℕ → ℕ → ℕ
one_or (inl is) first second = first
one_or (inr not) first second = second

pub of_one_or : {A B : Type 0} (P : ℕ → Type 0) (cases : A ⊎ B) (first second : ℕ)
    → (A → P first) → (B → P second) → P (one_or cases first second)
of_one_or P (inl is) first second if_one if_other = if_one is
of_one_or P (inr not) first second if_one if_other = if_other not
