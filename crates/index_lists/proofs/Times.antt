-- The number of times that a node is in a list.
use Rattle.std.proofs.Common.{◌≡◌, ◌≢◌, ℕ, ◌+◌, ◌<◌, ◌≤◌, ◌==◌, inl, inr, true, false, cond, zero, suc, List, [], ◌∷◌}
use Rattle.std.proofs.Common.{◌++◌, length, refl, sym, ap, ◌∙◌, arith}
use Rattle.std.proofs.lemmas.Bool.{cases_eq}
use Rattle.std.proofs.lemmas.Bool.Decides.{nat_tests}
use Rattle.index_lists.specs.Lists.{times, without_node}

pub same_is : (m n : ℕ) → m ≡ n → m == n ≡ true
same_is m n e = grind (arith, nat_tests)

pub differ_is : (m n : ℕ) → m ≢ n → m == n ≡ false
differ_is m n e = grind (arith, nat_tests)

pub cond_same : {A : Type 0} (m n : ℕ) (a b : A) → m ≡ n → cond (m == n) a b ≡ a
cond_same m n a b e = rw (same_is m n e) refl

pub cond_other : {A : Type 0} (m n : ℕ) (a b : A) → m ≢ n → cond (m == n) a b ≡ b
cond_other m n a b e = rw (differ_is m n e) refl

pub times-here : (x y : ℕ) (xs : List ℕ) → x ≡ y → 0 < times y (x ∷ xs)
times-here x y xs e = rw (same_is x y e) (omega arith)

pub times-more : (x y : ℕ) (xs : List ℕ) → 0 < times y xs → 0 < times y (x ∷ xs)
times-more x y xs h = omega arith

pub times-later : (x y : ℕ) (xs : List ℕ) → x ≢ y → times y (x ∷ xs) ≡ times y xs
times-later x y xs ne = rw (differ_is x y ne) (omega arith)

pub times-rest : (x y : ℕ) (xs : List ℕ) → x ≢ y → 0 < times y (x ∷ xs) → 0 < times y xs
times-rest x y xs ne h = let e = times-later x y xs ne in omega arith

pub times-append : (x : ℕ) (xs ys : List ℕ) → times x (xs ++ ys) ≡ times x xs + times x ys
times-append x [] ys = omega arith
times-append x (z ∷ xs) ys = let rest = times-append x xs ys in omega arith

pub times-without_same : (node : ℕ) (xs : List ℕ) → times node (without_node node xs) ≡ 0
times-without_same node [] = refl
times-without_same node (x ∷ xs) = elim (cases_eq x node) [
  | inl e ↦ rw (same_is x node e) (times-without_same node xs)
  | inr ne ↦ rw (differ_is x node ne)
      (let rest = times-without_same node xs in let here = differ_is x node ne in rw here (omega arith))
]

pub times-without_other : (node x : ℕ) (xs : List ℕ) → x ≢ node → times x (without_node node xs) ≡ times x xs
times-without_other node x [] ne = refl
times-without_other node x (z ∷ xs) ne = elim (cases_eq z node) [
  | inl e ↦ (let other : z ≢ x = λ d. ne (sym d ∙ e) in
      rw (same_is z node e) (times-without_other node x xs ne ∙ sym (times-later z x xs other)))
  | inr d ↦ rw (differ_is z node d) (ap (λ n. cond (z == x) 1 0 + n) (times-without_other node x xs ne))
]

pub without-absent : (node : ℕ) (xs : List ℕ) → times node xs ≡ 0 → without_node node xs ≡ xs
without-absent node [] h = refl
without-absent node (x ∷ xs) h = elim (cases_eq x node) [
  | inl e ↦ absurd (let here = times-here x node xs e in omega arith)
  | inr d ↦ rw (differ_is x node d) (ap (λ ys. x ∷ ys) (without-absent node xs (omega arith)))
]

pub length-without : (node : ℕ) (xs : List ℕ) → length (without_node node xs) + times node xs ≡ length xs
length-without node [] = refl
length-without node (x ∷ xs) = elim (cases_eq x node) [
  | inl e ↦ rw (same_is x node e) (let rest = length-without node xs in omega arith)
  | inr d ↦ rw (differ_is x node d) (let rest = length-without node xs in omega arith)
]

-- a list of distinct numbers below n has n elements at most
pub distinct-length : (n : ℕ) (xs : List ℕ) → ((x : ℕ) → times x xs ≤ 1) → ((x : ℕ) → n ≤ x → times x xs ≡ 0)
    → length xs ≤ n
distinct-length zero [] once below = omega arith
distinct-length zero (x ∷ xs) once below =
    absurd (let here = times-here x x xs refl in let not_here = below x (omega arith) in omega arith)
distinct-length (suc n) xs once below =
    let ys = without_node n xs in
    let less = length-without n xs in
    let top = once n in
    let once_ys = λ (x : ℕ). elim (cases_eq x n) as (λ _. times x ys ≤ 1) [
      | inl e ↦ (let z = times-without_same n xs in rw e (omega arith))
      | inr ne ↦ (let z = times-without_other n x xs ne in let o = once x in omega arith)
    ] in
    let below_ys = λ (x : ℕ) (h : n ≤ x). elim (cases_eq x n) as (λ _. times x ys ≡ 0) [
      | inl e ↦ rw e (times-without_same n xs)
      | inr ne ↦ times-without_other n x xs ne ∙ below x (omega arith)
    ] in
    let rest = distinct-length n ys once_ys below_ys in
    omega arith
