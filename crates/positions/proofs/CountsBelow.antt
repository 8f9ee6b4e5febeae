-- The count of the numbers below a bound that pass a test.
use Rattle.std.proofs.Common.{◌≡◌, ℕ, zero, suc, ◌+◌, ◌*◌, ◌%◌, ◌^◌, ◌<◌, ◌≤◌, ◌↔◌, Bool, true, false, cond, nat_eq}
use Rattle.std.proofs.Common.{List, [], ◌∷◌, ◌++◌, length, get_or, Contains, Option, Some, None, refl, sym, ap, ◌∙◌}
use Rattle.std.proofs.Common.{subst, inl, inr, arith}
use Rattle.std.specs.List.{AllPairs}
use Rattle.std.specs.Int.{bit_at}
use Rattle.std.specs.Int.Count.{ones, ones_cat, ones-le, ones-ones}
use Rattle.std.proofs.lemmas.Bool.{cases_eq, both_ways}
use Rattle.std.proofs.lemmas.List.{length_push}
use Rattle.std.proofs.lemmas.List.Elements.{Contains-append_left, Contains-push, Contains-push_cases, Contains-get_or}
use Rattle.std.proofs.lemmas.List.Quantifiers.{all_pairs_push}
use Rattle.std.proofs.lemmas.Nat.{mod-pow-add, mod_below, pow_pos}
use Rattle.std.proofs.lemmas.Nat.Bits.{bit_at-lt}
use Rattle.positions.specs.Counts.{HasSize, IsSmallest}

pub count_below : (ℕ → Bool) → ℕ → ℕ
count_below test zero = 0
count_below test (suc n) = count_below test n + cond (test n) 1 0

-- the numbers below a bound that pass a test, in ascending order; `size` is their count
record AreMembers (test : ℕ → Bool) (bound size : ℕ) (members : List ℕ) : Type 0 where
  so_many : length members ≡ size
  ascending : AllPairs (λ first second. first < second) members
  each : (number : ℕ) → Contains members number ↔ ((number < bound) × (test number ≡ true))

-- ---- the next bound

one_more : (test : ℕ → Bool) (bound size : ℕ) (members : List ℕ) → test bound ≡ true
    → AreMembers test bound size members
    → AreMembers test (suc bound) (size + 1) (members ++ bound ∷ [])
one_more test bound size members passes are = record {
  so_many = let same = are.so_many in omega (arith, length_push members bound);
  ascending = all_pairs_push (λ first second. first < second) members bound are.ascending
      (λ k d inside. ((are.each (get_or members k d)).0 (Contains-get_or members k d inside)).0);
  each = λ number. (
    λ among. elim (Contains-push_cases members bound number among) [
      | inl before ↦ let is = (are.each number).0 before in let low : number < bound = is.0 in (omega arith, is.1)
      | inr same ↦ (omega arith, ap test (sym same) ∙ passes)
    ],
    λ is. elim (cases_eq number bound) [
      | inl same ↦ subst (λ n. Contains (members ++ bound ∷ []) n) (sym same) (Contains-push members bound)
      | inr other ↦ let low : number < suc bound = is.0 in
          Contains-append_left members (bound ∷ []) number ((are.each number).1 (omega arith, is.1))
    ],
  );
}

no_more : (test : ℕ → Bool) (bound size : ℕ) (members : List ℕ) → test bound ≡ false
    → AreMembers test bound size members
    → AreMembers test (suc bound) size members
no_more test bound size members fails are = record {
  so_many = are.so_many;
  ascending = are.ascending;
  each = λ number. (
    λ among. let is = (are.each number).0 among in let low : number < bound = is.0 in (omega arith, is.1),
    λ is. elim (cases_eq number bound) [
      | inl same ↦ absurd (both_ways (test bound) fails (ap test (sym same) ∙ is.1))
      | inr other ↦ let low : number < suc bound = is.0 in (are.each number).1 (omega arith, is.1)
    ],
  );
}

some_members : (test : ℕ → Bool) (bound : ℕ)
    → (members : List ℕ) × AreMembers test bound (count_below test bound) members
unfolding count_below
some_members test zero = (
  [],
  record {
    so_many = refl;
    ascending = λ i j d less inside. absurd (omega arith);
    each = λ number. (
      λ among. let inside : among.0 < 0 = among.1 in absurd (omega arith),
      λ is. let low : number < 0 =
          is.0 in absurd (omega arith),
    );
  },
)
some_members test (suc bound) = by (test bound) refl (some_members test bound)
  where
    by : (passes : Bool) → test bound ≡ passes
        → (members : List ℕ) × AreMembers test bound (count_below test bound) members
        → (members : List ℕ) × AreMembers test (suc bound) (count_below test bound + cond passes 1 0) members
    by true passes before =
        (before.0 ++ bound ∷ [], one_more test bound (count_below test bound) before.0 passes before.1)
    by false fails before = (
      before.0,
      subst (λ n. AreMembers test (suc bound) n before.0) (omega arith)
          (no_more test bound (count_below test bound) before.0 fails before.1),
    )

-- a fact holds of as many numbers as pass a test that says it
pub size_of : (P : ℕ → Type 0) (test : ℕ → Bool) (bound : ℕ)
    → ((number : ℕ) → P number ↔ ((number < bound) × (test number ≡ true))) → HasSize P (count_below test bound)
size_of P test bound says =
    let some = some_members test bound in record {
      members = some.0;
      ascending = some.1.ascending;
      each = λ number. (
        λ among. (says number).1 ((some.1.each number).0 among),
        λ holds. (some.1.each number).1 ((says number).0 holds),
      );
      so_many = some.1.so_many;
    }

-- ---- counts

pub count_below-zero : (test : ℕ → Bool) → count_below test 0 ≡ 0
unfolding count_below
count_below-zero test = refl

pub count_below-suc : (test : ℕ → Bool) (bound : ℕ)
    → count_below test (suc bound) ≡ count_below test bound + cond (test bound) 1 0
unfolding count_below
count_below-suc test bound = refl

pub count_below-same : (first second : ℕ → Bool) (bound : ℕ)
    → ((number : ℕ) → number < bound → first number ≡ second number)
    → count_below first bound ≡ count_below second bound
unfolding count_below
count_below-same first second zero same = refl
count_below-same first second (suc bound) same =
    ap (λ n. n + cond (first bound) 1 0) (count_below-same first second bound (λ number low. same number (omega arith)))
    ∙ ap (λ b. count_below second bound + cond b 1 0) (same bound (omega arith))

pub count_below-add : (test : ℕ → Bool) (low high : ℕ)
    → count_below test (low + high) ≡ count_below test low + count_below (λ number. test (low + number)) high
unfolding count_below
count_below-add test low zero = let none : low + 0 ≡ low = omega arith in ap (count_below test) none ∙ omega arith
count_below-add test low (suc high) =
    let rest : count_below test (low + high) ≡ count_below test low + count_below (λ number. test (low + number)) high =
    count_below-add test low high in
    let next : low + suc high ≡ suc (low + high) = omega arith in
    ap (count_below test) next
    ∙ ap (λ n. n + cond (test (low + high)) 1 0) rest
    ∙ omega arith

pub count_below-le : (test : ℕ → Bool) (bound : ℕ) → count_below test bound ≤ bound
unfolding count_below
count_below-le test zero = omega arith
count_below-le test (suc bound) =
    let rest : count_below test bound ≤ bound = count_below-le test bound in
    elim (test bound) as (λ b. count_below test bound + cond b 1 0 ≤ suc bound) [
      | true ↦ omega arith
      | false ↦
          omega arith
    ]

-- ---- the bits of a word

one_bit : (bit : ℕ) → bit < 2 → ones bit ≡ cond (nat_eq bit 1) 1 0
one_bit zero low = let few : ones 0 ≤ 0 = ones-le 0 0 (omega arith) in omega arith
one_bit (suc zero) low = ones-ones 1
one_bit (suc (suc bit)) low = absurd (omega arith)

-- the bits below a place are those of the remainder
ones_below : (word bits : ℕ) → count_below (λ i. nat_eq (bit_at word i) 1) bits ≡ ones (word % 2 ^ bits)
unfolding count_below
ones_below word zero =
    let few : ones (word % 2 ^ 0) ≤ 0 = ones-le 0 (word % 2 ^ 0) (mod_below word (2 ^ 0) (omega arith)) in omega arith
ones_below word (suc bits) =
    let bit : ℕ = bit_at word bits in
    let low : ℕ = word % 2 ^ bits in
    let next : suc bits ≡ 1 + bits = omega arith in
    let split : word % 2 ^ suc bits ≡ bit * 2 ^ bits + low = ap (λ n. word % 2 ^ n) next ∙ mod-pow-add word 1 bits in
    let apart : ones (bit * 2 ^ bits + low) ≡ ones bit + ones low =
    ones_cat bits bit low (mod_below word (2 ^ bits) (pow_pos bits)) in
    let rest : count_below (λ i. nat_eq (bit_at word i) 1) bits ≡ ones low = ones_below word bits in
    let here : ones bit ≡ cond (nat_eq bit 1) 1 0 = one_bit bit (bit_at-lt word bits) in
    ap (λ n. n + cond (nat_eq bit 1) 1 0) rest ∙ ap (λ n. ones low + n) (sym here) ∙ omega (arith, apart, ap ones split)

pub count_ones-is : (word : ℕ) → word < 2 ^ 64 → count_below (λ i. nat_eq (bit_at word i) 1) 64 ≡ ones word
count_ones-is word small =
    let same : word % 2 ^ 64 ≡ word = omega arith in
    ones_below word 64 ∙ ap ones same

-- ---- smallest numbers

pub smallest_of : (P Q : ℕ → Type 0) (found : Option ℕ) → ((number : ℕ) → P number ↔ Q number) → IsSmallest P found
    → IsSmallest Q found
smallest_of P Q None same none = λ number holds. none number ((same number).1 holds)
smallest_of P Q (Some number) same is = ((same number).0 is.0, λ other holds. is.1 other ((same other).1 holds))
