-- A set of numbers that keeps the order in which they were reached.
use Rattle.std.proofs.Common.{◌≢◌, ◌↔◌, ◌≤◌, IsTrue, ℕ, inl, inr, cond, List, [], ◌∷◌, ◌++◌, get_or, ap, arith}
use Rattle.std.specs.List.{AllPairs, Contains, IsDistinct}
use Rattle.std.specs.List.Sorted.{IsPermutation, IsSorted}
use Rattle.std.specs.Ordering.{nat_cmp}
use Rattle.std.specs.Set.{is_member}
use Rattle.std.proofs.Math.Dec.{eqb}
use Rattle.std.proofs.lemmas.Bool.{cases_Bool}
use Rattle.std.proofs.lemmas.Bool.Decides.{Decides-eqb, not_from_Decides}
use Rattle.std.proofs.lemmas.Cmp.{nat_eq_equiv}
use Rattle.std.proofs.lemmas.List.Sorted.{Contains-permutation, IsPermutation-sym, IsNonDecreasingBy-from_sort}
use Rattle.std.proofs.lemmas.Map.Keys.{IsDistinct-IsPermutation}
use Rattle.std.proofs.lemmas.Map.Made.{AllPairs-from_IsDistinct, is_member-Decides}
use Rattle.indexmap.specs.IndexSet.{insert_key}
use Rattle.strategies.specs.Inside.Reached.{AreInOrder}
use Rattle.strategies.proofs.AddedRanks.{IsWith}

-- no number is there twice
pub still_apart : (numbers : List ℕ) → IsDistinct eqb numbers → AllPairs (λ first second. first ≢ second) numbers
still_apart numbers once = AllPairs-from_IsDistinct {eq = eqb} Decides-eqb numbers once

-- the set's own test tells whether the number is among them
pub tells : (numbers : List ℕ) (number : ℕ) → IsTrue (is_member eqb numbers number) ↔ Contains numbers number
tells numbers number = is_member-Decides {eq = eqb} Decides-eqb numbers number

-- a number that is put in is the last, or was among the others
pub key_added : (numbers : List ℕ) (number : ℕ) → IsWith numbers number (insert_key eqb numbers number)
key_added numbers number =
    let told = tells numbers number in
    let more : List ℕ = numbers ++ number ∷ [] in
    elim (cases_Bool (is_member eqb numbers number)) [
      | inl there ↦ record {
        known = λ among. ap (λ b. cond b numbers more) there;
        other = λ new. absurd (new (told.0 there));
      }
      | inr new ↦ record {
        known = λ among. absurd (not_from_Decides (is_member eqb numbers number) told new among);
        other = λ not. ap (λ b. cond b numbers more) new;
      }
    ]

-- the numbers that are sorted are the same, in ascending order
pub in_order : (numbers ordered : List ℕ) → IsDistinct eqb numbers → IsPermutation numbers ordered
    → IsSorted nat_cmp ordered → AreInOrder (Contains numbers) ordered
in_order numbers ordered once same sorted =
    let apart : AllPairs (λ first second. first ≢ second) ordered =
    still_apart ordered (IsDistinct-IsPermutation eqb nat_eq_equiv.symm numbers ordered same once) in
    let rises = IsNonDecreasingBy-from_sort (λ (n : ℕ). n) ordered sorted in
    record {
      each = λ number. (
        Contains-permutation ordered numbers number (IsPermutation-sym numbers ordered same),
        Contains-permutation numbers ordered number same,
      );
      ascending = λ i j d less inside.
          let most : get_or ordered i d ≤ get_or ordered j d = rises i j d (omega arith) inside in
          let differ : get_or ordered i d ≢ get_or ordered j d = apart i j d less inside in
          omega (arith, most, differ);
    }
