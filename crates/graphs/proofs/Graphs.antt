-- The facts of graphs that only proofs use.
use Rattle.std.proofs.Common.{◌≡◌, ◌≢◌, ℕ, ◌<◌, ◌==◌, ◌&&◌, not, inl, inr, Bool, true, false, suc, arith}
use Rattle.std.proofs.lemmas.Bool.{cases_lt}
use Rattle.std.proofs.lemmas.Bool.Decides.{nat_tests}
use Rattle.graphs.specs.Graph.{PlainGraph, IsGraph, is_member, lasts}
use Rattle.graphs.proofs.Counts.{some_below, count_below-some}

-- the test that fails at c and else gives the result of the test
abbrev pub without : (ℕ → Bool) → ℕ → ℕ → Bool
without above c x = above x && not (x == c)

-- the test holds if r + 1 requests are answered, and fails if r are not
pub record IsBetween (a : PlainGraph) (r : ℕ) (above : ℕ → Bool) : Type 0 where
  pub lower : (y : ℕ) → y < a.configurations → lasts a (suc r) y ≡ true → above y ≡ true
  pub upper : (y : ℕ) → y < a.configurations → above y ≡ true → lasts a r y ≡ true

pub same_is : (m n : ℕ) → m ≡ n → m == n ≡ true
same_is m n e = grind (arith, nat_tests)

pub differ_is : (m n : ℕ) → m ≢ n → m == n ≡ false
differ_is m n e = grind (arith, nat_tests)

some_is : (n : ℕ) → 0 < n → not (n == 0) ≡ true
some_is n h = grind (arith, nat_tests)

is_some : (n : ℕ) → not (n == 0) ≡ true → 0 < n
is_some n e = grind (arith, nat_tests)

test_same : (m n : ℕ) → (m == n) ≡ true → m ≡ n
test_same m n e = grind (arith, nat_tests)

-- a configuration at a place of a gap is its member
pub member-is : (a : PlainGraph) (g v c : ℕ) → v < a.places → a.member g v ≡ c → is_member a g c ≡ true
member-is a g v c i e = some_is _ (count_below-some a.places (λ w. a.member g w == c) v i (same_is (a.member g v) c e))

pub member-at : (a : PlainGraph) (g c : ℕ) → is_member a g c ≡ true → (v : ℕ) × (v < a.places) × (a.member g v ≡ c)
member-at a g c e = let w = some_below a.places (λ v. a.member g v == c) (is_some _ e) in
    (w.0, w.1, test_same (a.member g w.0) c w.2)

-- a gap has each member at one place
pub one-place : (a : PlainGraph) → IsGraph a → (g v w : ℕ) → g < a.gaps → v < a.places → w < a.places
    → a.member g v ≡ a.member g w → v ≡ w
one-place a is g v w i j k e = elim (cases_lt v w) [
  | inl less ↦ absurd (let up = is.ascending g v w i less k in omega arith)
  | inr most ↦ elim (cases_lt w v) [
    | inl less ↦ absurd (let up = is.ascending g w v i less j in omega arith)
    | inr least ↦ omega arith
  ]
]
