-- Sums over the list of seats when one seat changes, and the entries of all seats together.
use Rattle.std.proofs.Common.{◌≡◌, ◌≢◌, ℕ, zero, suc, ◌+◌, ◌≤◌, List, [], ◌∷◌, ◌++◌, take, drop, set, refl, ap, subst}
use Rattle.std.proofs.Common.{◌∙◌, arith, Some, slice_get}
use Rattle.std.specs.List.{flat_map, sum_by}
use Rattle.std.proofs.lemmas.List.Sums.{sum_by-cons, sum_by_push, sum_by-set, get_or-le-sum_by}
use Rattle.std.proofs.lemmas.Option.{slice_get_within, get_or_from_slice_get}
use Rattle.index_lists.specs.Lists.{times}
use Rattle.index_lists.proofs.Cited.{times-append}
use Rattle.retro_core.specs.Round.{PlainSeat}
use Rattle.solver.specs.Striking.{tally}

module _ {X : Type 0} where
  pub total-set : (f : X → ℕ) (xs : List X) (i : ℕ) (v w : X) → slice_get xs i ≡ Some v
      → sum_by f (set xs i w) + f v ≡ sum_by f xs + f w
  total-set f xs i v w e =
      subst (λ (u : X). sum_by f (set xs i w) + f u ≡ sum_by f xs + f w) (get_or_from_slice_get xs i v v e)
      (sum_by-set f xs i w v (slice_get_within xs i v e))

  -- the part of one element is at most the sum
  pub total-at : (f : X → ℕ) (xs : List X) (i : ℕ) (v : X) → slice_get xs i ≡ Some v → f v ≤ sum_by f xs
  total-at f xs i v e = subst (λ (u : X). f u ≤ sum_by f xs) (get_or_from_slice_get xs i v v e)
      (get_or-le-sum_by f xs i v (slice_get_within xs i v e))

  pub total-sum : (f h : X → ℕ) (xs : List X) → sum_by (λ x. f x + h x) xs ≡ sum_by f xs + sum_by h xs
  total-sum f h [] = refl
  total-sum f h (x ∷ xs) =
      let r = total-sum f h xs in
      omega (arith, r, sum_by-cons (λ y. f y + h y) x xs, sum_by-cons f x xs, sum_by-cons h x xs)

  -- a change of one element leaves the others
  pub get-elsewhere : (xs : List X) (id other : ℕ) (a : X) → id ≢ other
      → slice_get (set xs id a) other ≡ slice_get xs other
  get-elsewhere [] id other a ne = refl
  get-elsewhere (x ∷ xs) zero zero a ne = absurd (ne refl)
  get-elsewhere (x ∷ xs) zero (suc other) a ne = refl
  get-elsewhere (x ∷ xs) (suc id) zero a ne = refl
  get-elsewhere (x ∷ xs) (suc id) (suc other) a ne = get-elsewhere xs id other a (λ e. ne (ap suc e))

  -- a sum stays the same if one element is cut in two
  pub total-cut : (f : X → ℕ) (xs : List X) (id : ℕ) (v a b : X) → slice_get xs id ≡ Some v → f a + f b ≡ f v
      → sum_by f (set xs id a ++ b ∷ []) ≡ sum_by f xs
  total-cut f xs id v a b at e = omega (arith, e, total-set f xs id v a at, sum_by_push f (set xs id a) b)

  -- a sum stays the same if two elements together give as much as before
  pub total-glue : (f : X → ℕ) (xs : List X) (id other : ℕ) (v u a b : X) → slice_get xs id ≡ Some v
      → slice_get xs other ≡ Some u → id ≢ other
      → f a + f b ≡ f v + f u → sum_by f (set (set xs id a) other b) ≡ sum_by f xs
  total-glue f xs id other v u a b at there ne e =
      omega (
        arith,
        e,
        total-set f xs id v a at,
        total-set f (set xs id a) other u b (get-elsewhere xs id other a ne ∙ there),
      )

pub times-cut : (x n : ℕ) (xs : List ℕ) → times x (take n xs) + times x (drop n xs) ≡ times x xs
times-cut x zero xs = omega arith
times-cut x (suc n) [] = refl
times-cut x (suc n) (y ∷ xs) = let r = times-cut x n xs in omega arith

pub tally-append : (home : ℕ → ℕ) (g : ℕ) (xs ys : List ℕ) → tally home g (xs ++ ys) ≡ tally home g xs + tally home g ys
tally-append home g [] ys = omega arith
tally-append home g (y ∷ xs) ys = let r = tally-append home g xs ys in omega arith

pub tally-cut : (home : ℕ → ℕ) (g n : ℕ) (xs : List ℕ)
    → tally home g (take n xs) + tally home g (drop n xs) ≡ tally home g xs
tally-cut home g zero xs = omega arith
tally-cut home g (suc n) [] = refl
tally-cut home g (suc n) (y ∷ xs) = let r = tally-cut home g n xs in omega arith

-- the entries of lists one after the other are summed over the lists
pub times-together : (x : ℕ) (list : PlainSeat → List ℕ) (seats : List PlainSeat)
    → times x (flat_map list seats) ≡ sum_by (λ v. times x (list v)) seats
times-together x list [] = refl
times-together x list (v ∷ seats) =
    omega (
      arith,
      times-together x list seats,
      times-append x (list v) (flat_map list seats),
      sum_by-cons (λ v. times x (list v)) v seats,
    )

pub tally-together : (home : ℕ → ℕ) (g : ℕ) (list : PlainSeat → List ℕ) (seats : List PlainSeat)
    → tally home g (flat_map list seats) ≡ sum_by (λ v. tally home g (list v)) seats
tally-together home g list [] = refl
tally-together home g list (v ∷ seats) =
    omega (
      arith,
      tally-together home g list seats,
      tally-append home g (list v) (flat_map list seats),
      sum_by-cons (λ v. tally home g (list v)) v seats,
    )
