-- Sums over the views, also after one view changes.
use Rattle.std.proofs.Common.{◌≡◌, ◌≢◌, ℕ, zero, suc, ◌+◌, ◌<◌, ◌≤◌, List, [], ◌∷◌, ◌++◌, set, get_or, refl, sym, ap}
use Rattle.std.proofs.Common.{subst, arith}
use Rattle.std.specs.Prelude.{Some, slice_get}
use Rattle.std.specs.List.{All, flat_map, sum_by}
use Rattle.std.proofs.lemmas.Option.{get_or_from_slice_get, slice_get_within}
use Rattle.std.proofs.lemmas.List.Sums.{sum_by-cons}
use mathlib.Core.Option.{some, some-ne-none, some-injective}
use lib.ListN.{get_elem?}
use Rattle.index_lists.specs.Lists.{times}
use Rattle.index_lists.proofs.Cited.{times-append}
use Rattle.retro_core.specs.Round.{PlainSeat, spent_seat}
use Rattle.retro_core.proofs.Cited.{total-at, total-cut, total-set}
use Rattle.claim_round.specs.Shared.{Key, View}
use Rattle.claim_round.specs.History.{seats_of}
use Rattle.claim_round.specs.Rule.{KnowsRound}

-- a view in the table is in the list
seen : (views : List View) (i : ℕ) (v : View) → get_elem? views i ≡ some v → slice_get views i ≡ Some v
seen [] i v e = absurd (some-ne-none v (sym e))
seen (x ∷ xs) zero v e = ap Some (some-injective x v e)
seen (x ∷ xs) (suc i) v e = seen xs i v e

pub total_set : (f : View → ℕ) (views : List View) (i : ℕ) (v w : View) → get_elem? views i ≡ some v
    → sum_by f (set views i w) + f v ≡ sum_by f views + f w
total_set f views i v w e = total-set f views i v w (seen views i v e)

-- the part of one view is at most the sum
pub total_at : (f : View → ℕ) (views : List View) (i : ℕ) (v : View) → get_elem? views i ≡ some v → f v ≤ sum_by f views
total_at f views i v e = total-at f views i v (seen views i v e)

-- a change of one view leaves the others
pub get_elsewhere : (views : List View) (id other : ℕ) (a : View) → id ≢ other
    → get_elem? (set views id a) other ≡ get_elem? views other
get_elsewhere [] id other a ne = refl
get_elsewhere (x ∷ xs) zero zero a ne = absurd (ne refl)
get_elsewhere (x ∷ xs) zero (suc other) a ne = refl
get_elsewhere (x ∷ xs) (suc id) zero a ne = refl
get_elsewhere (x ∷ xs) (suc id) (suc other) a ne = get_elsewhere xs id other a (λ e. ne (ap suc e))

-- a sum stays the same if a view is cut in two, or if two together give as much as before
pub total_cut : (f : View → ℕ) (views : List View) (id : ℕ) (v a b : View) → get_elem? views id ≡ some v
    → f a + f b ≡ f v
    → sum_by f (set views id a ++ b ∷ []) ≡ sum_by f views
total_cut f views id v a b at e = total-cut f views id v a b (seen views id v at) e

pub total_glue : (f : View → ℕ) (views : List View) (id other : ℕ) (v u a b : View) → get_elem? views id ≡ some v
    → get_elem? (set views id a) other ≡ some u
    → f a + f b ≡ f v + f u → sum_by f (set (set views id a) other b) ≡ sum_by f views
total_glue f views id other v u a b at there e =
    omega (arith, e, total_set f views id v a at, total_set f (set views id a) other u b there)

-- the entries of all won lists are summed over the views
pub won_total : (x : ℕ) (views : List View)
    → times x (flat_map (λ seat. seat.won) (seats_of views)) ≡ sum_by (λ v. times x v.has.won) views
won_total x [] = refl
won_total x (v ∷ views) =
    omega (
      arith,
      won_total x views,
      times-append x v.has.won (flat_map (λ seat. seat.won) (seats_of views)),
      sum_by-cons (λ u. times x u.has.won) v views,
    )

-- the seat of a view
pub seat_read : (views : List View) (id : ℕ) (v : View) → get_elem? views id ≡ some v
    → get_or (seats_of views) id spent_seat ≡ v.has
seat_read [] id v e = absurd (some-ne-none v (sym e))
seat_read (x ∷ xs) zero v e = ap (λ (u : View). u.has) (some-injective x v e)
seat_read (x ∷ xs) (suc id) v e = seat_read xs id v e

-- no seat is wider than all together, and no two seats are
pub width_at : (seats : List PlainSeat) (i : ℕ) → (get_or seats i spent_seat).width ≤ sum_by (λ seat. seat.width) seats
width_at [] i = omega arith
width_at (x ∷ xs) zero = omega (arith, sum_by-cons (λ seat. seat.width) x xs)
width_at (x ∷ xs) (suc i) = omega (arith, width_at xs i, sum_by-cons (λ seat. seat.width) x xs)

pub two_widths : (seats : List PlainSeat) (i j : ℕ) → i ≢ j
    → (get_or seats i spent_seat).width + (get_or seats j spent_seat).width ≤ sum_by (λ seat. seat.width) seats
two_widths [] i j ne = omega arith
two_widths (x ∷ xs) zero zero ne = absurd (ne refl)
two_widths (x ∷ xs) zero (suc j) ne = omega (arith, width_at xs j, sum_by-cons (λ seat. seat.width) x xs)
two_widths (x ∷ xs) (suc i) zero ne = omega (arith, width_at xs i, sum_by-cons (λ seat. seat.width) x xs)
two_widths (x ∷ xs) (suc i) (suc j) ne =
    omega (arith, two_widths xs i j (λ e. ne (ap suc e)), sum_by-cons (λ seat. seat.width) x xs)

-- a property of all views holds of a view in the table
pub view_at : (P : View → Type 0) (views : List View) (id : ℕ) (v : View) → All P views → get_elem? views id ≡ some v
    → P v
view_at P views id v each at =
    let there = seen views id v at in
    subst P (get_or_from_slice_get views id v v there) (each id v (slice_get_within views id v there))

-- a view that has a width has the round's key
pub knows_at : (k : Key) (views : List View) (id : ℕ) (v : View) → All (KnowsRound k) views
    → get_elem? views id ≡ some v → 0 < v.has.width → v.key ≡ k
knows_at k views id v each at = (view_at (KnowsRound k) views id v each at).round
