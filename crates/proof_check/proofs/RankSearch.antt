-- The result of a binary search by rank.
use Rattle.std.proofs.Common.{◌≡◌, ℕ, ◌<◌, Less, Equal, Greater, List, length, get_or, sym, ap, ◌∙◌, arith, inl, inr}
use Rattle.std.specs.List.{HoldsAt}
use Rattle.std.specs.List.Sorted.{IsNonDecreasingBy, IsPartitionPoint}
use Rattle.std.specs.Ordering.{nat_cmp, ordering_index}
use Rattle.std.proofs.lemmas.Bool.{cases_eq, cases_lt}
use Rattle.std.proofs.lemmas.Bool.Decides.{nat_tests}
use Rattle.std.proofs.lemmas.Cmp.{ranked}
use Rattle.proof_check.specs.Inside.RowIndex.{AreAscending, HasNone, IsRowOf}

module _ {X : Type 0} (rank : X → ℕ) (rows : List X) (number : ℕ) where
  rise : AreAscending rank rows → IsNonDecreasingBy (λ row. ordering_index (nat_cmp (rank row) number)) rows
  rise ascending i j d le inside = elim (cases_eq i j) [
    | inl same ↦ omega (arith, ap (λ (k : ℕ). ordering_index (nat_cmp (rank (get_or rows k d)) number)) same)
    | inr differ ↦ let less : rank (get_or rows i d) < rank (get_or rows j d) = ascending i j d (omega arith) inside in
        grind (arith, nat_tests)
  ]

  -- the row at a place whose comparison is equal
  pub one_found : (place : ℕ) (row : X) → place < length rows
      → HoldsAt (λ y. nat_cmp (rank y) number ≡ Equal) rows place → row ≡ get_or rows place row
      → IsRowOf rank rows number row
  one_found place row inside equal is =
      ((place, inside, sym is), ap rank is ∙ ranked (rank (get_or rows place row)) number Equal (sym (equal row)))

  -- all rows before a place are smaller, and all others greater
  pub none_found : (place : ℕ) → AreAscending rank rows
      → (IsNonDecreasingBy (λ y. ordering_index (nat_cmp (rank y) number)) rows
      → IsPartitionPoint (λ y. nat_cmp (rank y) number ≡ Less) (λ y. nat_cmp (rank y) number ≡ Greater) rows place)
      → HasNone rank rows number
  none_found place ascending parted row (at, inside, is) same =
      let parts = parted (rise ascending) in
      let here : rank (get_or rows at row) ≡ number = ap rank is ∙ same in
      elim (cases_lt at place) [
        | inl before ↦
            let less : rank (get_or rows at row) < number =
            ranked (rank (get_or rows at row)) number Less (sym (parts.0 at row (omega arith) before)) in
            omega (arith, less, here)
        | inr behind ↦
            let more : number < rank (get_or rows at row) =
            ranked (rank (get_or rows at row)) number Greater (sym (parts.1 at row behind inside)) in
            omega (arith, more, here)
      ]
