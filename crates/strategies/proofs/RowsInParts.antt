-- Rows that were made in parts, and joined.
use Rattle.std.proofs.Common.{◌≡◌, ℕ, ◌<◌, List, [], ◌∷◌, ◌++◌, Result, Ok, Err, map, refl, sym, ap, ◌∙◌, subst}
use Rattle.std.specs.Prelude.{IfOk, MatchResult, Contains}
use Rattle.std.specs.List.{AllZip, flat_map}
use Rattle.std.specs.Borrow.{Bor}
use Rattle.std.proofs.lemmas.List.Concat.{flat_map-cons}
use Rattle.board_text.specs.PlainBoard.{PlainBoard}
use Rattle.rayon.specs.Lists.{chunks_of}
use Rattle.rayon.proofs.ToStd.{chunks_of-concat}
use Rattle.strategies.specs.Inside.Numbering.{by_order}
use Rattle.strategies.specs.Inside.Side.{Side, AreRowsAt}
use Rattle.strategies.proofs.RowsAt.{rows_append}

module _ {R : Type 0} (board : PlainBoard) (side : Side R) {S : Type 0} (items : S → List R) where
  -- the rows that were made of each part are, side by side, those of all parts
  side_by_side : (E : Type 0) (parts : List (Bor (List ℕ))) (made : List S)
      → AllZip (λ (x : Bor (List ℕ)) (y : Result S E). IfOk y (λ s. AreRowsAt (by_order board) side x.now (items s)))
      parts
      (map Ok made)
      → AreRowsAt (by_order board) side (flat_map (λ l. l) (map (λ (x : Bor (List ℕ)). x.now) parts))
      (flat_map items made)
  side_by_side E [] [] are = refl
  side_by_side E [] (s ∷ made) are = absurd are
  side_by_side E (x ∷ parts) [] are = absurd are
  side_by_side E (x ∷ parts) (s ∷ made) are =
      subst (λ (l : List R). AreRowsAt (by_order board) side (flat_map (λ l. l) (map (λ (y : Bor (List ℕ)). y.now)
      (x ∷ parts))) l)
      (sym (flat_map-cons items s made))
      (subst (λ (l : List ℕ). AreRowsAt (by_order board) side l (items s ++ flat_map items made))
      (sym (flat_map-cons (λ l. l) x.now (map (λ (y : Bor (List ℕ)). y.now) parts)))
      (rows_append (by_order board) side x.now
      (flat_map (λ l. l) (map (λ (y : Bor (List ℕ)). y.now) parts)) (items s)
      (flat_map items made)
      are.0 (side_by_side E parts made are.1)))

  -- so they are those of all numbers, unless a part was refused memory
  pub rows_joined : {E V : Type 0} (parts_of : V → List S) (numbers : List ℕ) (size : ℕ) → 0 < size
      → (parts : List (Bor (List ℕ))) → map (λ (x : Bor (List ℕ)). x.now) parts ≡ chunks_of size numbers
      → (made : List (Result S E))
      → AllZip (λ (x : Bor (List ℕ)) (y : Result S E). IfOk y (λ s. AreRowsAt (by_order board) side x.now
      (items s))) parts made
      → (rows : Result V E)
      → MatchResult rows (λ v. (all : List S) × (made ≡ map Ok all) × (parts_of v ≡ all)) (λ e. Contains made (Err e))
      → IfOk rows (λ v. AreRowsAt (by_order board) side numbers (flat_map items (parts_of v)))
  rows_joined parts_of numbers size some parts parts_are made are (Err e) gathered = tt
  rows_joined {E} {V} parts_of numbers size some parts parts_are made are (Ok v) gathered =
      let all : List S = gathered.0 in
      let each = subst (λ (l : List (Result S E)). AllZip (λ (x : Bor (List ℕ)) (y : Result S E).
      IfOk y (λ s. AreRowsAt (by_order board) side x.now (items s))) parts l) gathered.1 are in
      let whole : flat_map (λ l. l) (map (λ (x : Bor (List ℕ)). x.now) parts) ≡ numbers =
      ap (λ (l : List (List ℕ)). flat_map (λ x. x) l) parts_are ∙ chunks_of-concat size numbers some in
      subst (λ (l : List S). AreRowsAt (by_order board) side numbers (flat_map items l)) (sym gathered.2)
      (subst (λ (l : List ℕ). AreRowsAt (by_order board) side l (flat_map items all)) whole
      (side_by_side E parts all each))
