-- Rows in parts: what holds of each row holds in each part, and the lines of all parts are those of the rows.
use Rattle.std.proofs.Common.{◌≡◌, ℕ, ◌<◌, List, [], ◌∷◌, ◌++◌, Result, Ok, Err, map, refl, sym, ap, ◌∙◌, subst}
use Rattle.std.specs.Prelude.{IfOk, MatchResult, Contains}
use Rattle.std.specs.List.{All, AllByRecursion, AllZip, flat_map}
use Rattle.std.specs.Borrow.{Bor}
use Rattle.std.proofs.lemmas.List.Concat.{flat_map-cons}
use Rattle.std.proofs.lemmas.List.Elements.{All-from_recursion, recursion_from_All}
use Rattle.std.proofs.lemmas.Grind.{flat_map-append}
use Rattle.positions.specs.declared.claim.Claim.{Claim}
use Rattle.rayon.specs.Lists.{chunks_of}
use Rattle.rayon.proofs.ToStd.{chunks_of-concat}

module _ {X : Type 0} (P : X → Type 0) where
  both : (xs ys : List X) → AllByRecursion P (xs ++ ys) → AllByRecursion P xs × AllByRecursion P ys
  both [] ys h = (tt, h)
  both (x ∷ xs) ys h = let rest = both xs ys h.1 in ((h.0, rest.0), rest.1)

  each_part : (xss : List (List X)) → AllByRecursion P (flat_map (λ l. l) xss) → AllByRecursion (All P) xss
  each_part [] h = tt
  each_part (xs ∷ xss) h =
      let cut = both xs (flat_map (λ l. l) xss) (subst (AllByRecursion P) (flat_map-cons (λ l. l) xs xss) h) in
      (All-from_recursion P xs cut.0, each_part xss cut.1)

  -- a fact of each row is one of each row of each part
  pub parts_too : (size : ℕ) (rows : List X) → 0 < size → All P rows → All (All P) (chunks_of size rows)
  parts_too size rows some h =
      All-from_recursion (All P) (chunks_of size rows)
      (each_part (chunks_of size rows)
      (subst (AllByRecursion P) (sym (chunks_of-concat size rows some)) (recursion_from_All P rows h)))

module _ (E : Type 0) {R S : Type 0} (line : R → List ℕ) (bytes : S → List ℕ) where
  -- the lines that were made of each part are, side by side, those of all parts
  side_by_side : (parts : List (Bor (List R))) (made : List S)
      → AllZip (λ (x : Bor (List R)) (y : Result S E). IfOk y (λ s. bytes s ≡ flat_map line x.now)) parts (map Ok made)
      → flat_map bytes made ≡ flat_map line (flat_map (λ l. l) (map (λ (x : Bor (List R)). x.now) parts))
  side_by_side [] [] are = refl
  side_by_side [] (s ∷ made) are = absurd are
  side_by_side (x ∷ parts) [] are = absurd are
  side_by_side (x ∷ parts) (s ∷ made) are =
      flat_map-cons bytes s made ∙ ap (λ (l : List ℕ). l ++ flat_map bytes made) are.0
      ∙ ap (λ (l : List ℕ). flat_map line x.now ++ l) (side_by_side parts made are.1)
      ∙ sym (flat_map-append line x.now (flat_map (λ l. l) (map (λ (y : Bor (List R)). y.now) parts)))
      ∙ ap (flat_map line) (sym (flat_map-cons (λ l. l) x.now (map (λ (y : Bor (List R)). y.now) parts)))

-- so they are those of all rows, for each claim, unless a part was refused memory
pub joined : {R S E V : Type 0} (line : Claim → R → List ℕ) (bytes : S → List ℕ) (items : V → List S) (rows : List R)
    (size : ℕ)
    → 0 < size
    → (parts : List (Bor (List R))) → map (λ (x : Bor (List R)). x.now) parts ≡ chunks_of size rows
    → (made : List (Result S E))
    → AllZip (λ (x : Bor (List R)) (y : Result S E). IfOk y
    (λ s. (claim : Claim) → bytes s ≡ flat_map (line claim) x.now)) parts made
    → (lines : Result V E)
    → MatchResult lines (λ v. (texts : List S) × (made ≡ map Ok texts) × (items v ≡ texts)) (λ e. Contains made (Err e))
    → IfOk lines (λ v. (claim : Claim) → flat_map bytes (items v) ≡ flat_map (line claim) rows)
joined line bytes items rows size some parts parts_are made are (Err e) gathered = tt
joined {R} {S} {E} line bytes items rows size some parts parts_are made are (Ok v) gathered = λ claim.
    let texts : List S = gathered.0 in
    let each = of_claim claim parts texts
    (subst (λ (l : List (Result S E)). AllZip (λ (x : Bor (List R)) (y : Result S E).
    IfOk y (λ s. (other : Claim) → bytes s ≡ flat_map (line other) x.now)) parts l) gathered.1 are) in
    ap (flat_map bytes) gathered.2 ∙ side_by_side E (line claim) bytes parts texts each
    ∙ ap (λ (l : List (List R)). flat_map (line claim) (flat_map (λ x. x) l)) parts_are
    ∙ ap (flat_map (line claim)) (chunks_of-concat size rows some)
  where
    of_claim : (claim : Claim) (xs : List (Bor (List R))) (ss : List S)
        → AllZip (λ (x : Bor (List R)) (y : Result S E). IfOk y
        (λ s. (other : Claim) → bytes s ≡ flat_map (line other) x.now)) xs (map Ok ss)
        → AllZip (λ (x : Bor (List R)) (y : Result S E). IfOk y (λ s. bytes s ≡ flat_map (line claim) x.now)) xs
        (map Ok ss)
    of_claim claim [] [] h = tt
    of_claim claim [] (s ∷ ss) h = absurd h
    of_claim claim (x ∷ xs) [] h = absurd h
    of_claim claim (x ∷ xs) (s ∷ ss) h = (h.0 claim, of_claim claim xs ss h.1)
