-- Rows at different classes are no more than classes.
use Rattle.std.proofs.Common.{◌≡◌, ◌≢◌, ℕ, suc, ◌<◌, ◌≤◌, false, List, [], ◌∷◌, length, map, get_or, ap, ◌∙◌, arith}
use Rattle.std.proofs.Common.{ne_eqb, eqb-true}
use Rattle.std.proofs.Math.Dec.{eqb}
use Rattle.std.specs.List.{All, AllPairs, IsDistinct}
use Rattle.std.proofs.lemmas.List.{length-map, get_or-map}
use Rattle.std.proofs.lemmas.List.Elements.{All-map, recursion_from_All}
use Rattle.std.proofs.lemmas.List.Folds.{Any-from_list_any}
use Rattle.std.proofs.lemmas.Map.Steps.{length-le_from_distinct_below}
use Rattle.board_text.specs.PlainBoard.{PlainBoard, IsConfiguration, places}
use Rattle.classes.specs.Classes.{class_of, IsClass}
use Rattle.classes.specs.Numbers.{number_by_greatest, class_count}
use Rattle.classes.proofs.Cited.{is-below, length-class_of, falls-class_of}
use Rattle.proof_text.specs.Arranged.{arranged, document_number, IsClassBefore}
use Rattle.proof_text.proofs.Cited.{one-arranged}
use Rattle.strategies.proofs.LikePebbles.{same-number}

-- a configuration whose places are arranged
pub record IsArrangedAt (board : PlainBoard) (at : List ℕ) : Type 0 where
  pub is : IsConfiguration board at
  pub arranged_is : arranged board.labels at ≡ at

distinct : {X : Type 0} (f : X → ℕ) (xs : List X) → AllPairs (λ a b. f a ≢ f b) xs → IsDistinct eqb (map f xs)
unfolding IsDistinct
distinct f [] apart = tt
distinct f (x ∷ xs) apart = (
  recursion_from_All (λ y. eqb (f x) y ≡ false) (map f xs)
      (All-map (λ y. eqb (f x) y ≡ false) f xs
      (λ k d low. ne_eqb (f x) (f (get_or xs k d)) (apart 0 (suc k) d (omega arith) (omega (arith, low))))),
  distinct f xs (λ i j d less low. apart (suc i) (suc j) d (omega (arith, less)) (omega (arith, low))),
)

class_is : (board : PlainBoard) (at : List ℕ) → IsConfiguration board at
    → IsClass (places board) board.pebbles (class_of at)
class_is board at is =
    record { size = length-class_of at ∙ is.each_pebble; falls = falls-class_of (places board) at is.each_place }

number : List ℕ → ℕ
number at = number_by_greatest (class_of at)

same-class : (board : PlainBoard) (one other : List ℕ) → IsArrangedAt board one → IsArrangedAt board other
    → number_by_greatest (class_of one) ≡ number_by_greatest (class_of other) → one ≡ other
same-class board one other is too same =
    one-arranged board.labels one other is.arranged_is too.arranged_is
    (same-number (places board) board.pebbles (class_of one) (class_of other) (class_is board one is.is)
    (class_is board other too.is) same)

-- there are no more rows than classes
pub rows-few : {X : Type 0} (board : PlainBoard) (at : X → List ℕ) (rows : List X)
    → All (λ x. IsArrangedAt board (at x)) rows
    → AllPairs (λ first second. IsClassBefore board.labels (at first) (at second)) rows
    → length rows ≤ class_count board
rows-few {X} board at rows placed ascending =
    let f : X → ℕ = λ x. number_by_greatest (class_of (at x)) in
    let long : length (map f rows) ≡ length rows = length-map rows f in
    let apart : AllPairs (λ a b. f a ≢ f b) rows = λ i j d less low same.
    let before : document_number board.labels (at (get_or rows i d)) < document_number board.labels
    (at (get_or rows j d)) =
    ascending i j d less low in
    let one = same-class board (at (get_or rows i d)) (at (get_or rows j d)) (placed i d (omega (arith, less, low)))
    (placed j d low) same in
    omega (arith, before, ap (document_number board.labels) one) in
    let most = length-le_from_distinct_below (map f rows) (class_count board) (distinct f rows apart)
    (λ q among.
    let found = Any-from_list_any (eqb q) (map f rows) among in
    let inside : found.0 < length rows = omega (arith, long, found.2) in
    let same : q ≡ found.1 = eqb-true q found.1 found.4 in
    by rows placed found.0 found.1 inside found.3 q same) in
    omega (arith, long, most)
  where
    by : (rows : List X) → All (λ x. IsArrangedAt board (at x)) rows → (k n : ℕ) → k < length rows
        → get_or (map (λ x. number_by_greatest (class_of (at x))) rows) k n ≡ n → (q : ℕ) → q ≡ n
        → q < class_count board
    by [] placed k n low is q same = absurd (omega (arith, low))
    by (x ∷ rows) placed k n low is q same =
        let here = get_or-map (λ y. number_by_greatest (class_of (at y))) (x ∷ rows) k x n low in
        let row : X = get_or (x ∷ rows) k x in
        let below = is-below (places board) board.pebbles (class_of (at row)) (class_is board (at row)
        (placed k x low).is) in
        omega (arith, below, here, is, same)
