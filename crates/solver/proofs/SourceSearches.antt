-- A list that is gone through for a number.
use Rattle.std.proofs.Common.{◌≡◌, ◌≢◌, ℕ, suc, ◌+◌, ◌≤◌, List, [], ◌∷◌, ◌++◌, length, refl, sym, ap, ◌∙◌, arith}
use Rattle.std.proofs.Common.{Option, Some, None}
use Rattle.std.specs.Prelude.{slice_get, MatchOption}
use Rattle.std.proofs.lemmas.List.{append_assoc}
use Rattle.index_lists.specs.Lists.{times}
use Rattle.index_lists.proofs.Cited.{one-place, stands-at, times-append, times-later}

-- the numbers taken and the rest are the whole list, and the sought number isn't among those taken
pub record IsSearched (xs left : List ℕ) (rank : ℕ) : Type 0 where
  pub before : List ℕ
  pub whole : before ++ left ≡ xs
  pub none : times rank before ≡ 0

pub search-begins : (xs : List ℕ) (rank : ℕ) → IsSearched xs xs rank
search-begins xs rank = record { before = []; whole = refl; none = refl }

-- a number other than the sought one is passed over
pub search-more : (xs left rest : List ℕ) (rank member : ℕ) → IsSearched xs left rank → left ≡ member ∷ rest
    → member ≢ rank → IsSearched xs rest rank
search-more xs left rest rank member is taken other = record {
  before = is.before ++ member ∷ [];
  whole = append_assoc is.before (member ∷ []) rest ∙ ap (λ (l : List ℕ). is.before ++ l) (sym taken) ∙ is.whole;
  none = (let all = times-append rank is.before (member ∷ []) in let later = times-later member rank [] other in
      let none = is.none in omega arith);
}

-- the first number taken off a list is its first
pub first-taken : (old new : List ℕ) (o : Option ℕ) → MatchOption o ((old ≡ []) × (new ≡ [])) (λ rank. old ≡ rank ∷ new)
    → o ≡ slice_get old 0
first-taken old new None none = ap (λ (l : List ℕ). slice_get l 0) (sym none.0)
first-taken old new (Some rank) taken = ap (λ (l : List ℕ). slice_get l 0) (sym taken)

at-end : (before rest : List ℕ) (rank k : ℕ)
    → slice_get (before ++ rank ∷ rest) (length before + k) ≡ slice_get (rank ∷ rest) k
at-end [] rest rank k = let same : 0 + k ≡ k = omega arith in ap (slice_get (rank ∷ rest)) same
at-end (x ∷ before) rest rank k =
    let next : suc (length before) + k ≡ suc (length before + k) = omega arith in
    ap (slice_get (x ∷ before ++ rank ∷ rest)) next ∙ at-end before rest rank k

-- if the rest begins with the number, its place is the number of those taken
pub search-there : (xs left rest : List ℕ) (rank : ℕ) (is : IsSearched xs left rank) → left ≡ rank ∷ rest
    → slice_get xs (length is.before + 0) ≡ Some rank
search-there xs left rest rank is taken =
    let whole : is.before ++ rank ∷ rest ≡ xs = ap (λ (l : List ℕ). is.before ++ l) (sym taken) ∙ is.whole in
    ap (λ (l : List ℕ). slice_get l (length is.before + 0)) (sym whole) ∙ at-end is.before rest rank 0

-- the number taken next follows the sought number in the list
pub search-found : (xs left rest after : List ℕ) (rank : ℕ) (o : Option ℕ) → IsSearched xs left rank
    → left ≡ rank ∷ rest → times rank xs ≤ 1
    → MatchOption o ((rest ≡ []) × (after ≡ [])) (λ next. rest ≡ next ∷ after) → (place : ℕ)
    → slice_get xs place ≡ Some rank → o ≡ slice_get xs (place + 1)
search-found xs left rest after rank o is taken once next place stands =
    let whole : is.before ++ rank ∷ rest ≡ xs = ap (λ (l : List ℕ). is.before ++ l) (sym taken) ∙ is.whole in
    let same : length is.before + 0 ≡ place =
    one-place (length is.before + 0) place rank xs once (search-there xs left rest rank is taken) stands in
    let behind : length is.before + 1 ≡ place + 1 = omega arith in
    first-taken rest after o next ∙ sym (at-end is.before rest rank 1)
    ∙ ap (λ (l : List ℕ). slice_get l (length is.before + 1)) whole ∙ ap (slice_get xs) behind

-- if the rest is empty, the number isn't in the list
pub search-over : (xs left : List ℕ) (rank place : ℕ) → IsSearched xs left rank → left ≡ []
    → slice_get xs place ≡ Some rank → ⊥
search-over xs left rank place is over stands =
    let some = stands-at place rank xs stands in
    let all = ap (times rank) (sym is.whole) ∙ times-append rank is.before left in
    let rest = ap (times rank) over in
    let none = is.none in
    omega arith
