-- A domain lasts for ever exactly if some list of chains is a closed family.
use Rattle.std.proofs.Common.{◌≡◌, ◌↔◌, ℕ, zero, suc, ◌<◌, List, [], ◌∷◌, ◌++◌, length, get_or, map}
use Rattle.std.proofs.Common.{All, Contains, sym, subst, arith, inl, inr}
use Rattle.std.specs.List.{remove}
use Rattle.std.proofs.lemmas.Bool.{cases_lt}
use Rattle.std.proofs.lemmas.List.Elements.{All-append, All-contains, All-cons, All-head, All-map, All-nil, All-tail}
use Rattle.std.proofs.lemmas.List.Elements.{Contains-append_left, Contains-append_right, Contains-get_or}
use Rattle.nested_cycles.proofs.Cited.{contains_here, contains_map, each_of}
use Rattle.board_text.specs.PlainBoard.{PlainBoard}
use Rattle.positions.specs.Value.{HasValue}
use Rattle.positions.specs.declared.value.Value.TheVariants.{Forever}
use Rattle.chains.specs.Chains.{AreChained}
use Rattle.domains.specs.Families.{IsClosedFamily, IsCovered}
use Rattle.domains.specs.Used.{IsUsed}
use Rattle.domains.proofs.ClosedFamilies.{covered_last, member_lasts, put_covered}
use Rattle.domains.proofs.DecidedChains.{IsDecided, lasting_or_not}
use Rattle.domains.proofs.LastingChains.{LastingChain, chain_above, lasting_closed, some_chain}

-- ---- a list of all lists of labels that have a decided property

record Listed (low count bound : ℕ) (P : List ℕ → Type 0) : Type 0 where
  family : List (List ℕ)
  sound : All P family
  complete : (xs : List ℕ) → length xs ≡ count → All (λ x. x < low) xs → get_or xs 0 0 < bound → P xs
      → Contains family xs

listed_none : (low : ℕ) (P : List ℕ → Type 0) → IsDecided (P []) → Listed low 0 (suc low) P
listed_none low P (inl has) = record {
  family = [] ∷ [];
  sound = All-cons P [] [] has (All-nil P);
  complete = only;
}
  where
    only : (xs : List ℕ) → length xs ≡ 0 → All (λ x. x < low) xs → get_or xs 0 0 < suc low → P xs
        → Contains ([] ∷ []) xs
    only [] none all first is = contains_here [] []
    only (x ∷ xs) none all first is = absurd (omega (arith, none))
listed_none low P (inr none_has) = record {
  family = [];
  sound = All-nil P;
  complete = only;
}
  where
    only : (xs : List ℕ) → length xs ≡ 0 → All (λ x. x < low) xs → get_or xs 0 0 < suc low → P xs
        → Contains [] xs
    only [] none all first is = absurd (none_has is)
    only (x ∷ xs) none all first is = absurd (omega (arith, none))

-- those of which the first label is below a bound
listed_below : (low count bound : ℕ) (P : List ℕ → Type 0)
    → ((first : ℕ) → Listed low count (suc low) (λ xs. P (first ∷ xs)))
    → Listed low (suc count) bound P
listed_below low count zero P each = record {
  family = [];
  sound = All-nil P;
  complete = λ xs long all first is. absurd (omega (arith, first));
}
listed_below low count (suc bound) P each =
    let before = listed_below low count bound P each in
    let here = each bound in
    let with_it : List (List ℕ) = map (λ xs. bound ∷ xs) here.family in record {
      family = before.family ++ with_it;
      sound = All-append P before.family with_it before.sound (All-map P (λ xs. bound ∷ xs) here.family here.sound);
      complete = complete before here;
    }
  where
    complete : (before : Listed low (suc count) bound P) → (here : Listed low count (suc low) (λ xs. P (bound ∷ xs)))
        → (xs : List ℕ) → length xs ≡ suc count → All (λ x. x < low) xs → get_or xs 0 0 < suc bound → P xs
        → Contains (before.family ++ map (λ ys. bound ∷ ys) here.family) xs
    complete before here [] long all first is = absurd (omega (arith, long))
    complete before here (x ∷ xs) long all first is =
        elim (cases_lt x bound) [
          | inl below ↦ Contains-append_left before.family (map (λ ys. bound ∷ ys) here.family) (x ∷ xs)
              (before.complete (x ∷ xs) long all below is)
          | inr not ↦
              let same : bound ≡ x = omega (arith, first, not) in
              Contains-append_right before.family (map (λ ys. bound ∷ ys) here.family) (x ∷ xs)
              (subst (λ n. Contains (map (λ ys. bound ∷ ys) here.family) (n ∷ xs)) same
              (contains_map (λ ys. bound ∷ ys) here.family xs
              (here.complete xs (omega (arith, long)) (All-tail (λ y. y < low) x xs all)
              (rest_low xs (All-tail (λ y. y < low) x xs all)) (subst (λ n. P (n ∷ xs)) (sym same) is))))
        ]
      where
        rest_low : (ys : List ℕ) → All (λ y. y < low) ys → get_or ys 0 0 < suc low
        rest_low [] rest = omega arith
        rest_low (y ∷ ys) rest =
            let head : y < low = All-head (λ z. z < low) y ys rest in omega (arith, head)

listed : (low count : ℕ) (P : List ℕ → Type 0) → ((xs : List ℕ) → IsDecided (P xs)) → Listed low count (suc low) P
listed low zero P each = listed_none low P (each [])
listed low (suc count) P each =
    listed_below low count (suc low) P
    (λ first. listed low count (λ xs. P (first ∷ xs)) (λ xs. each (first ∷ xs)))

-- ---- the list of all chains from which it lasts

module _ (board : PlainBoard) (count : ℕ) (more : board.pebbles ≡ suc count) where
  all_lasting : Listed board.labels count (suc board.labels) (LastingChain board 1)
  all_lasting = listed board.labels count (LastingChain board 1) (lasting_or_not board 1)

  lasting_in : (chain : List ℕ) → LastingChain board 1 chain → Contains all_lasting.family chain
  lasting_in chain is =
      all_lasting.complete chain (omega (arith, is.long, more)) is.chained.are_labels
      (first_low chain is.chained.are_labels) is
    where
      first_low : (ys : List ℕ) → All (λ y. y < board.labels) ys → get_or ys 0 0 < suc board.labels
      first_low [] rest = omega arith
      first_low (y ∷ ys) rest =
          let head : y < board.labels = All-head (λ z. z < board.labels) y ys rest in omega (arith, head)

  in_lasting : (chain : List ℕ) → Contains all_lasting.family chain → LastingChain board 1 chain
  in_lasting chain has = All-contains (LastingChain board 1) all_lasting.family chain all_lasting.sound has

  family_chained : All (AreChained board) all_lasting.family
  family_chained = each_of (AreChained board) all_lasting.family (λ chain has. (in_lasting chain has).chained)

  family_closed : IsClosedFamily board count (Contains all_lasting.family)
  family_closed = record {
    long = λ chain has. (lasting_closed board count more).long chain (in_lasting chain has);
    answered = λ chain has.
        let answer = (lasting_closed board count more).answered chain (in_lasting chain has) in (
          answer.0,
          answer.1,
          answer.2,
          λ index below. lasting_in (answer.0 ∷ remove chain index) (answer.3 index below),
        );
  }

  pub lasting_exactly : ((c : List ℕ) × (length c ≡ board.pebbles) × HasValue board c Forever)
      ↔ ((family : List (List ℕ)) × (0 < length family) × All (AreChained board) family
      × IsClosedFamily board count (Contains family))
  lasting_exactly = (
    λ found.
        let chain = some_chain board found.0 count more found.1 found.2 in
        let has = lasting_in chain.0 chain.1 in
        (all_lasting.family, omega (arith, has.1), family_chained, family_closed),
    λ found.
        let chain : List ℕ = get_or found.0 0 [] in
        let has : Contains found.0 chain = Contains-get_or found.0 0 [] found.1 in
        let answer = found.3.answered chain has in
        let long : length chain ≡ count = found.3.long chain has in
        let covered : IsCovered board (Contains found.0) (answer.0 ∷ chain)
        = put_covered board (Contains found.0) answer.0 chain (omega (arith, long, more)) has
        (λ index inside. answer.3 index (omega (arith, inside, long))) in (
          answer.0 ∷ chain,
          covered.long,
          covered_last board count (Contains found.0) more found.3 (answer.0 ∷ chain) covered,
        ),
  )

pub used_exactly : (board : PlainBoard) (count label : ℕ) → board.pebbles ≡ suc (suc count)
    → IsUsed board label
    ↔ ((family : List (List ℕ)) × All (AreChained board) family
    × IsClosedFamily board (suc count) (Contains family)
    × (chain : List ℕ) × Contains family chain × Contains chain label)
used_exactly board count label more = (
  λ is.
      let found = chain_above board label count more is.0 is.1 in
      let chain : List ℕ = found.0 ++ label ∷ [] in (
        (all_lasting board (suc count) more).family,
        family_chained board (suc count) more,
        family_closed board (suc count) more,
        chain,
        lasting_in board (suc count) more chain found.1,
        Contains-append_right found.0 (label ∷ []) label (contains_here label []),
      ),
  λ found.
      let chained = All-contains (AreChained board) found.0 found.3 found.1 found.4 in (
        All-contains (λ n. n < board.labels) found.3 label chained.are_labels found.5,
        member_lasts board (suc count) (Contains found.0) more found.2 found.3 label found.4 found.5,
      ),
)
