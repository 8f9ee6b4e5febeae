-- The labels of a play, in the order of the last requests, are a chain.
use Rattle.std.proofs.Common.{◌≡◌, ◌≢◌, ◌↔◌, ◌==◌, ℕ, Bool, true, false, true≢false, not, ◌<◌, List, [], ◌∷◌, ◌++◌}
use Rattle.std.proofs.Common.{length, get_or, map, All, AllPairs, Contains, refl, sym, ◌∙◌, ap, subst, arith, inl, inr}
use Rattle.std.specs.List.{filter}
use Rattle.std.proofs.lemmas.Bool.{cases_eq, eq-eqb, ne_eqb}
use Rattle.std.proofs.lemmas.List.{get_or-map, get_or-set_other, length-map, length-set}
use Rattle.std.proofs.lemmas.List.Elements.{All-cons, All-contains, All-contains_itself, All-filter, All-map}
use Rattle.std.proofs.lemmas.List.Elements.{All-nil, Contains-get_or, filter_passes}
use Rattle.std.proofs.lemmas.List.Kept.{AllPairs-cons, AllPairs-filter}
use Rattle.std.proofs.lemmas.Grind.{get_or-set_at}
use Rattle.nested_cycles.proofs.Cited.{contains_cases, contains_here, contains_later, each_of}
use Rattle.board_text.specs.PlainBoard.{PlainBoard, Dominates, DominatesPlace}
use Rattle.chains.specs.Chains.{AreChained}
use Rattle.domains.specs.Plays.{HaveLed, last_asked}
use Rattle.domains.proofs.ProductBoards.{kept}

-- ---- a filtered list

abbrev pub apart_from : ℕ → ℕ → Bool
apart_from pebble other = not (other == pebble)

passes_apart : (pebble other : ℕ) → apart_from pebble other ≡ true → other ≢ pebble
passes_apart pebble other passes same =
    let falls : apart_from pebble other ≡ false = ap not (eq-eqb other pebble same) in
    true≢false (sym passes ∙ falls)

apart_passes : (pebble other : ℕ) → other ≢ pebble → apart_from pebble other ≡ true
apart_passes pebble other differs = ap not (ne_eqb other pebble differs)

pub all_apart : (pebble : ℕ) (xs : List ℕ) → All (λ other. other ≢ pebble) (filter (apart_from pebble) xs)
all_apart pebble xs =
    each_of (λ other. other ≢ pebble) (filter (apart_from pebble) xs) (λ other has.
    passes_apart pebble other
    (All-contains (λ x. apart_from pebble x ≡ true) (filter (apart_from pebble) xs) other
    (filter_passes (apart_from pebble) xs) has))

pub in_filtered : (pebble : ℕ) (xs : List ℕ) (other : ℕ) → Contains (filter (apart_from pebble) xs) other
    → Contains xs other
in_filtered pebble xs other has =
    All-contains (Contains xs) (filter (apart_from pebble) xs) other
    (All-filter (apart_from pebble) (Contains xs) xs (All-contains_itself xs)) has

-- ---- the pebbles that were asked

pub asked_once : (requests : List ℕ) → AllPairs (λ x y. x ≢ y) (last_asked requests)
asked_once [] = λ i j d low inside. absurd (omega (arith, inside))
asked_once (pebble ∷ earlier) =
    AllPairs-cons (λ x y. x ≢ y) pebble (filter (apart_from pebble) (last_asked earlier))
    (each_of (λ other. pebble ≢ other) (filter (apart_from pebble) (last_asked earlier)) (λ other has same.
    All-contains (λ x. x ≢ pebble) (filter (apart_from pebble) (last_asked earlier)) other
    (all_apart pebble (last_asked earlier)) has (sym same)))
    (AllPairs-filter (λ x y. x ≢ y) (apart_from pebble) (last_asked earlier) (asked_once earlier))

pub asked_all : (requests : List ℕ) (pebble : ℕ) → Contains requests pebble ↔ Contains (last_asked requests) pebble
asked_all [] pebble = (λ has. has, λ has. has)
asked_all (newest ∷ earlier) pebble =
    let rest = filter (apart_from newest) (last_asked earlier) in (
      λ has. elim (cases_eq pebble newest) [
        | inl is ↦ subst (Contains (newest ∷ rest)) (sym is) (contains_here newest rest)
        | inr differs ↦ elim (contains_cases newest earlier pebble has) [
          | inl same ↦ absurd (differs (sym same))
          | inr later ↦ contains_later newest rest pebble
              (kept (apart_from newest) (last_asked earlier) pebble ((asked_all earlier pebble).0 later)
              (apart_passes newest pebble differs))
        ]
      ],
      λ has. elim (contains_cases newest rest pebble has) [
        | inl same ↦ subst (Contains (newest ∷ earlier)) same (contains_here newest earlier)
        | inr later ↦ contains_later newest earlier pebble
            ((asked_all earlier pebble).1 (in_filtered newest (last_asked earlier) pebble later))
      ],
    )

module _ (board : PlainBoard) (start : List ℕ) (start_long : length start ≡ board.pebbles) where
  played_long : (requests c : List ℕ) → HaveLed board start requests c → length c ≡ board.pebbles
  played_long [] c played = subst (λ d. length d ≡ board.pebbles) (sym played) start_long
  played_long (pebble ∷ earlier) c played =
      subst (λ d. length d ≡ board.pebbles) (sym played.5)
      (length-set played.0 pebble played.1 ∙ played_long earlier played.0 played.2)

  -- the label of the pebble that was just asked, and those of the others
  newest_at : (earlier c : List ℕ) (pebble : ℕ) (played : HaveLed board start (pebble ∷ earlier) c)
      → get_or c pebble 0 ≡ played.1
  newest_at earlier c pebble played =
      ap (λ d. get_or d pebble 0) played.5
      ∙ get_or-set_at played.0 pebble pebble played.1 0 refl
      (let long = played_long earlier played.0 played.2 in omega (arith, long, played.3))

  others_at : (earlier c : List ℕ) (pebble other : ℕ) (played : HaveLed board start (pebble ∷ earlier) c)
      → other ≢ pebble → get_or c other 0 ≡ get_or played.0 other 0
  others_at earlier c pebble other played differs =
      ap (λ d. get_or d other 0) played.5 ∙ get_or-set_other played.0 pebble other played.1 0 differs

  -- a pebble that was asked beats those that weren't asked since
  pub asked_later : (newer older c : List ℕ) (pebble other : ℕ) → HaveLed board start (newer ++ pebble ∷ older) c
      → (Contains newer other → ⊥) → other < board.pebbles → other ≢ pebble
      → DominatesPlace board (get_or c pebble 0) (get_or c other 0)
  asked_later [] older c pebble other played rests below differs low =
      let there = others_at older c pebble other played differs in
      subst (λ n. Dominates board n (get_or c other 0)) (sym (newest_at older c pebble played))
      (subst (Dominates board played.1) (sym there)
      (played.4.dominates other below differs (subst (λ n. n < board.labels) there low)))
  asked_later (newest ∷ newer) older c pebble other played rests below differs low =
      let earlier = newer ++ pebble ∷ older in
      let unasked : other ≢ newest = λ same. rests (subst (Contains (newest ∷ newer)) (sym same)
      (contains_here newest newer)) in
      let there = others_at earlier c newest other played unasked in
      let low_there = subst (λ n. n < board.labels) there low in
      elim (cases_eq pebble newest) [
        | inl is ↦
            let here : get_or c pebble 0 ≡ played.1
            = ap (λ n. get_or c n 0) is ∙ newest_at earlier c newest played in
            subst (λ n. Dominates board n (get_or c other 0)) (sym here)
            (subst (Dominates board played.1) (sym there)
            (played.4.dominates other below unasked low_there))
        | inr not_it ↦
            let here = others_at earlier c newest pebble played not_it in
            subst (λ n. Dominates board n (get_or c other 0)) (sym here)
            (subst (Dominates board (get_or played.0 pebble 0)) (sym there)
            (asked_later newer older played.0 pebble other played.2
            (λ has. rests (contains_later newest newer other has)) below differs low_there))
      ]

  -- ---- all that were asked, in order

  record InOrder (c order : List ℕ) : Type 0 where
    below : All (λ pebble. pebble < board.pebbles) order
    are_labels : All (λ pebble. get_or c pebble 0 < board.labels) order
    beat : AllPairs (λ pebble other. Dominates board (get_or c pebble 0) (get_or c other 0)) order

  in_order : (requests c : List ℕ) → HaveLed board start requests c → InOrder c (last_asked requests)
  in_order [] c played = record {
    below = All-nil (λ pebble. pebble < board.pebbles);
    are_labels = All-nil (λ pebble. get_or c pebble 0 < board.labels);
    beat = λ i j d low inside. absurd (omega (arith, inside));
  }
  in_order (newest ∷ earlier) c played =
      let before = in_order earlier played.0 played.2 in
      let order = last_asked earlier in
      let others = filter (apart_from newest) order in
      let here = newest_at earlier c newest played in
      let same : (other : ℕ) → Contains others other → get_or c other 0 ≡ get_or played.0 other 0
      = λ other has. others_at earlier c newest other played
      (All-contains (λ x. x ≢ newest) others other (all_apart newest order) has) in
      let low : (other : ℕ) → Contains others other → get_or played.0 other 0 < board.labels
      = λ other has. All-contains (λ x. get_or played.0 x 0 < board.labels) order other before.are_labels
      (in_filtered newest order other has) in record {
        below = All-cons (λ pebble. pebble < board.pebbles) newest others played.3
            (All-filter (apart_from newest) (λ pebble. pebble < board.pebbles) order before.below);
        are_labels = All-cons (λ pebble. get_or c pebble 0 < board.labels) newest others
            (subst (λ n. n < board.labels) (sym here) played.4.is_label)
            (each_of (λ pebble. get_or c pebble 0 < board.labels) others (λ other has.
            subst (λ n. n < board.labels) (sym (same other has)) (low other has)));
        beat = AllPairs-cons (λ pebble other. Dominates board (get_or c pebble 0) (get_or c other 0)) newest others
            (each_of (λ other. Dominates board (get_or c newest 0) (get_or c other 0)) others (λ other has.
            subst (λ n. Dominates board n (get_or c other 0)) (sym here)
            (subst (Dominates board played.1) (sym (same other has))
            (played.4.dominates other
            (All-contains (λ x. x < board.pebbles) order other before.below (in_filtered newest order other has))
            (All-contains (λ x. x ≢ newest) others other (all_apart newest order) has)
            (low other has)))))
            (λ i j d less inside.
            subst (λ n. Dominates board n (get_or c (get_or others j d) 0))
            (sym (same (get_or others i d) (Contains-get_or others i d (omega (arith, less, inside)))))
            (subst (Dominates board (get_or played.0 (get_or others i d) 0))
            (sym (same (get_or others j d) (Contains-get_or others j d inside)))
            (AllPairs-filter (λ pebble other. Dominates board (get_or played.0 pebble 0) (get_or played.0 other 0))
            (apart_from newest) order before.beat i j d less inside)));
      }

  pub asked_chained : (requests c : List ℕ) → HaveLed board start requests c
      → AreChained board (map (λ pebble. get_or c pebble 0) (last_asked requests))
  asked_chained requests c played =
      let order = last_asked requests in
      let label : ℕ → ℕ = λ pebble. get_or c pebble 0 in
      let its = in_order requests c played in record {
        are_labels = All-map (λ n. n < board.labels) label order its.are_labels;
        beat = λ i j d less inside.
            let there : j < length order = omega (arith, inside, length-map order label) in
            subst (λ n. Dominates board n (get_or (map label order) j d))
            (sym (get_or-map label order i 0 d (omega (arith, less, there))))
            (subst (Dominates board (label (get_or order i 0))) (sym (get_or-map label order j 0 d there))
            (its.beat i j 0 less there));
      }
