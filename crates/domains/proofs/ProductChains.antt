-- Chains of a product: dominated chains of the factors give dominated chains of the product.
use Rattle.std.proofs.Common.{◌≡◌, ◌≢◌, ℕ, Bool, ◌+◌, ◌*◌, ◌/◌, ◌%◌, ◌<◌, ◌≤◌, ◌==◌, ◌⊎◌, List, [], ◌∷◌, length}
use Rattle.std.proofs.Common.{get_or, map, not, cond, All, Contains, refl, sym, ◌∙◌, ap, subst, arith, inl, inr}
use Rattle.std.proofs.Common.{true, false, mod-lt, div-lt_iff_lt-mul}
use Rattle.std.specs.List.{filter}
use Rattle.std.proofs.lemmas.Bool.{cases_lt, cases_eq, eq-eqb, eqb-true}
use Rattle.std.proofs.lemmas.Nat.{div-mul-add, mod-mul-add}
use Rattle.std.proofs.lemmas.List.{get_or-map, length-map}
use Rattle.std.proofs.lemmas.List.Elements.{All-contains, All-filter, All-head, All-map, All-nil, filter_passes}
use Rattle.std.proofs.lemmas.List.Filters.{length-filter_both}
use Rattle.std.proofs.lemmas.List.Kept.{AllPairs-filter}
use Rattle.nested_cycles.proofs.Cited.{contains_cases, contains_here, contains_later, contains_map, contains_none}
use Rattle.nested_cycles.proofs.Cited.{each_of}
use Rattle.board_text.specs.PlainBoard.{PlainBoard, Dominates}
use Rattle.positions.proofs.Cited.{beats_or_not}
use Rattle.chains.specs.Chains.{AreChained, AreChainsDominated}
use Rattle.domains.specs.Plays.{last_asked}
use Rattle.domains.specs.Products.{IsProduct}
use Rattle.domains.proofs.LastingChains.{chained_more, chained_none, chained_rest, first_beats}
use Rattle.domains.proofs.PlayedChains.{all_apart, apart_from, asked_all, in_filtered}
use Rattle.domains.proofs.ProductBoards.{kept, label_in}

label_of_chain : (board : PlainBoard) (other : ℕ) (chain : List ℕ) → AreChained board chain → Contains chain other
    → other < board.labels
label_of_chain board other chain chained has =
    All-contains (λ n. n < board.labels) chain other chained.are_labels has

pub chained_filter : (board : PlainBoard) (test : ℕ → Bool) (chain : List ℕ) → AreChained board chain
    → AreChained board (filter test chain)
chained_filter board test chain chained = record {
  are_labels = All-filter test (λ n. n < board.labels) chain chained.are_labels;
  beat = AllPairs-filter (Dominates board) test chain chained.beat;
}

-- what a map has is the image of an element
of_map : (f : ℕ → ℕ) (xs : List ℕ) (y : ℕ) → Contains (map f xs) y → (x : ℕ) × Contains xs x × (f x ≡ y)
of_map f [] y has = absurd (contains_none y has)
of_map f (x ∷ xs) y has =
    elim (contains_cases (f x) (map f xs) y has) [
      | inl same ↦ (x, contains_here x xs, same)
      | inr later ↦
          let found = of_map f xs y later in
          (found.0, contains_later x xs found.0 found.1, found.2)
    ]

longer : (here there : Bool) (x y : ℕ) (xs ys : List ℕ) → length xs ≤ length ys
    → length (cond there (cond here (x ∷ xs) xs) xs) ≤ length (cond here (y ∷ ys) ys)
longer true true x y xs ys few = omega (arith, few)
longer true false x y xs ys few = omega (arith, few)
longer false true x y xs ys few = few
longer false false x y xs ys few = few

filtered_cond : (test : ℕ → Bool) (there : Bool) (x : ℕ) (xs : List ℕ)
    → filter test (cond there (x ∷ xs) xs)
    ≡ cond there (cond (test x) (x ∷ filter test xs) (filter test xs)) (filter test xs)
filtered_cond test true x xs = refl
filtered_cond test false x xs = refl

-- a filter leaves no more of what a filter has left
no_more_left : (test other : ℕ → Bool) (xs : List ℕ) → length (filter test (filter other xs)) ≤ length (filter test xs)
no_more_left test other [] = omega arith
no_more_left test other (x ∷ xs) =
    subst (λ ys. length ys ≤ length (cond (test x) (x ∷ filter test xs) (filter test xs)))
    (sym (filtered_cond test (other x) x (filter other xs)))
    (longer (test x) (other x) x x (filter test (filter other xs)) (filter test xs) (no_more_left test other xs))

module _ (outer inner board : PlainBoard) (product : IsProduct outer inner board) where
  copy : ℕ → ℕ
  copy label = label / inner.labels

  abbrev part : ℕ → ℕ
  part label = label % inner.labels

  -- the copies of labels, newest first, each once
  abbrev copies : List ℕ → List ℕ
  copies chain = last_asked (map copy chain)

  copy_low : (label : ℕ) → label < board.labels → copy label < outer.labels
  unfolding copy
  copy_low label low = (div-lt_iff_lt-mul product.some).1 (subst (λ n. label < n) product.labels low)

  -- one label beats another by its copy, or by its part
  by_product : (x y : ℕ) → x < board.labels → y < board.labels → Dominates board x y
      → Dominates outer (copy x) (copy y) ⊎ ((copy x ≡ copy y) × Dominates inner (part x) (part y))
  unfolding copy
  by_product x y x_low y_low beats = (product.beats x y x_low y_low).0 beats

  copies_chained : (chain : List ℕ) → AreChained board chain → AreChained outer (copies chain)
  copies_chained [] chained = chained_none outer
  copies_chained (label ∷ chain) chained =
      let low = All-head (λ n. n < board.labels) label chain chained.are_labels in
      let older = copies chain in
      let others = filter (apart_from (copy label)) older in
      chained_more outer (copy label) others (copy_low label low)
      (each_of (λ n. Dominates outer (copy label) n) others (λ other has.
      let from = of_map copy chain other ((asked_all (map copy chain) other).1
      (in_filtered (copy label) older other has)) in
      elim (by_product label from.0 low
      (label_of_chain board from.0 (label ∷ chain) chained (contains_later label chain from.0 from.1))
      (first_beats board label from.0 chain chained from.1)) [
        | inl over ↦ subst (Dominates outer (copy label)) from.2 over
        | inr same ↦ absurd (All-contains (λ n. n ≢ copy label) others other (all_apart (copy label) older) has
            (sym (same.0 ∙ from.2)))
      ]))
      (chained_filter outer (apart_from (copy label)) older
      (copies_chained chain (chained_rest board label chain chained)))

  -- as many copies beside this one as there are labels that aren't in it, or fewer
  few_copies : (place : ℕ) (chain : List ℕ)
      → length (filter (apart_from place) (copies chain))
      ≤ length (filter (λ label. apart_from place (copy label)) chain)
  few_copies place [] = omega arith
  few_copies place (label ∷ chain) =
      let before = few_copies place chain in
      let fewer = no_more_left (apart_from place) (apart_from (copy label)) (copies chain) in
      longer (apart_from place (copy label)) true (copy label) label
      (filter (apart_from place) (filter (apart_from (copy label)) (copies chain)))
      (filter (λ other. apart_from place (copy other)) chain) (omega (arith, before, fewer))

  -- the labels in the copy of the newest
  abbrev in_copy : ℕ → ℕ → Bool
  in_copy place label = copy label == place

  parts_chained : (place : ℕ) (chain : List ℕ) → (Dominates outer place place → ⊥) → AreChained board chain
      → All (λ label. copy label ≡ place) chain → AreChained inner (map (λ label. part label) chain)
  parts_chained place chain not_itself chained all =
      let piece : ℕ → ℕ = λ label. part label in record {
        are_labels = All-map (λ n. n < inner.labels) piece chain
            (each_of (λ label. part label < inner.labels) chain (λ label has. mod-lt label product.some));
        beat = λ i j d less inside.
            let there : j < length chain = omega (arith, inside, length-map chain piece) in
            let here : i < length chain = omega (arith, less, there) in
            let x = get_or chain i 0 in
            let y = get_or chain j 0 in
            subst (λ n. Dominates inner n (get_or (map piece chain) j d)) (sym (get_or-map piece chain i 0 d here))
            (subst (Dominates inner (piece x)) (sym (get_or-map piece chain j 0 d there))
            (elim (by_product x y (chained.are_labels i 0 here) (chained.are_labels j 0 there)
            (chained.beat i j 0 less there)) [
              | inl over ↦ absurd (not_itself (subst (λ n. Dominates outer n place) (all i 0 here)
                  (subst (Dominates outer (copy x)) (all j 0 there) over)))
              | inr same ↦ same.1
            ]));
      }

  -- the label of a copy and a part
  record Named (place piece : ℕ) : Type 0 where
    label : ℕ
    low : label < board.labels
    in_place : copy label ≡ place
    in_part : part label ≡ piece

  named : (place piece : ℕ) → place < outer.labels → piece < inner.labels → Named place piece
  unfolding copy
  named place piece place_low piece_low = record {
    label = place * inner.labels + piece;
    low = label_in outer inner board place piece product place_low piece_low;
    in_place = div-mul-add place inner.labels piece piece_low;
    in_part = mod-mul-add place inner.labels piece piece_low;
  }

  -- a label whose copy dominates all copies of a list
  over_all : (place piece : ℕ) (chain : List ℕ) → Named place piece → AreChained board chain
      → ((label : ℕ) → Contains chain label → Dominates outer place (copy label))
      → (label : ℕ) × (label < board.labels) × All (λ other. Dominates board label other) chain
  unfolding copy
  over_all place piece chain its chained over = (
    its.label,
    its.low,
    each_of (λ other. Dominates board its.label other) chain (λ other has.
        (product.beats its.label other its.low (label_of_chain board other chain chained has)).1
        (inl (subst (λ n. Dominates outer n (copy other)) (sym its.in_place) (over other has)))),
  )

  in_part_or_over : (its : ℕ) (other : ℕ) → its < board.labels → other < board.labels
      → Dominates outer (copy its) (copy other) ⊎ ((copy its ≡ copy other) × Dominates inner (part its) (part other))
      → Dominates board its other
  unfolding copy
  in_part_or_over its other low other_low says = (product.beats its other low other_low).1 says

  pub product_chains : (outer_count inner_count : ℕ) → AreChainsDominated outer outer_count
      → AreChainsDominated inner inner_count → AreChainsDominated board (outer_count + inner_count)
  product_chains outer_count inner_count of_outer of_inner [] short chained =
      let above = of_outer [] (omega arith) (chained_none outer) in
      let label = named above.0 0 above.1 product.some in
      (label.label, label.low, All-nil (λ other. Dominates board label.label other))
  product_chains outer_count inner_count of_outer of_inner (first ∷ chain) short chained =
      let whole = first ∷ chain in
      let place = copy first in
      let others = filter (apart_from place) (copies chain) in
      let outs = copies_chained whole chained in
      let each : (other : ℕ) → Contains whole other → Contains (place ∷ others) (copy other)
      = λ other has. (asked_all (map copy whole) (copy other)).0 (contains_map copy whole other has) in
      let place_low : place < outer.labels = All-head (λ n. n < outer.labels) place others outs.are_labels in
      elim (cases_lt outer_count (length (place ∷ others))) [
        | inr few ↦
            let above = of_outer (place ∷ others) (omega (arith, few)) outs in
            over_all above.0 0 whole (named above.0 0 above.1 product.some) chained (λ other has.
            All-contains (λ n. Dominates outer above.0 n) (place ∷ others) (copy other) above.2 (each other has))
        | inl many ↦ elim (beats_or_not outer place place) [
          | inl itself ↦ over_all place 0 whole (named place 0 place_low product.some) chained (λ other has.
              elim (contains_cases place others (copy other) (each other has)) [
                | inl same ↦ subst (Dominates outer place) same itself
                | inr older ↦ first_beats outer place (copy other) others outs older
              ])
          | inr not_itself ↦
              let here = filter (in_copy place) whole in
              let all : All (λ label. copy label ≡ place) here
              = each_of (λ label. copy label ≡ place) here (λ label has.
              eqb-true (copy label) place
              (All-contains (λ n. in_copy place n ≡ true) here label (filter_passes (in_copy place) whole) has)) in
              let piece : ℕ → ℕ = λ label. part label in
              let few = few_copies place chain in
              let both
              = length-filter_both (in_copy place) (λ label. apart_from place (copy label)) (λ label. refl) whole in
              let out : filter (λ label. apart_from place (copy label)) whole
              ≡ filter (λ label. apart_from place (copy label)) chain
              = ap (λ b. cond b (first ∷ filter (λ label. apart_from place (copy label)) chain)
              (filter (λ label. apart_from place (copy label)) chain)) (ap not (eq-eqb place place refl)) in
              let outside = ap length out in
              let above = of_inner (map piece here)
              (omega (arith, many, few, both, outside, short, length-map here piece))
              (parts_chained place here not_itself (chained_filter board (in_copy place) whole chained) all) in
              let label = named place above.0 place_low above.1 in (
                label.label,
                label.low,
                each_of (λ other. Dominates board label.label other) whole (λ other has.
                    in_part_or_over label.label other label.low (label_of_chain board other whole chained has)
                    (elim (cases_eq (copy other) place) [
                      | inl same ↦ inr (
                        label.in_place ∙ sym same,
                        subst (λ n. Dominates inner n (part other)) (sym label.in_part)
                            (All-contains (λ n. Dominates inner above.0 n) (map piece here) (part other) above.2
                            (contains_map piece here other
                            (kept (in_copy place) whole other has (eq-eqb (copy other) place same)))),
                      )
                      | inr differs ↦ elim (contains_cases place others (copy other) (each other has)) [
                        | inl same ↦ absurd (differs (sym same))
                        | inr older ↦ inl (subst (λ n. Dominates outer n (copy other)) (sym label.in_place)
                            (first_beats outer place (copy other) others outs older))
                      ]
                    ])),
              )
        ]
      ]
