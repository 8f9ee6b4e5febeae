-- A product carries as many pebbles as its factors together, less one.
use Rattle.std.proofs.Common.{◌≡◌, ℕ, Bool, true, false, zero, suc, ◌+◌, ◌-◌, ◌*◌, ◌/◌, ◌%◌, ◌==◌, ◌<◌, ◌≤◌, ◌⊎◌}
use Rattle.std.proofs.Common.{List, [], ◌∷◌, ◌++◌, length, take, drop, map, replicate, get_or, set, sym, refl, ◌∙◌}
use Rattle.std.proofs.Common.{ap, subst, arith, inl, inr, not, cond, mod-lt, mul-le-mul_right, div-lt_iff_lt-mul}
use Rattle.std.specs.Prelude.{All, Contains, filter}
use Rattle.std.proofs.lemmas.Bool.{cases_lt, cases_eq, eq-eqb, ne_eqb}
use Rattle.std.proofs.lemmas.Nat.{div-mul-add, mod-mul-add}
use Rattle.std.proofs.lemmas.List.{get_or-set_same, get_or-set_other, length-set, length-append, length-map}
use Rattle.std.proofs.lemmas.List.{length-replicate}
use Rattle.std.proofs.lemmas.List.Elements.{All-set, All-contains, All-from_get_or, All-cons, All-append}
use Rattle.std.proofs.lemmas.List.Elements.{All-replicate, All-map, All-filter, All-take, All-drop}
use Rattle.std.proofs.lemmas.List.Elements.{Contains-append_left, Contains-get_or}
use Rattle.std.proofs.lemmas.List.Filters.{length-filter_both}
use Rattle.board_text.specs.PlainBoard.{PlainBoard, Dominates}
use Rattle.positions.specs.Game.{LabellerTree, moved}
use Rattle.nested_cycles.specs.NestedGame.{other_words}
use Rattle.nested_cycles.proofs.Cited.{contains_none, contains_here, contains_later, contains_cases, contains_map}
use Rattle.nested_cycles.proofs.Cited.{fewer_others, in_others, others_are_labels}
use Rattle.domains.specs.Dominated.{AreDominated, IsHeld}
use Rattle.domains.specs.Products.{IsProduct, IsBelowCopy}

-- ---- lists

kept_more : (test : Bool) (y x : ℕ) (rest : List ℕ) → Contains rest x → Contains (cond test (y ∷ rest) rest) x
kept_more true y x rest has = contains_later y rest x has
kept_more false y x rest has = has

-- an element that passes the test is in the filtered list
pub kept : (test : ℕ → Bool) (xs : List ℕ) (x : ℕ) → Contains xs x → test x ≡ true → Contains (filter test xs) x
kept test [] x has passes = absurd (contains_none x has)
kept test (y ∷ xs) x has passes =
    elim (contains_cases y xs x has) [
      | inl same ↦ subst (λ z. Contains (filter test (z ∷ xs)) x) (sym same)
          (subst (λ t. Contains (cond t (x ∷ filter test xs) (filter test xs)) x) (sym passes)
          (contains_here x (filter test xs)))
      | inr later ↦ kept_more (test y) y x (filter test xs) (kept test xs x later passes)
    ]

-- some label dominates all labels of a list that isn't longer than the count
dominated_few : (board : PlainBoard) (count : ℕ) (labels : List ℕ) → AreDominated board count → 0 < board.labels
    → length labels ≤ count
    → All (λ label. label < board.labels) labels → (label : ℕ) × (label < board.labels)
    × ((other : ℕ) → Contains labels other → Dominates board label other)
dominated_few board count labels dominated some few all =
    let more = replicate (count - length labels) 0 in
    let found = dominated (labels ++ more)
    (omega (arith, length-append labels more, length-replicate {A = ℕ} (count - length labels) 0, few))
    (All-append (λ label. label < board.labels) labels more all
    (All-replicate (λ label. label < board.labels) (count - length labels) 0 some)) in (
      found.0,
      found.1,
      λ other has. All-contains (λ n. Dominates board found.0 n) (labels ++ more) other found.2
          (Contains-append_left labels more other has),
    )

-- ---- the two ways to beat

pub between : (outer inner board : PlainBoard) → IsProduct outer inner board → (x y : ℕ) → x < board.labels
    → y < board.labels
    → Dominates outer (x / inner.labels) (y / inner.labels) → Dominates board x y
between outer inner board product x y x_low y_low beats = (product.beats x y x_low y_low).1 (inl beats)

pub within : (outer inner board : PlainBoard) → IsProduct outer inner board → (x y : ℕ) → x < board.labels
    → y < board.labels
    → x / inner.labels ≡ y / inner.labels → Dominates inner (x % inner.labels) (y % inner.labels) → Dominates board x y
within outer inner board product x y x_low y_low same beats = (product.beats x y x_low y_low).1 (inr (same, beats))

-- ---- one request

-- a label that beats the labels of all other pebbles; all are then in its copy or in one that it beats
record Answer (outer inner board : PlainBoard) (others : List ℕ) : Type 0 where
  copy : ℕ
  is_copy : copy < outer.labels
  label : ℕ
  is_label : label < board.labels
  in_copy : label / inner.labels ≡ copy
  beats : (other : ℕ) → Contains others other → Dominates board label other
  below : IsBelowCopy outer inner copy others

-- whether the label is in the copy
abbrev in_it : PlainBoard → ℕ → ℕ → Bool
in_it inner copy label = label / inner.labels == copy

abbrev out_of_it : PlainBoard → ℕ → ℕ → Bool
out_of_it inner copy label = not (label / inner.labels == copy)

pub label_in : (outer inner board : PlainBoard) (copy part : ℕ) → IsProduct outer inner board → copy < outer.labels
    → part < inner.labels
    → copy * inner.labels + part < board.labels
label_in outer inner board copy part product is_copy is_part =
    let room : (copy + 1) * inner.labels ≤ outer.labels * inner.labels = mul-le-mul_right inner.labels
    (omega (arith, is_copy)) in
    omega (arith, product.labels, room, is_part)

-- few pebbles are outside the copy: a copy that beats it and theirs serves
from_another : (outer inner board : PlainBoard) (count copy : ℕ) (others : List ℕ) → IsProduct outer inner board
    → AreDominated outer count
    → copy < outer.labels → All (λ label. label < board.labels) others
    → All (λ label. label / inner.labels < outer.labels) others
    → length (filter (out_of_it inner copy) others) < count → Answer outer inner board others
from_another outer inner board count copy others product dominated is_copy all copies few =
    let outside = filter (out_of_it inner copy) others in
    let used = copy ∷ map (λ label. label / inner.labels) outside in
    let found = dominated_few outer count used dominated (omega (arith, is_copy))
    (omega (arith, length-map outside (λ (label : ℕ). label / inner.labels), few))
    (All-cons (λ c. c < outer.labels) copy (map (λ label. label / inner.labels) outside) is_copy
    (All-map (λ c. c < outer.labels) (λ (label : ℕ). label / inner.labels) outside
    (All-filter (out_of_it inner copy) (λ label. label / inner.labels < outer.labels) others copies))) in
    let label = found.0 * inner.labels + 0 in
    let is_label = label_in outer inner board found.0 0 product found.1 product.some in
    let in_copy : label / inner.labels ≡ found.0 = div-mul-add found.0 inner.labels 0 product.some in
    let copy_below : (other : ℕ) → Contains others other → Dominates outer found.0 (other / inner.labels)
    = λ other has. elim (cases_eq (other / inner.labels) copy) [
      | inl same ↦ subst (Dominates outer found.0) (sym same)
          (found.2 copy (contains_here copy (map (λ label. label / inner.labels) outside)))
      | inr differs ↦ found.2 (other / inner.labels)
          (contains_later copy (map (λ label. label / inner.labels) outside) (other / inner.labels)
          (contains_map (λ label. label / inner.labels) outside other
          (kept (out_of_it inner copy) others other has (ap not (ne_eqb (other / inner.labels) copy differs)))))
    ] in
    record {
      copy = found.0;
      is_copy = found.1;
      label = label;
      is_label = is_label;
      in_copy = in_copy;
      beats = λ other has. between outer inner board product label other is_label
          (All-contains (λ n. n < board.labels) others other all has)
          (subst (λ c. Dominates outer c (other / inner.labels)) (sym in_copy) (copy_below other has));
      below = λ place d inside. inr (copy_below (get_or others place d) (Contains-get_or others place d inside));
    }

-- few pebbles are in the copy: a label of it that beats theirs serves
from_within : (outer inner board : PlainBoard) (count copy : ℕ) (others : List ℕ) → IsProduct outer inner board
    → AreDominated inner count
    → copy < outer.labels → All (λ label. label < board.labels) others → IsBelowCopy outer inner copy others
    → length (filter (in_it inner copy) others) ≤ count → Answer outer inner board others
from_within outer inner board count copy others product dominated is_copy all below few =
    let inside = filter (in_it inner copy) others in
    let parts = map (λ label. label % inner.labels) inside in
    let found = dominated_few inner count parts dominated product.some
    (omega (arith, length-map inside (λ (label : ℕ). label % inner.labels), few))
    (All-map (λ c. c < inner.labels) (λ (label : ℕ). label % inner.labels) inside
    (λ place d lt. mod-lt (get_or inside place d) product.some)) in
    let label = copy * inner.labels + found.0 in
    let is_label = label_in outer inner board copy found.0 product is_copy found.1 in
    let in_copy : label / inner.labels ≡ copy = div-mul-add copy inner.labels found.0 found.1 in
    let part : label % inner.labels ≡ found.0 = mod-mul-add copy inner.labels found.0 found.1 in
    record {
      copy = copy;
      is_copy = is_copy;
      label = label;
      is_label = is_label;
      in_copy = in_copy;
      beats = λ other has.
          let is_other = All-contains (λ n. n < board.labels) others other all has in
          elim (cases_eq (other / inner.labels) copy) [
            | inl same ↦ within outer inner board product label other is_label is_other (in_copy ∙ sym same)
                (subst (λ n. Dominates inner n (other % inner.labels)) (sym part) (found.2 (other % inner.labels)
                (contains_map (λ label. label % inner.labels) inside other
                (kept (in_it inner copy) others other has (eq-eqb (other / inner.labels) copy same)))))
            | inr differs ↦ between outer inner board product label other is_label is_other
                (subst (λ c. Dominates outer c (other / inner.labels)) (sym in_copy)
                (elim (All-contains (λ n. (n / inner.labels ≡ copy)
                ⊎ Dominates outer copy (n / inner.labels)) others other below has) [
                  | inl same ↦ absurd (differs same)
                  | inr beats ↦ beats
                ]))
          ];
      below = below;
    }

answer : (outer inner board : PlainBoard) (outer_count inner_count copy : ℕ) (others : List ℕ)
    → IsProduct outer inner board
    → AreDominated outer outer_count → AreDominated inner inner_count → copy < outer.labels
    → length others ≡ outer_count + inner_count → All (λ label. label < board.labels) others
    → All (λ label. label / inner.labels < outer.labels) others → IsBelowCopy outer inner copy others
    → Answer outer inner board others
answer outer inner board outer_count inner_count copy others product outer_dominated inner_dominated is_copy long all
    copies below =
    let both = length-filter_both (in_it inner copy) (out_of_it inner copy) (λ label. refl) others in
    elim (cases_lt (length (filter (out_of_it inner copy) others)) outer_count) [
      | inl few ↦ from_another outer inner board outer_count copy others product outer_dominated is_copy all copies
          few
      | inr many ↦ from_within outer inner board inner_count copy others product inner_dominated is_copy all below
          (omega (arith, both, long, many))
    ]

-- ---- for ever

-- if all labels are in the copy or in one that it beats, those of the other pebbles are
others_below : (outer inner : PlainBoard) (copy : ℕ) (configuration : List ℕ) (pebble : ℕ)
    → IsBelowCopy outer inner copy configuration
    → IsBelowCopy outer inner copy (other_words pebble configuration)
others_below outer inner copy configuration pebble below =
    All-append (λ label. (label / inner.labels ≡ copy) ⊎ Dominates outer copy (label / inner.labels))
    (take pebble configuration) (drop (pebble + 1) configuration)
    (All-take (λ label. (label / inner.labels ≡ copy)
    ⊎ Dominates outer copy (label / inner.labels)) pebble configuration below)
    (All-drop (λ label. (label / inner.labels ≡ copy) ⊎ Dominates outer copy (label / inner.labels))
    (pebble + 1) configuration below)

copies_inside : (outer inner board : PlainBoard) (labels : List ℕ) → IsProduct outer inner board
    → All (λ label. label < board.labels) labels
    → All (λ label. label / inner.labels < outer.labels) labels
copies_inside outer inner board labels product all =
    λ place d inside. (div-lt_iff_lt-mul product.some).1
    (subst (λ n. get_or labels place d < n) product.labels (all place d inside))

pub product_lasts : (outer inner board : PlainBoard) (outer_count inner_count depth copy : ℕ) (configuration : List ℕ)
    → IsProduct outer inner board → AreDominated outer outer_count → AreDominated inner inner_count
    → board.pebbles ≡ suc (outer_count + inner_count) → IsHeld board configuration → copy < outer.labels
    → IsBelowCopy outer inner copy configuration → LabellerTree board depth configuration
product_lasts outer inner board outer_count inner_count zero copy configuration product outer_dominated
    inner_dominated more held is_copy below = tt
product_lasts outer inner board outer_count inner_count
    (suc depth) copy configuration product outer_dominated inner_dominated more held is_copy below =
    λ pebble pebble_below.
    let inside : pebble < length configuration = omega (arith, held.0, pebble_below) in
    let others = other_words pebble configuration in
    let fewer = fewer_others configuration pebble inside in
    let all = others_are_labels board.labels configuration pebble held.1 in
    let found = answer outer inner board outer_count inner_count copy others product outer_dominated inner_dominated
    is_copy
    (omega (arith, fewer, held.0, more)) all (copies_inside outer inner board others product all)
    (others_below outer inner copy configuration pebble below) in (
      found.label,
      record {
        is_label = found.is_label;
        dominates = λ other other_below differs low. found.beats (get_or configuration other 0)
            (in_others configuration pebble other (omega (arith, held.0, other_below)) differs);
      },
      product_lasts outer inner board outer_count inner_count depth found.copy
          (moved configuration pebble found.label) product outer_dominated inner_dominated more (
            length-set configuration pebble found.label
                ∙ held.0,
            All-set (λ place. place < board.labels) configuration pebble found.label found.is_label
                held.1,
          )
          found.is_copy
          (All-from_get_or (λ label. (label / inner.labels ≡ found.copy)
          ⊎ Dominates outer found.copy (label / inner.labels)) (set configuration pebble found.label) 0
          (λ place place_inside. let there : place < length configuration = omega
          (arith, length-set configuration pebble found.label, place_inside) in
          elim (cases_eq place pebble) [
            | inl same ↦ subst (λ n. (get_or (set configuration pebble found.label) n 0 / inner.labels ≡ found.copy)
                ⊎ Dominates outer found.copy (get_or (set configuration pebble found.label) n 0 / inner.labels))
                (sym same)
                (inl (ap (λ n. n / inner.labels) (get_or-set_same configuration pebble found.label 0 inside)
                ∙ found.in_copy))
            | inr differs ↦ subst (λ l. (l / inner.labels ≡ found.copy) ⊎ Dominates outer found.copy (l / inner.labels))
                (sym (get_or-set_other configuration pebble place found.label 0 differs))
                (All-contains (λ label. (label / inner.labels ≡ found.copy)
                ⊎ Dominates outer found.copy (label / inner.labels)) others (get_or configuration place 0) found.below
                (in_others configuration pebble place there differs))
          ])),
    )
