-- A product lasts as long as the shorter factor, with as many pebbles as both together, less one.
-- Each pebble of the product has a seat, the outer pebble on whose label its copy is. One outer pebble is the head:
-- it dominates all other seats. Each pebble of the product whose seat is the head has a part, the inner pebble on whose
-- label it is within the copy.
use Rattle.std.proofs.Common.{◌≡◌, ◌≢◌, ℕ, zero, suc, ◌+◌, ◌-◌, ◌*◌, ◌/◌, ◌%◌, ◌==◌, ◌<◌, ◌≤◌, ◌⊎◌}
use Rattle.std.proofs.Common.{List, length, replicate, get_or, set, sym, refl, ◌∙◌, ap, subst, arith, inl, inr, cond}
use Rattle.std.proofs.lemmas.Bool.{cases_lt, cases_eq, eq-eqb, ne_eqb}
use Rattle.std.proofs.lemmas.Nat.{div-mul-add, mod-mul-add}
use Rattle.std.proofs.lemmas.List.{get_or-set_other, get_or-replicate, length-set, length-replicate}
use Rattle.std.proofs.lemmas.Grind.{get_or-set_at}
use Rattle.std.proofs.lemmas.List.Elements.{All-set, All-get_or, All-replicate}
use Rattle.board_text.specs.PlainBoard.{PlainBoard, Dominates}
use Rattle.positions.specs.Game.{Legal, LabellerTree, moved}
use Rattle.positions.proofs.Cited.{each_or_some, lasts_at_most}
use Rattle.domains.specs.Dominated.{IsHeld}
use Rattle.domains.specs.Products.{IsProduct}
use Rattle.domains.proofs.Following.{one_label_led}
use Rattle.domains.proofs.ProductBoards.{between, label_in, within}

-- ---- a function with another value at one number

abbrev put : ℕ → ℕ → (ℕ → ℕ) → ℕ → ℕ
put at to f i = cond (i == at) to (f i)

put_at : (at to : ℕ) (f : ℕ → ℕ) (i : ℕ) → i ≡ at → put at to f i ≡ to
put_at at to f i same = ap (λ t. cond t to (f i)) (eq-eqb i at same)

put_other : (at to : ℕ) (f : ℕ → ℕ) (i : ℕ) → i ≢ at → put at to f i ≡ f i
put_other at to f i differs = ap (λ t. cond t to (f i)) (ne_eqb i at differs)

-- ---- a map onto the numbers below n has n arguments or more

onto_most : (m n : ℕ) (f : ℕ → ℕ) → ((v : ℕ) → v < n → (i : ℕ) × (i < m) × (f i ≡ v)) → n ≤ m
onto_most zero n f onto =
    elim (cases_lt 0 n) [
      | inl some ↦ absurd (omega (arith, (onto 0 some).1))
      | inr none ↦ omega (arith, none)
    ]
onto_most (suc m) zero f onto = omega arith
onto_most (suc m) (suc n) f onto =
    let rest = onto_most m n (λ i. cond (f i == n) (f m) (f i)) (λ v below.
    elim (cases_eq (f m) v) [
      | inl last ↦
          let found = onto n (omega arith) in
          elim (cases_eq found.0 m) [
            | inl same ↦ let no : ⊥ = omega (arith, below, last, found.2, ap f same) in absurd no
            | inr differs ↦ (
              found.0,
              omega (arith, found.1, differs),
              ap (λ t. cond t (f m) (f found.0))
                  (eq-eqb (f found.0) n found.2) ∙ last,
            )
          ]
      | inr other ↦
          let found = onto v (omega (arith, below)) in
          elim (cases_eq found.0 m) [
            | inl same ↦ absurd (other (sym (ap f same) ∙ found.2))
            | inr differs ↦ (
              found.0,
              omega (arith, found.1, differs),
              ap (λ t. cond t (f m) (f found.0))
                  (ne_eqb (f found.0) n (λ one. let no : ⊥ = omega (arith, below, found.2, one) in no)) ∙ found.2,
            )
          ]
    ]) in
    omega (arith, rest)

-- ---- seats and parts of the pebbles

record Stand (outer inner board : PlainBoard) (outer_at inner_at : List ℕ) (head : ℕ) (seat part : ℕ → ℕ)
    (configuration : List ℕ) : Type 0 where
  outer_long : length outer_at ≡ outer.pebbles
  inner_long : length inner_at ≡ inner.pebbles
  outer_low : (v : ℕ) → v < outer.pebbles → get_or outer_at v 0 < outer.labels
  inner_low : (k : ℕ) → k < inner.pebbles → get_or inner_at k 0 < inner.labels
  head_below : head < outer.pebbles
  held : IsHeld board configuration
  seats : (i : ℕ) → i < board.pebbles → seat i < outer.pebbles
  copies : (i : ℕ) → i < board.pebbles → get_or configuration i 0 / inner.labels ≡ get_or outer_at (seat i) 0
  parts : (i : ℕ) → i < board.pebbles → seat i ≡ head → (part i < inner.pebbles)
      × (get_or configuration i 0 % inner.labels ≡ get_or inner_at (part i) 0)
  beaten : (i : ℕ) → i < board.pebbles → seat i ≢ head
      → Dominates outer (get_or outer_at head 0) (get_or outer_at (seat i) 0)

-- the number is the seat of another pebble
abbrev Taken : PlainBoard → (ℕ → ℕ) → ℕ → ℕ → Type 0
Taken board seat pebble v = (i : ℕ) × (i < board.pebbles) × (i ≢ pebble) × (seat i ≡ v)

abbrev Free : PlainBoard → (ℕ → ℕ) → ℕ → ℕ → Type 0
Free board seat pebble v = (i : ℕ) → i < board.pebbles → i ≢ pebble → seat i ≢ v

-- the number is the part of another pebble whose seat is the head
abbrev TakenIn : PlainBoard → ℕ → (ℕ → ℕ) → (ℕ → ℕ) → ℕ → ℕ → Type 0
TakenIn board head seat part pebble k = (i : ℕ) × (i < board.pebbles) × (i ≢ pebble) × (seat i ≡ head) × (part i ≡ k)

abbrev FreeIn : PlainBoard → ℕ → (ℕ → ℕ) → (ℕ → ℕ) → ℕ → ℕ → Type 0
FreeIn board head seat part pebble k = (i : ℕ) → i < board.pebbles → i ≢ pebble → seat i ≡ head → part i ≢ k

taken_or_free : (board : PlainBoard) (seat : ℕ → ℕ) (pebble v : ℕ) → Taken board seat pebble v
    ⊎ Free board seat pebble v
taken_or_free board seat pebble v =
    elim (each_or_some (λ i. i ≢ pebble → seat i ≢ v) (λ i. (i ≢ pebble) × (seat i ≡ v)) board.pebbles
    (λ i below. elim (cases_eq i pebble) [
      | inl same ↦ inl (λ differs. absurd (differs same))
      | inr differs ↦ elim (cases_eq (seat i) v) [
        | inl is ↦ inr (differs, is)
        | inr other ↦ inl (λ _. other)
      ]
    ])) [
      | inl each ↦ inr each
      | inr some ↦ inl (some.0, some.1, some.2.0, some.2.1)
    ]

taken_or_free_in : (board : PlainBoard) (head : ℕ) (seat part : ℕ → ℕ) (pebble k : ℕ)
    → TakenIn board head seat part pebble k ⊎ FreeIn board head seat part pebble k
taken_or_free_in board head seat part pebble k =
    elim (each_or_some (λ i. i ≢ pebble → seat i ≡ head → part i ≢ k)
    (λ i. (i ≢ pebble) × (seat i ≡ head) × (part i ≡ k)) board.pebbles
    (λ i below. elim (cases_eq i pebble) [
      | inl same ↦ inl (λ differs. absurd (differs same))
      | inr differs ↦ elim (cases_eq (seat i) head) [
        | inr other ↦ inl (λ _ is. absurd (other is))
        | inl is ↦ elim (cases_eq (part i) k) [
          | inl here ↦ inr (differs, is, here)
          | inr elsewhere ↦ inl (λ _ _. elsewhere)
        ]
      ]
    ])) [
      | inl each ↦ inr each
      | inr some ↦ inl (some.0, some.1, some.2.0, some.2.1, some.2.2)
    ]

-- some seat or some part in the head's copy isn't taken
some_free : (outer inner board : PlainBoard) (head : ℕ) (seat part : ℕ → ℕ) (pebble : ℕ)
    → suc board.pebbles ≡ outer.pebbles + inner.pebbles
    → head < outer.pebbles → pebble < board.pebbles
    → ((v : ℕ) → v < outer.pebbles → Taken board seat pebble v)
    → ((k : ℕ) → k < inner.pebbles → TakenIn board head seat part pebble k) → ⊥
some_free outer inner board head seat part pebble fewer head_below pebble_below seats parts =
    let code : ℕ → ℕ = put pebble head (λ i. cond (seat i == head) (outer.pebbles + part i) (seat i)) in
    let most = onto_most board.pebbles (outer.pebbles + inner.pebbles) code (λ v below.
    elim (cases_eq v head) [
      | inl is ↦ (
        pebble,
        pebble_below,
        put_at pebble head
            (λ i. cond (seat i == head) (outer.pebbles + part i) (seat i)) pebble refl ∙ sym is,
      )
      | inr other ↦ elim (cases_lt v outer.pebbles) [
        | inl low ↦
            let found = seats v low in (
              found.0,
              found.1,
              put_other pebble head (λ i. cond (seat i == head) (outer.pebbles + part i) (seat i)) found.0 found.2
                  ∙ (ap (λ t. cond t (outer.pebbles + part found.0) (seat found.0))
                  (ne_eqb (seat found.0) head (λ one. other (sym found.3 ∙ one))) ∙ found.3),
            )
        | inr high ↦
            let found = parts (v - outer.pebbles) (omega (arith, high, below)) in (
              found.0,
              found.1,
              put_other pebble head (λ i. cond (seat i == head) (outer.pebbles + part i) (seat i)) found.0 found.2
                  ∙ (ap (λ t. cond t (outer.pebbles + part found.0) (seat found.0))
                  (eq-eqb (seat found.0) head found.3) ∙ omega (arith, found.4, high)),
            )
      ]
    ]) in
    omega (arith, most, fewer)

-- ---- a request

-- the label of the product with this copy and part, and the labels that it beats
record Reply (outer inner board : PlainBoard) (copy piece label : ℕ) : Type 0 where
  is_label : label < board.labels
  in_copy : label / inner.labels ≡ copy
  in_part : label % inner.labels ≡ piece
  between : (other : ℕ) → other < board.labels → Dominates outer copy (other / inner.labels)
      → Dominates board label other
  within : (other : ℕ) → other < board.labels → other / inner.labels ≡ copy
      → Dominates inner piece (other % inner.labels)
      → Dominates board label other

reply : (outer inner board : PlainBoard) (copy piece : ℕ) → IsProduct outer inner board → copy < outer.labels
    → piece < inner.labels
    → Reply outer inner board copy piece (copy * inner.labels + piece)
reply outer inner board copy piece product is_copy is_piece =
    let label = copy * inner.labels + piece in
    let is_label = label_in outer inner board copy piece product is_copy is_piece in
    let in_copy : label / inner.labels ≡ copy = div-mul-add copy inner.labels piece is_piece in
    let in_part : label % inner.labels ≡ piece = mod-mul-add copy inner.labels piece is_piece in
    record {
      is_label = is_label;
      in_copy = in_copy;
      in_part = in_part;
      between = λ other is_other beats. between outer inner board product label other is_label is_other
          (subst (λ c. Dominates outer c (other / inner.labels)) (sym in_copy) beats);
      within = λ other is_other same beats. within outer inner board product label other is_label is_other
          (in_copy ∙ sym same)
          (subst (λ n. Dominates inner n (other % inner.labels)) (sym in_part) beats);
    }

-- the asked pebble goes to a new copy, on a seat that no other pebble has; the parts begin anew
to_new_copy : (outer inner board : PlainBoard) (outer_at inner_at : List ℕ) (head : ℕ) (seat part : ℕ → ℕ)
    (configuration : List ℕ) (pebble v copy piece : ℕ)
    → Stand outer inner board outer_at inner_at head seat part configuration → pebble < board.pebbles
    → v < outer.pebbles → 0 < inner.pebbles
    → Free board seat pebble v → Legal outer outer_at v copy
    → (stands : Reply outer inner board copy piece (copy * inner.labels + piece)) → piece < inner.labels
    → Stand outer inner board (moved outer_at v copy) (replicate inner.pebbles piece) v (put pebble v seat)
    (put pebble 0 part)
    (moved configuration pebble (copy * inner.labels + piece))
to_new_copy outer inner board outer_at inner_at head seat part configuration pebble v copy piece s pebble_below
    v_below some free legal stands is_piece =
    let label = copy * inner.labels + piece in
    let inside : pebble < length configuration = omega (arith, s.held.0, pebble_below) in
    let outer_inside : v < length outer_at = omega (arith, s.outer_long, v_below) in
    let seat_elsewhere : (i : ℕ) → i < board.pebbles → i ≢ pebble → put pebble v seat i ≢ v
    = λ i below differs one. free i below differs (sym (put_other pebble v seat i differs) ∙ one) in
    record {
      outer_long = length-set outer_at v copy ∙ s.outer_long;
      inner_long = length-replicate {A = ℕ} inner.pebbles piece;
      outer_low = λ u below. elim (cases_eq u v) [
        | inl same ↦ subst (λ n. n < outer.labels)
            (sym (get_or-set_at outer_at v u copy 0 same outer_inside)) legal.is_label
        | inr differs ↦ subst (λ n. n < outer.labels) (sym (get_or-set_other outer_at v u copy 0 differs))
            (s.outer_low u below)
      ];
      inner_low = λ k below. subst (λ n. n < inner.labels)
          (sym (get_or-replicate inner.pebbles k piece 0 below)) is_piece;
      head_below = v_below;
      held = (
        length-set configuration pebble label
            ∙ s.held.0,
        All-set (λ place. place < board.labels) configuration pebble label stands.is_label s.held.1,
      );
      seats = λ i below. elim (cases_eq i pebble) [
        | inl same ↦ subst (λ n. n < outer.pebbles) (sym (put_at pebble v seat i same)) v_below
        | inr differs ↦ subst (λ n. n < outer.pebbles) (sym (put_other pebble v seat i differs)) (s.seats i below)
      ];
      copies = λ i below. elim (cases_eq i pebble) [
        | inl same ↦ ap (λ n. n / inner.labels) (get_or-set_at configuration pebble i label 0 same inside)
            ∙ (stands.in_copy ∙ sym (get_or-set_at outer_at v (put pebble v seat i) copy 0
            (put_at pebble v seat i same) outer_inside))
        | inr differs ↦ ap (λ n. n / inner.labels) (get_or-set_other configuration pebble i label 0 differs)
            ∙ (s.copies i below ∙ (ap (λ n. get_or outer_at n 0) (sym (put_other pebble v seat i differs))
            ∙ sym (get_or-set_other outer_at v (put pebble v seat i) copy 0 (seat_elsewhere i below differs))))
      ];
      parts = λ i below is. elim (cases_eq i pebble) [
        | inl same ↦ (
          subst (λ n. n < inner.pebbles) (sym (put_at pebble 0 part i same)) some,
          ap (λ n. n % inner.labels) (get_or-set_at configuration pebble i label 0 same inside)
              ∙ (stands.in_part ∙ sym (get_or-replicate inner.pebbles (put pebble 0 part i) piece 0
              (subst (λ n. n < inner.pebbles) (sym (put_at pebble 0 part i same)) some))),
        )
        | inr differs ↦ absurd (seat_elsewhere i below differs is)
      ];
      beaten = λ i below other. elim (cases_eq i pebble) [
        | inl same ↦ absurd (other (put_at pebble v seat i same))
        | inr differs ↦
            let there = put_other pebble v seat i differs in
            subst (λ n. Dominates outer n (get_or (set outer_at v copy) (put pebble v seat i) 0))
            (sym (get_or-set_at outer_at v v copy 0 refl outer_inside))
            (subst (Dominates outer copy) (sym (get_or-set_other outer_at v (put pebble v seat i) copy 0
            (seat_elsewhere i below differs)))
            (legal.dominates (put pebble v seat i) (subst (λ n. n < outer.pebbles) (sym there) (s.seats i below))
            (seat_elsewhere i below differs)
            (subst (λ n. get_or outer_at n 0 < outer.labels) (sym there) (s.outer_low (seat i) (s.seats i below)))))
      ];
    }

-- the asked pebble goes to another part of the head's copy, which no other pebble has there
to_new_part : (outer inner board : PlainBoard) (outer_at inner_at : List ℕ) (head : ℕ) (seat part : ℕ → ℕ)
    (configuration : List ℕ) (pebble k piece : ℕ)
    → Stand outer inner board outer_at inner_at head seat part configuration → pebble < board.pebbles
    → k < inner.pebbles
    → FreeIn board head seat part pebble k → Legal inner inner_at k piece
    → (stands : Reply outer inner board (get_or outer_at head 0) piece
    (get_or outer_at head 0 * inner.labels + piece))
    → Stand outer inner board outer_at (moved inner_at k piece) head (put pebble head seat) (put pebble k part)
    (moved configuration pebble (get_or outer_at head 0 * inner.labels + piece))
to_new_part outer inner board outer_at inner_at head seat part configuration pebble k piece s pebble_below k_below
    free legal stands =
    let label = get_or outer_at head 0 * inner.labels + piece in
    let inside : pebble < length configuration = omega (arith, s.held.0, pebble_below) in
    let inner_inside : k < length inner_at = omega (arith, s.inner_long, k_below) in
    record {
      outer_long = s.outer_long;
      inner_long = length-set inner_at k piece ∙ s.inner_long;
      outer_low = s.outer_low;
      inner_low = λ u below. elim (cases_eq u k) [
        | inl same ↦ subst (λ n. n < inner.labels)
            (sym (get_or-set_at inner_at k u piece 0 same inner_inside)) legal.is_label
        | inr differs ↦ subst (λ n. n < inner.labels) (sym (get_or-set_other inner_at k u piece 0 differs))
            (s.inner_low u below)
      ];
      head_below = s.head_below;
      held = (
        length-set configuration pebble label
            ∙ s.held.0,
        All-set (λ place. place < board.labels) configuration pebble label stands.is_label s.held.1,
      );
      seats = λ i below. elim (cases_eq i pebble) [
        | inl same ↦ subst (λ n. n < outer.pebbles) (sym (put_at pebble head seat i same)) s.head_below
        | inr differs ↦ subst (λ n. n < outer.pebbles) (sym (put_other pebble head seat i differs)) (s.seats i below)
      ];
      copies = λ i below. elim (cases_eq i pebble) [
        | inl same ↦ ap (λ n. n / inner.labels) (get_or-set_at configuration pebble i label 0 same inside)
            ∙ (stands.in_copy ∙ ap (λ n. get_or outer_at n 0) (sym (put_at pebble head seat i same)))
        | inr differs ↦ ap (λ n. n / inner.labels) (get_or-set_other configuration pebble i label 0 differs)
            ∙ (s.copies i below ∙ ap (λ n. get_or outer_at n 0) (sym (put_other pebble head seat i differs)))
      ];
      parts = λ i below is. elim (cases_eq i pebble) [
        | inl same ↦ (
          subst (λ n. n < inner.pebbles) (sym (put_at pebble k part i same)) k_below,
          ap (λ n. n % inner.labels) (get_or-set_at configuration pebble i label 0 same inside)
              ∙ (stands.in_part ∙ sym (get_or-set_at inner_at k (put pebble k part i) piece 0
              (put_at pebble k part i same) inner_inside)),
        )
        | inr differs ↦
            let was = s.parts i below (sym (put_other pebble head seat i differs) ∙ is) in
            let there = put_other pebble k part i differs in (
              subst (λ n. n < inner.pebbles) (sym there) was.0,
              ap (λ n. n % inner.labels) (get_or-set_other configuration pebble i label 0 differs)
                  ∙ (was.1 ∙ (ap (λ n. get_or inner_at n 0) (sym there)
                  ∙ sym (get_or-set_other inner_at k (put pebble k part i) piece 0
                  (λ one. free i below differs (sym (put_other pebble head seat i differs) ∙ is)
                  (sym there ∙ one))))),
            )
      ];
      beaten = λ i below other. elim (cases_eq i pebble) [
        | inl same ↦ absurd (other (put_at pebble head seat i same))
        | inr differs ↦
            let there = put_other pebble head seat i differs in
            subst (λ n. Dominates outer (get_or outer_at head 0) (get_or outer_at n 0)) (sym there)
            (s.beaten i below (λ one. other (there ∙ one)))
      ];
    }

-- ---- requests

stands_last : (outer inner board : PlainBoard) (depth : ℕ) (first : ℕ) (outer_at inner_at : List ℕ) (head : ℕ)
    (seat part : ℕ → ℕ) (configuration : List ℕ)
    → IsProduct outer inner board → suc board.pebbles ≡ outer.pebbles + inner.pebbles → 0 < inner.pebbles
    → first < inner.labels
    → LabellerTree inner depth (replicate inner.pebbles first)
    → Stand outer inner board outer_at inner_at head seat part configuration
    → LabellerTree outer depth outer_at → LabellerTree inner depth inner_at → LabellerTree board depth configuration
stands_last outer inner board zero first outer_at inner_at head seat part configuration product fewer some is_first
    anew s outer_tree inner_tree = tt
stands_last outer inner board (suc depth) first outer_at inner_at head seat part configuration product fewer some
    is_first anew s outer_tree inner_tree =
    λ pebble pebble_below.
    let is_other : (i : ℕ) → i < board.pebbles → get_or configuration i 0 < board.labels
    = λ i below. All-get_or (λ place. place < board.labels) configuration i 0
    (omega (arith, s.held.0, below)) s.held.1 in
    elim (each_or_some (Taken board seat pebble) (Free board seat pebble) outer.pebbles
    (λ v _. taken_or_free board seat pebble v)) [
      | inr found ↦
          let v = found.0 in
          let answer = outer_tree v found.1 in
          let stands = reply outer inner board answer.0 first product answer.1.is_label is_first in (
            answer.0 * inner.labels + first,
            record {
              is_label = stands.is_label;
              dominates = λ other below differs low. stands.between (get_or configuration other 0)
                  (is_other other below)
                  (subst (Dominates outer answer.0) (sym (s.copies other below))
                  (answer.1.dominates (seat other) (s.seats other below) (found.2 other below differs)
                  (s.outer_low (seat other) (s.seats other below))));
            },
            stands_last outer inner board depth first (moved outer_at v answer.0) (replicate inner.pebbles first) v
                (put pebble v seat) (put pebble 0 part)
                (moved configuration pebble (answer.0 * inner.labels + first)) product fewer some is_first
                (lasts_at_most inner (replicate inner.pebbles first) depth (suc depth) (omega arith) anew)
                (to_new_copy outer inner board outer_at inner_at head seat part configuration pebble v answer.0
                first s pebble_below found.1 some found.2 answer.1 stands is_first)
                answer.2 (lasts_at_most inner (replicate inner.pebbles first) depth (suc depth) (omega arith) anew),
          )
      | inl seats ↦ elim (each_or_some (TakenIn board head seat part pebble)
          (FreeIn board head seat part pebble) inner.pebbles
          (λ k _. taken_or_free_in board head seat part pebble k)) [
            | inl parts ↦ absurd
                (some_free outer inner board head seat part pebble fewer s.head_below pebble_below seats parts)
            | inr found ↦
                let k = found.0 in
                let answer = inner_tree k found.1 in
                let copy = get_or outer_at head 0 in
                let stands = reply outer inner board copy answer.0 product
                (s.outer_low head s.head_below) answer.1.is_label in (
                  copy * inner.labels + answer.0,
                  record {
                    is_label = stands.is_label;
                    dominates = λ other below differs low. elim (cases_eq (seat other) head) [
                      | inl same ↦
                          let there = s.parts other below same in
                          stands.within (get_or configuration other 0) (is_other other below)
                          (s.copies other below ∙ ap (λ n. get_or outer_at n 0) same)
                          (subst (Dominates inner answer.0) (sym there.1)
                          (answer.1.dominates (part other) there.0 (found.2 other below differs same)
                          (s.inner_low (part other) there.0)))
                      | inr elsewhere ↦ stands.between (get_or configuration other 0) (is_other other below)
                          (subst (Dominates outer copy) (sym (s.copies other below)) (s.beaten other below elsewhere))
                    ];
                  },
                  stands_last outer inner board depth first outer_at (moved inner_at k answer.0) head
                      (put pebble head seat) (put pebble k part)
                      (moved configuration pebble (copy * inner.labels + answer.0)) product fewer some is_first
                      (lasts_at_most inner (replicate inner.pebbles first) depth (suc depth) (omega arith) anew)
                      (to_new_part outer inner board outer_at inner_at head seat part configuration pebble k
                      answer.0 s pebble_below found.1 found.2 answer.1 stands)
                      (lasts_at_most outer outer_at depth (suc depth) (omega arith) outer_tree) answer.2,
                )
          ]
    ]

-- without an outer pebble the product has one pebble fewer than the inner domain, and lasts in one copy
lasts_in_copy : (outer inner board : PlainBoard) (depth copy piece : ℕ) → IsProduct outer inner board
    → suc board.pebbles ≡ inner.pebbles → copy < outer.labels → piece < inner.labels
    → LabellerTree inner depth (replicate inner.pebbles piece)
    → LabellerTree board depth (replicate board.pebbles (copy * inner.labels + piece))
lasts_in_copy outer inner board depth copy piece product fewer is_copy is_piece tree =
    one_label_led board inner (λ part. copy * inner.labels + part) depth piece
    (record {
      labels = λ part low. label_in outer inner board copy part product is_copy low;
      beats = λ x y x_low y_low beats. (reply outer inner board copy x product is_copy x_low).within
          (copy * inner.labels + y) (label_in outer inner board copy y product is_copy y_low)
          (div-mul-add copy inner.labels y y_low)
          (subst (Dominates inner x) (sym (mod-mul-add copy inner.labels y y_low)) beats);
      leaders = λ pebble below. omega (arith, fewer, below);
      apart = λ pebble other below other_below one. one;
    })
    is_piece tree

-- without an inner pebble the product has one pebble fewer than the outer domain, and lasts on one part of each copy
lasts_on_part : (outer inner board : PlainBoard) (depth copy piece : ℕ) → IsProduct outer inner board
    → suc board.pebbles ≡ outer.pebbles → copy < outer.labels → piece < inner.labels
    → LabellerTree outer depth (replicate outer.pebbles copy)
    → LabellerTree board depth (replicate board.pebbles (copy * inner.labels + piece))
lasts_on_part outer inner board depth copy piece product fewer is_copy is_piece tree =
    one_label_led board outer (λ n. n * inner.labels + piece) depth copy
    (record {
      labels = λ n low. label_in outer inner board n piece product low is_piece;
      beats = λ x y x_low y_low beats. (reply outer inner board x piece product x_low is_piece).between
          (y * inner.labels + piece) (label_in outer inner board y piece product y_low is_piece)
          (subst (Dominates outer x) (sym (div-mul-add y inner.labels piece is_piece)) beats);
      leaders = λ pebble below. omega (arith, fewer, below);
      apart = λ pebble other below other_below one. one;
    })
    is_copy tree

some_factors_last : (outer inner board : PlainBoard) (depth copy piece : ℕ) → IsProduct outer inner board
    → suc board.pebbles ≡ outer.pebbles + inner.pebbles
    → 0 < outer.pebbles → 0 < inner.pebbles → copy < outer.labels → piece < inner.labels
    → LabellerTree outer depth (replicate outer.pebbles copy)
    → LabellerTree inner depth (replicate inner.pebbles piece)
    → LabellerTree board depth (replicate board.pebbles (copy * inner.labels + piece))
some_factors_last outer inner board depth copy piece product fewer outer_some some is_copy is_piece outer_tree
    inner_tree =
    let stands = reply outer inner board copy piece product is_copy is_piece in
    let label = copy * inner.labels + piece in
    stands_last outer inner board depth piece (replicate outer.pebbles copy) (replicate inner.pebbles piece) 0
    (λ _. 0) (λ _. 0) (replicate board.pebbles label)
    product fewer some is_piece inner_tree
    (record {
      outer_long = length-replicate {A = ℕ} outer.pebbles copy;
      inner_long = length-replicate {A = ℕ} inner.pebbles piece;
      outer_low = λ v below. subst (λ n. n < outer.labels)
          (sym (get_or-replicate outer.pebbles v copy 0 below)) is_copy;
      inner_low = λ k below. subst (λ n. n < inner.labels)
          (sym (get_or-replicate inner.pebbles k piece 0 below)) is_piece;
      head_below = outer_some;
      held = (
        length-replicate {A = ℕ} board.pebbles label,
        All-replicate
            (λ place. place < board.labels) board.pebbles label stands.is_label,
      );
      seats = λ i below. outer_some;
      copies = λ i below. ap (λ n. n / inner.labels) (get_or-replicate board.pebbles i label 0 below)
          ∙ (stands.in_copy ∙ sym (get_or-replicate outer.pebbles 0 copy 0 outer_some));
      parts = λ i below is. (
        some,
        ap (λ n. n % inner.labels) (get_or-replicate board.pebbles i label 0 below)
            ∙ (stands.in_part ∙ sym (get_or-replicate inner.pebbles 0 piece 0 some)),
      );
      beaten = λ i below other. absurd (other refl);
    })
    outer_tree inner_tree

-- the product lasts from all pebbles on one label
pub factors_last : (outer inner board : PlainBoard) (depth copy piece : ℕ) → IsProduct outer inner board
    → suc board.pebbles ≡ outer.pebbles + inner.pebbles → copy < outer.labels → piece < inner.labels
    → LabellerTree outer depth (replicate outer.pebbles copy)
    → LabellerTree inner depth (replicate inner.pebbles piece)
    → LabellerTree board depth (replicate board.pebbles (copy * inner.labels + piece))
factors_last outer inner board depth copy piece product fewer is_copy is_piece outer_tree inner_tree =
    elim (cases_lt 0 outer.pebbles) [
      | inr none ↦ lasts_in_copy outer inner board depth copy piece product (omega (arith, none, fewer)) is_copy
          is_piece inner_tree
      | inl outer_some ↦ elim (cases_lt 0 inner.pebbles) [
        | inr none ↦ lasts_on_part outer inner board depth copy piece product (omega (arith, none, fewer)) is_copy
            is_piece outer_tree
        | inl some ↦ some_factors_last outer inner board depth copy piece product fewer outer_some some is_copy is_piece
            outer_tree inner_tree
      ]
    ]
