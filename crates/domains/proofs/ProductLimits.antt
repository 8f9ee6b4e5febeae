-- A product carries no more pebbles for ever than its factors together, less one.
-- Each outer pebble is represented by a pebble of the product, with a copy that is its label, and the other pebbles of
-- the product are extras. The pebbles have numbers: first those that represent, and then the extras.
use Rattle.std.proofs.Common.{◌≡◌, ◌≢◌, ℕ, zero, suc, ◌+◌, ◌-◌, ◌/◌, ◌%◌, ◌<◌, ◌≤◌, ◌⊎◌, List, length, replicate}
use Rattle.std.proofs.Common.{get_or, map, refl, sym, ◌∙◌, ap, subst, arith, inl, inr, div-lt_iff_lt-mul, mod-lt}
use Rattle.std.specs.List.{range_with_len}
use Rattle.std.proofs.lemmas.Bool.{cases_lt, cases_eq}
use Rattle.std.proofs.lemmas.List.{get_or-set_other, length-set, length-replicate}
use Rattle.std.proofs.lemmas.List.FromFn.{get_or-map-range_with_len, length-map-range_with_len}
use Rattle.std.proofs.lemmas.Grind.{get_or-set_at}
use Rattle.board_text.specs.PlainBoard.{PlainBoard, Dominates, IsAntisymmetric}
use Rattle.positions.specs.Game.{Legal, AdversaryTree, moved}
use Rattle.positions.specs.Value.{HasValue}
use Rattle.positions.specs.declared.value.Value.{Value}
use Rattle.positions.specs.declared.value.Value.TheVariants.{Finite, Forever}
use Rattle.positions.proofs.Cited.{each_or_some}
use Rattle.domains.specs.Products.{IsProduct}
use Rattle.domains.proofs.EachValue.{each_has_value}
use Rattle.domains.proofs.Exchanges.{trade, trade_is, trade_apart, trade_below}
use Rattle.domains.proofs.KeptProperties.{kept_lasts}
use Rattle.domains.proofs.LastingMoves.{AreHeld, all_held, lasting_answer, lasts_or_ends}

-- a request is answered so that all pebbles hold labels and last for ever
record Answered (board : PlainBoard) (held : List ℕ) (pebble : ℕ) : Type 0 where
  label : ℕ
  legal : Legal board held pebble label
  after : AreHeld board board.pebbles (moved held pebble label)

answered : (board : PlainBoard) (held : List ℕ) (pebble : ℕ) → AreHeld board board.pebbles held
    → pebble < board.pebbles → Answered board held pebble
answered board held pebble are below =
    let answer = lasting_answer board held pebble are.long below are.lasts in record {
      label = answer.0;
      legal = answer.1;
      after = record {
        long = length-set held pebble answer.0 ∙ are.long;
        each = λ other other_below. elim (cases_eq other pebble) [
          | inl is ↦ subst (λ n. n < board.labels)
              (sym (get_or-set_at held pebble other answer.0 0 is (omega (arith, are.long, below))))
              answer.1.is_label
          | inr differs ↦ subst (λ n. n < board.labels)
              (sym (get_or-set_other held pebble other answer.0 0 differs))
              (are.each other other_below)
        ];
        lasts = answer.2;
      };
    }

module _ (outer inner board : PlainBoard) (one_way : IsAntisymmetric outer) (product : IsProduct outer inner board)
    (fewer : suc (suc board.pebbles) ≡ outer.pebbles + inner.pebbles) (two : 2 ≤ inner.pebbles) where
  -- the copy and the part of a pebble
  abbrev copy_of : List ℕ → ℕ → ℕ
  copy_of held pebble = get_or held pebble 0 / inner.labels

  abbrev part_of : List ℕ → ℕ → ℕ
  part_of held pebble = get_or held pebble 0 % inner.labels

  -- the copy is the other one or beats it
  abbrev Covers : ℕ → ℕ → Type 0
  Covers copy other = (copy ≡ other) ⊎ Dominates outer copy other

  -- different numbers have different pebbles
  record AreNumbered (at : ℕ → ℕ) : Type 0 where
    below : (i : ℕ) → i < board.pebbles → at i < board.pebbles
    apart : (i j : ℕ) → i < board.pebbles → j < board.pebbles → at i ≡ at j → i ≡ j

  -- the outer pebbles are represented on their labels
  record Represents (c : List ℕ) : Type 0 where
    long : length c ≡ outer.pebbles
    held : List ℕ
    are : AreHeld board board.pebbles held
    at : ℕ → ℕ
    numbered : AreNumbered at
    copies : (i : ℕ) → i < outer.pebbles → get_or c i 0 ≡ copy_of held (at i)

  -- the pebble of the outer domain has an answer that is represented
  abbrev Goes : List ℕ → ℕ → Type 0
  Goes c pebble = (label : ℕ) × Legal outer c pebble label × Represents (moved c pebble label)

  represented_below : (i : ℕ) → i < outer.pebbles → i < board.pebbles
  represented_below i below = omega (arith, below, fewer, two)

  copy_low : (label : ℕ) → label < board.labels → label / inner.labels < outer.labels
  copy_low label low = (div-lt_iff_lt-mul product.some).1 (subst (λ n. label < n) product.labels low)

  -- an answer's copy covers the copies of all other pebbles
  covers : (held : List ℕ) (pebble label other : ℕ) → AreHeld board board.pebbles held
      → Legal board held pebble label → other < board.pebbles → other ≢ pebble
      → Covers (label / inner.labels) (copy_of held other)
  covers held pebble label other are legal below differs =
      let low = are.each other below in
      elim ((product.beats label (get_or held other 0) legal.is_label low).0
      (legal.dominates other below differs low)) [
        | inl beats ↦ inr beats
        | inr same ↦ inl same.0
      ]

  -- and in one copy its part beats theirs
  beats_within : (held : List ℕ) (pebble label other : ℕ) → AreHeld board board.pebbles held
      → Legal board held pebble label → other < board.pebbles → other ≢ pebble
      → label / inner.labels ≡ copy_of held other
      → Dominates inner (label % inner.labels) (part_of held other)
  beats_within held pebble label other are legal below differs same =
      let low = are.each other below in
      elim ((product.beats label (get_or held other 0) legal.is_label low).0
      (legal.dominates other below differs low)) [
        | inl beats ↦
            let itself = subst (λ n. Dominates outer n (copy_of held other)) same beats in
            absurd (one_way (copy_of held other) (copy_of held other) itself itself)
        | inr both ↦ both.1
      ]

  module _ (c : List ℕ) (long : length c ≡ outer.pebbles) (pebble : ℕ) (pebble_below : pebble < outer.pebbles)
      (at : ℕ → ℕ) (numbered : AreNumbered at) where
    -- after an answer to a pebble whose copy beats those of the others that represent, it represents the pebble, and
    -- the pebble's own represents in its stead
    relabelled : (held : List ℕ) (j : ℕ) → j < board.pebbles → AreHeld board board.pebbles held
        → (answer : Answered board held (at j))
        → ((i : ℕ) → i < outer.pebbles → i ≢ pebble → i ≢ j → get_or c i 0 ≡ copy_of held (at i))
        → (j < outer.pebbles → j ≢ pebble → get_or c j 0 ≡ copy_of held (at pebble))
        → ((i : ℕ) → i < outer.pebbles → i ≢ pebble → Dominates outer (answer.label / inner.labels) (get_or c i 0))
        → Goes c pebble
    relabelled held j j_below are answer others stead beats =
        let copy = answer.label / inner.labels in
        let pebble_among : pebble < board.pebbles = represented_below pebble pebble_below in
        let here : get_or (moved held (at j) answer.label) (at j) 0 ≡ answer.label
        = get_or-set_at held (at j) (at j) answer.label 0 refl
        (omega (arith, are.long, numbered.below j j_below)) in (
          copy,
          record {
            is_label = copy_low answer.label answer.legal.is_label;
            dominates = λ other other_below differs low. beats other other_below differs;
          },
          record {
            long = length-set c pebble copy ∙ long;
            held = moved held (at j) answer.label;
            are = answer.after;
            at = λ i. at (trade pebble j i);
            numbered = record {
              below = λ i below.
                  numbered.below (trade pebble j i) (trade_below board.pebbles pebble j i pebble_among j_below below);
              apart = λ i k i_below k_below same.
                  trade_apart pebble j i k
                  (numbered.apart (trade pebble j i) (trade pebble j k)
                  (trade_below board.pebbles pebble j i pebble_among j_below i_below)
                  (trade_below board.pebbles pebble j k pebble_among j_below k_below) same);
            };
            copies = λ i below.
                let is = trade_is pebble j i in
                elim (cases_eq i pebble) [
                  | inl own ↦
                      get_or-set_at c pebble i copy 0 own (omega (arith, long, pebble_below))
                      ∙ (ap (λ (n : ℕ). n / inner.labels) (sym here)
                      ∙ ap (λ (n : ℕ). copy_of (moved held (at j) answer.label) (at n)) (sym (is.first own)))
                  | inr other ↦ elim (cases_eq i j) [
                    | inl same ↦
                        let differs : at pebble ≢ at j = λ one.
                        other (same ∙ sym (numbered.apart pebble j pebble_among j_below one)) in
                        get_or-set_other c pebble i copy 0 other
                        ∙ (ap (λ (n : ℕ). get_or c n 0) same
                        ∙ (stead (subst (λ n. n < outer.pebbles) same below) (λ one. other (same ∙ one))
                        ∙ (ap (λ (n : ℕ). n / inner.labels)
                        (sym (get_or-set_other held (at j) (at pebble) answer.label 0 differs))
                        ∙ ap (λ (n : ℕ). copy_of (moved held (at j) answer.label) (at n)) (sym (is.second same)))))
                    | inr not ↦
                        let differs : at i ≢ at j = λ one.
                        not (numbered.apart i j (represented_below i below) j_below one) in
                        get_or-set_other c pebble i copy 0 other
                        ∙ (others i below other not
                        ∙ (ap (λ (n : ℕ). n / inner.labels)
                        (sym (get_or-set_other held (at j) (at i) answer.label 0 differs))
                        ∙ ap (λ (n : ℕ). copy_of (moved held (at j) answer.label) (at n)) (sym (is.other other not))))
                  ]
                ];
          },
        )

    module _ (q : ℕ) (q_below : q < outer.pebbles) (q_differs : q ≢ pebble)
        (covered : (i : ℕ) → i < outer.pebbles → i ≢ pebble → Covers (get_or c q 0) (get_or c i 0)) where
      -- the copy to which the pebble and the extras come
      abbrev crowd : ℕ
      crowd = get_or c q 0

      -- a copy that beats the crowd's and covers the others beats the others
      beats_all : (copy : ℕ) → Dominates outer copy crowd
          → ((i : ℕ) → i < outer.pebbles → i ≢ pebble → Covers copy (get_or c i 0))
          → (i : ℕ) → i < outer.pebbles → i ≢ pebble → Dominates outer copy (get_or c i 0)
      beats_all copy over all i below differs =
          elim (all i below differs) [
            | inr beats ↦ beats
            | inl same ↦ elim (covered i below differs) [
              | inl one ↦ subst (Dominates outer copy) one over
              | inr back ↦ absurd (one_way copy crowd over (subst (Dominates outer crowd) (sym same) back))
            ]
          ]

      -- the numbers of those in the crowd's copy: the pebble, the other one, and then extras
      abbrev seat : ℕ → ℕ
      seat zero = pebble
      seat (suc zero) = q
      seat (suc (suc k)) = outer.pebbles + k

      seat_below : (k : ℕ) → k < inner.pebbles → seat k < board.pebbles
      seat_below zero below = represented_below pebble pebble_below
      seat_below (suc zero) below = represented_below q q_below
      seat_below (suc (suc k)) below = omega (arith, below, fewer)

      seat_apart : (k l : ℕ) → seat k ≡ seat l → k ≡ l
      seat_apart zero zero same = refl
      seat_apart zero (suc zero) same = absurd (q_differs (sym same))
      seat_apart zero (suc (suc l)) same = absurd (omega (arith, same, pebble_below))
      seat_apart (suc zero) zero same = absurd (q_differs same)
      seat_apart (suc zero) (suc zero) same = refl
      seat_apart (suc zero) (suc (suc l)) same = absurd (omega (arith, same, q_below))
      seat_apart (suc (suc k)) zero same = absurd (omega (arith, same, pebble_below))
      seat_apart (suc (suc k)) (suc zero) same = absurd (omega (arith, same, q_below))
      seat_apart (suc (suc k)) (suc (suc l)) same = omega (arith, same)

      seat_represents : (k : ℕ) → seat k < outer.pebbles → seat k ≢ pebble → seat k ≡ q
      seat_represents zero below differs = absurd (differs refl)
      seat_represents (suc zero) below differs = refl
      seat_represents (suc (suc k)) below differs = absurd (omega (arith, below))

      -- all of the first seats are in the crowd's copy, and the others that represent are where they were
      record Crowded (count : ℕ) (held : List ℕ) : Type 0 where
        are : AreHeld board board.pebbles held
        in_it : (k : ℕ) → k < count → copy_of held (at (seat k)) ≡ crowd
        others : (i : ℕ) → i < outer.pebbles → i ≢ pebble → get_or c i 0 ≡ copy_of held (at i)

      -- an answer to a seat stays in the copy, or is an answer for the pebble
      asked : (count : ℕ) (held : List ℕ) (k : ℕ) → 2 ≤ count → Crowded count held → k < inner.pebbles
          → (answer : Answered board held (at (seat k)))
          → (answer.label / inner.labels ≡ crowd) ⊎ Goes c pebble
      asked count held k some crowded k_below answer =
          let copy = answer.label / inner.labels in
          let j_below = seat_below k k_below in
          let over : (l : ℕ) → l < count → l < inner.pebbles → l ≢ k → Covers copy crowd
          = λ l low l_below differs.
          subst (Covers copy) (crowded.in_it l low)
          (covers held (at (seat k)) answer.label (at (seat l)) crowded.are answer.legal
          (numbered.below (seat l) (seat_below l l_below))
          (λ one. differs (seat_apart l k (numbered.apart (seat l) (seat k) (seat_below l l_below) j_below one)))) in
          let reached : Covers copy crowd = elim (cases_eq k 0) [
            | inl first ↦ over 1 (omega (arith, some)) (omega (arith, two)) (λ one. omega (arith, one, first))
            | inr not ↦ over 0 (omega (arith, some)) (omega (arith, two)) (λ one. not (sym one))
          ] in
          elim reached [
            | inl stays ↦ inl stays
            | inr leaves ↦ inr (relabelled held (seat k) j_below crowded.are answer
                (λ i below differs _. crowded.others i below differs)
                (λ low differs.
                let is = seat_represents k low differs in
                ap (λ (n : ℕ). get_or c n 0) is ∙ sym (crowded.in_it 0 (omega (arith, some))))
                (beats_all copy leaves (λ i below differs.
                elim (cases_eq i (seat k)) [
                  | inl own ↦
                      let is : i ≡ q = own ∙ seat_represents k (subst (λ n. n < outer.pebbles) own below)
                      (λ one. differs (own ∙ one)) in
                      inr (subst (λ n. Dominates outer copy (get_or c n 0)) (sym is) leaves)
                  | inr other ↦
                      subst (Covers copy) (sym (crowded.others i below differs))
                      (covers held (at (seat k)) answer.label (at i) crowded.are answer.legal
                      (numbered.below i (represented_below i below))
                      (λ one. other (numbered.apart i (seat k) (represented_below i below) j_below one)))
                ])))
          ]

      -- if it stays, one more seat may be counted
      stayed : (count more : ℕ) (held : List ℕ) (k : ℕ) → Crowded count held → k < inner.pebbles
          → more ≤ inner.pebbles
          → (answer : Answered board held (at (seat k)))
          → answer.label / inner.labels ≡ crowd
          → ((l : ℕ) → l < more → l ≢ k → l < count)
          → Crowded more (moved held (at (seat k)) answer.label)
      stayed count more held k crowded k_below few answer stays those =
          let j_below = seat_below k k_below in
          let here : copy_of (moved held (at (seat k)) answer.label) (at (seat k)) ≡ crowd
          = ap (λ (n : ℕ). n / inner.labels)
          (get_or-set_at held (at (seat k)) (at (seat k)) answer.label 0 refl
          (omega (arith, crowded.are.long, numbered.below (seat k) j_below))) ∙ stays in
          record {
            are = answer.after;
            in_it = λ l low. elim (cases_eq l k) [
              | inl same ↦ subst
                  (λ n. copy_of (moved held (at (seat k)) answer.label) (at (seat n)) ≡ crowd) (sym same) here
              | inr differs ↦
                  ap (λ (n : ℕ). n / inner.labels)
                  (get_or-set_other held (at (seat k)) (at (seat l)) answer.label 0
                  (λ one. differs (seat_apart l k
                  (numbered.apart (seat l) (seat k) (seat_below l (omega (arith, low, few))) j_below one))))
                  ∙ crowded.in_it l (those l low differs)
            ];
            others = λ i below differs. elim (cases_eq i (seat k)) [
              | inl own ↦
                  let is : seat k ≡ q = seat_represents k (subst (λ n. n < outer.pebbles) own below)
                  (λ one. differs (own ∙ one)) in
                  ap (λ (n : ℕ). get_or c n 0) (own ∙ is)
                  ∙ (sym here
                  ∙ ap (λ (n : ℕ). copy_of (moved held (at (seat k)) answer.label) (at n)) (sym own))
              | inr other ↦
                  crowded.others i below differs
                  ∙ ap (λ (n : ℕ). n / inner.labels)
                  (sym (get_or-set_other held (at (seat k)) (at i) answer.label 0
                  (λ one. other (numbered.apart i (seat k) (represented_below i below) j_below one))))
            ];
          }

      -- the extras are asked one after another
      gathered : (more : ℕ) → 2 + more ≤ inner.pebbles → (held : List ℕ) → Crowded 2 held
          → Goes c pebble ⊎ ((then : List ℕ) × Crowded (2 + more) then)
      gathered zero few held crowded = inr (held, crowded)
      gathered (suc more) few held crowded =
          elim (gathered more (omega (arith, few)) held crowded) [
            | inl goes ↦ inl goes
            | inr before ↦
                let k_below : suc (suc more) < inner.pebbles = omega (arith, few) in
                let answer = answered board before.0 (at (seat (suc (suc more)))) before.1.are
                (numbered.below (seat (suc (suc more))) (seat_below (suc (suc more)) k_below)) in
                elim (asked (2 + more) before.0 (suc (suc more)) (omega arith) before.1 k_below answer) [
                  | inr goes ↦ inl goes
                  | inl stays ↦ inr (
                    moved before.0 (at (seat (suc (suc more)))) answer.label,
                    stayed (2 + more) (2 + suc more) before.0 (suc (suc more)) before.1 k_below few answer stays
                        (λ l low differs. omega (arith, low, differs)),
                  )
                ]
          ]

      -- once as many are in the copy as the inner domain has pebbles, an inner adversary makes one leave
      left : (depth : ℕ) (e held : List ℕ) → length e ≡ inner.pebbles
          → ((k : ℕ) → k < inner.pebbles → get_or e k 0 ≡ part_of held (at (seat k)))
          → Crowded inner.pebbles held → AdversaryTree inner depth e → Goes c pebble
      left zero e held e_long parts crowded tree = absurd tree
      left (suc depth) e held e_long parts crowded tree =
          let k = tree.0 in
          let k_below = tree.1 in
          let j_below = seat_below k k_below in
          let answer = answered board held (at (seat k)) crowded.are (numbered.below (seat k) j_below) in
          elim (asked inner.pebbles held k two crowded k_below answer) [
            | inr goes ↦ goes
            | inl stays ↦
                let part = answer.label % inner.labels in
                let apart : (l : ℕ) → l < inner.pebbles → l ≢ k → at (seat l) ≢ at (seat k)
                = λ l below differs one. differs (seat_apart l k
                (numbered.apart (seat l) (seat k) (seat_below l below) j_below one)) in
                let legal : Legal inner e k part = record {
                  is_label = mod-lt answer.label product.some;
                  dominates = λ l below differs low.
                      subst (Dominates inner part) (sym (parts l below))
                      (beats_within held (at (seat k)) answer.label (at (seat l)) crowded.are answer.legal
                      (numbered.below (seat l) (seat_below l below)) (apart l below differs)
                      (stays ∙ sym (crowded.in_it l below)));
                } in
                left depth (moved e k part) (moved held (at (seat k)) answer.label)
                (length-set e k part ∙ e_long)
                (λ l below. elim (cases_eq l k) [
                  | inl same ↦
                      get_or-set_at e k l part 0 same (omega (arith, e_long, k_below))
                      ∙ ap (λ (n : ℕ). n % inner.labels)
                      (sym (get_or-set_at held (at (seat k)) (at (seat l)) answer.label 0
                      (ap (λ (n : ℕ). at (seat n)) same)
                      (omega (arith, crowded.are.long, numbered.below (seat k) j_below))))
                  | inr differs ↦
                      get_or-set_other e k l part 0 differs
                      ∙ (parts l below
                      ∙ ap (λ (n : ℕ). n % inner.labels)
                      (sym (get_or-set_other held (at (seat k)) (at (seat l)) answer.label 0 (apart l below differs))))
                ])
                (stayed inner.pebbles inner.pebbles held k crowded k_below (omega arith) answer stays
                (λ l low _. low))
                (tree.2 part legal)
          ]

  -- ---- each request of the outer domain

  module _ (ends : (e : List ℕ) → length e ≡ inner.pebbles → HasValue inner e Forever → ⊥) where
    goes : (c : List ℕ) → Represents c → (pebble : ℕ) → pebble < outer.pebbles → Goes c pebble
    goes c r pebble below =
        let among : pebble < board.pebbles = represented_below pebble below in
        let answer = answered board r.held (r.at pebble) r.are (r.numbered.below pebble among) in
        let copy = answer.label / inner.labels in
        let all : (i : ℕ) → i < outer.pebbles → i ≢ pebble → Covers copy (get_or c i 0) = λ i i_below differs.
        subst (Covers copy) (sym (r.copies i i_below))
        (covers r.held (r.at pebble) answer.label (r.at i) r.are answer.legal
        (r.numbered.below i (represented_below i i_below))
        (λ one. differs (r.numbered.apart i pebble (represented_below i i_below) among one))) in
        let apart : (i : ℕ) → i < outer.pebbles → i ≢ pebble → r.at i ≢ r.at pebble = λ i i_below differs one.
        differs (r.numbered.apart i pebble (represented_below i i_below) among one) in
        elim (each_or_some (λ i. i ≢ pebble → Dominates outer copy (get_or c i 0))
        (λ i. (i ≢ pebble) × (copy ≡ get_or c i 0)) outer.pebbles
        (λ i i_below. elim (cases_eq i pebble) [
          | inl same ↦ inl (λ differs. absurd (differs same))
          | inr differs ↦ elim (all i i_below differs) [
            | inl same ↦ inr (differs, same)
            | inr beats ↦ inl (λ _. beats)
          ]
        ])) [
          | inl each ↦ relabelled c r.long pebble below r.at r.numbered r.held pebble among r.are answer
              (λ i i_below _ _. r.copies i i_below) (λ _ differs. absurd (differs refl)) each
          | inr some ↦
              let q = some.0 in
              let covered : (i : ℕ) → i < outer.pebbles → i ≢ pebble → Covers (get_or c q 0) (get_or c i 0)
              = λ i i_below differs. subst (λ n. Covers n (get_or c i 0)) some.2.1 (all i i_below differs) in
              let then = moved r.held (r.at pebble) answer.label in
              let others : (i : ℕ) → i < outer.pebbles → i ≢ pebble → get_or c i 0 ≡ copy_of then (r.at i)
              = λ i i_below differs.
              r.copies i i_below
              ∙ ap (λ (n : ℕ). n / inner.labels)
              (sym (get_or-set_other r.held (r.at pebble) (r.at i) answer.label 0 (apart i i_below differs))) in
              let own : copy_of then (r.at pebble) ≡ get_or c q 0
              = ap (λ (n : ℕ). n / inner.labels)
              (get_or-set_at r.held (r.at pebble) (r.at pebble) answer.label 0 refl
              (omega (arith, r.are.long, r.numbered.below pebble among))) ∙ some.2.1 in
              let first : Crowded c r.long pebble below r.at r.numbered q some.1 some.2.0 covered 2 then = record {
                are = answer.after;
                in_it = λ k low. elim (cases_eq k 0) [
                  | inl zero_is ↦ subst
                      (λ n. copy_of then (r.at (seat c r.long pebble below r.at r.numbered q some.1 some.2.0 covered n))
                      ≡ get_or c q 0) (sym zero_is) own
                  | inr not ↦
                      let one_is : 1 ≡ k = omega (arith, low, not) in
                      subst
                      (λ n. copy_of then (r.at (seat c r.long pebble below r.at r.numbered q some.1 some.2.0 covered n))
                      ≡ get_or c q 0) one_is (sym (others q some.1 some.2.0))
                ];
                others = others;
              } in
              elim (gathered c r.long pebble below r.at r.numbered q some.1 some.2.0 covered (inner.pebbles - 2)
              (omega (arith, two)) then first) [
                | inl there ↦ there
                | inr full ↦ crowd_ends c r pebble below q some.1 some.2.0 covered full.0
                    (subst (λ n. Crowded c r.long pebble below r.at r.numbered q some.1 some.2.0 covered n full.0)
                    (omega (arith, two)) full.1)
              ]
        ]
      where
        crowd_ends : (c : List ℕ) (r : Represents c) (pebble : ℕ) (below : pebble < outer.pebbles) (q : ℕ)
            (q_below : q < outer.pebbles) (q_differs : q ≢ pebble)
            (covered : (i : ℕ) → i < outer.pebbles → i ≢ pebble → Covers (get_or c q 0) (get_or c i 0))
            (held : List ℕ)
            → Crowded c r.long pebble below r.at r.numbered q q_below q_differs covered inner.pebbles held
            → Goes c pebble
        crowd_ends c r pebble below q q_below q_differs covered held crowded =
            let part : ℕ → ℕ = λ k.
            part_of held (r.at (seat c r.long pebble below r.at r.numbered q q_below q_differs covered k)) in
            let e = map part (range_with_len 0 inner.pebbles) in
            let e_long = length-map-range_with_len part 0 inner.pebbles in
            elim (lasts_or_ends inner e e_long) [
              | inl lasts ↦ absurd (ends e e_long lasts)
              | inr tree ↦ left c r.long pebble below r.at r.numbered q q_below q_differs covered tree.0 e held e_long
                  (λ k k_below. get_or-map-range_with_len part 0 inner.pebbles k k 0 k_below (omega arith))
                  crowded tree.1
            ]

    begins : (configuration : List ℕ) → length configuration ≡ board.pebbles → HasValue board configuration Forever
        → (c : List ℕ) × Represents c
    begins configuration long lasts =
        let start = all_held board configuration long lasts board.pebbles (omega arith) in
        let copy : ℕ → ℕ = λ i. copy_of start.0 i in (
          map copy (range_with_len 0 outer.pebbles),
          record {
            long = length-map-range_with_len copy 0 outer.pebbles;
            held = start.0;
            are = start.1;
            at = λ i. i;
            numbered = record { below = λ i below. below; apart = λ i j _ _ same. same };
            copies = λ i below. get_or-map-range_with_len copy 0 outer.pebbles i i 0 below (omega arith);
          },
        )

    outer_lasts : (configuration : List ℕ) → length configuration ≡ board.pebbles
        → HasValue board configuration Forever
        → (c : List ℕ) × (length c ≡ outer.pebbles) × HasValue outer c Forever
    outer_lasts configuration long lasts =
        let start = begins configuration long lasts in
        (start.0, start.1.long, kept_lasts Represents outer goes start.0 start.1)

-- a domain with labels carries one pebble for ever
pub one_lasts : (board : PlainBoard) → 0 < board.labels → board.pebbles ≤ 1 → (c : List ℕ) → length c ≡ board.pebbles
    → HasValue board c Forever
one_lasts board some few c long =
    kept_lasts (λ c. length c ≡ board.pebbles) board
    (λ c long pebble below. (
      0,
      record {
        is_label = some;
        dominates = λ other other_below differs low. absurd (differs (omega (arith, few, below, other_below)));
      },
      length-set c pebble 0 ∙ long,
    ))
    c long

pub outer_lasts_too : (outer inner board : PlainBoard) (configuration : List ℕ) → IsAntisymmetric outer
    → IsProduct outer inner board
    → suc (suc board.pebbles) ≡ outer.pebbles + inner.pebbles
    → length configuration ≡ board.pebbles → HasValue board configuration Forever
    → ((c : List ℕ) → length c ≡ inner.pebbles → HasValue inner c Forever → ⊥)
    → (c : List ℕ) × (length c ≡ outer.pebbles) × HasValue outer c Forever
outer_lasts_too outer inner board configuration one_way product fewer long lasts ends =
    elim (cases_lt inner.pebbles 2) [
      | inr two ↦ outer_lasts outer inner board one_way product fewer two ends configuration long lasts
      | inl few ↦
          let c : List ℕ = replicate inner.pebbles 0 in
          let c_long = length-replicate {A = ℕ} inner.pebbles 0 in
          absurd (ends c c_long (one_lasts inner product.some (omega (arith, few)) c c_long))
    ]

pub product_ends : (outer inner board : PlainBoard) (configuration : List ℕ) → IsAntisymmetric outer
    → IsProduct outer inner board
    → suc (suc board.pebbles) ≡ outer.pebbles + inner.pebbles
    → length configuration ≡ board.pebbles
    → ((c : List ℕ) → length c ≡ outer.pebbles → HasValue outer c Forever → ⊥)
    → ((c : List ℕ) → length c ≡ inner.pebbles → HasValue inner c Forever → ⊥)
    → (number : ℕ) × HasValue board configuration (Finite number)
product_ends outer inner board configuration one_way product fewer long outer_ends inner_ends =
    let found = each_has_value board configuration long in
    finite_of found.0 found.1
  where
    finite_of : (value : Value) → HasValue board configuration value
        → (number : ℕ) × HasValue board configuration (Finite number)
    finite_of (Finite number) has = (number, has)
    finite_of Forever lasts =
        let start = outer_lasts_too outer inner board configuration one_way product fewer long lasts inner_ends in
        absurd (outer_ends start.0 start.1 start.2)
