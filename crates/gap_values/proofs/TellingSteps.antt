-- Closed gaps are told to the sets of their lists.
use Rattle.std.proofs.Common.{◌≡◌, ◌≢◌, ℕ, suc, ◌+◌, ◌-◌, ◌<◌, ◌≤◌, ◌⊎◌, ◌↔◌, true, List, [], length, get_or, set, sym}
use Rattle.std.proofs.Common.{replicate, ap, ◌∙◌, subst, inl, inr, arith, refl}
use Rattle.std.specs.List.{remove}
use Rattle.std.proofs.lemmas.Bool.{cases_eq}
use Rattle.std.proofs.lemmas.List.{length-set, get_or-set_same, get_or-set_other, length-replicate, get_or-replicate}
use Rattle.board_text.specs.Domination.{has_bit}
use Rattle.board_text.specs.PlainBoard.{PlainBoard, IsBoard, places}
use Rattle.board_text.specs.declared.board.TheConstants.{MAX_LABELS}
use Rattle.board_text.proofs.Cited.{label_is_place}
use Rattle.classes.specs.Classes.{IsClass, put}
use Rattle.classes.specs.Numbers.{ways, number_by_greatest, class_with}
use Rattle.classes.proofs.Cited.{is-below, put-is, with-number, put-back, IsPart, part-of, remove-is}
use Rattle.gap_values.specs.Inside.Sets.{HasLabel, AreSetsOf, IsTold, IsGapToldTo, IsOfRound}
use Rattle.gap_values.specs.GapTables.{IsClosedBefore}
use Rattle.gap_values.specs.RoundWords.{round_of_word}
use Rattle.gap_values.specs.Inside.Words.{IsClosedUpTo}
use Rattle.gap_values.proofs.Words.{before-from, before-to}

-- ---- one gap

pub gap-told-none : (b : PlainBoard) (gap : List ℕ) (old : List (List ℕ)) → IsGapToldTo b gap 0 old old
gap-told-none b gap old = record {
  same_length = refl;
  kept = λ at label low has. has;
  only = λ at label low has. inl has;
  told = λ index none. absurd (omega arith);
}

pub gap-told-more : (b : PlainBoard) (gap : List ℕ) (index list place : ℕ) (old now new : List (List ℕ))
    → IsBoard b → index < length gap → list ≡ number_by_greatest (remove gap index) → place ≡ get_or gap index 0
    → IsGapToldTo b gap index old now → IsTold b list place now new → IsGapToldTo b gap (index + 1) old new
gap-told-more b gap index list place old now new is inside list_is place_is was told = record {
  same_length = told.same_length ∙ was.same_length;
  kept = λ at label low has. told.kept at label low (was.kept at label low has);
  only = λ at label low has. elim (told.only at label low has) [
    | inl before ↦ was.only at label low before
    | inr here ↦ inr (index, inside, here.0 ∙ list_is, here.1 ∙ place_is)
  ];
  told = λ other under low. elim (cases_eq other index) [
    | inl same ↦
        let place_low : place < b.labels =
        subst (λ n. n < b.labels) (ap (λ n. get_or gap n 0) same ∙ sym place_is) low in
        let here : HasLabel new (number_by_greatest (remove gap index)) (get_or gap index 0) =
        subst (λ n. HasLabel new n (get_or gap index 0)) list_is
        (subst (HasLabel new list) place_is (told.told place_low)) in
        subst (λ n. HasLabel new (number_by_greatest (remove gap n)) (get_or gap n 0)) (sym same) here
    | inr differ ↦
        let few = is.labels.1 in
        told.kept (number_by_greatest (remove gap other)) (get_or gap other 0) (omega arith)
        (was.told other (omega (arith, differ)) low)
  ];
}

-- ---- gaps one after the other

-- empty sets are those of no gaps
pub sets-none : (b : PlainBoard) → IsBoard b → (None : ℕ → Type 0) (none : List ℕ) (sets : List (List ℕ))
    → sets ≡ replicate (ways (b.pebbles - 2) (places b)) none
    → ((x : ℕ) → x < MAX_LABELS → (has_bit none x ≡ true) ↔ (x < 0)) → ((gap : ℕ) → None gap → ⊥)
    → AreSetsOf b None sets
sets-none b is None none sets all_none empty nothing =
    let many : ℕ = ways (b.pebbles - 2) (places b) in
    record {
      many = ap length all_none ∙ length-replicate {A = List ℕ} many none;
      each = λ list list_is label low.
          let few = is.labels.1 in
          let number_low : number_by_greatest list < many = is-below (places b) (b.pebbles - 2) list list_is in
          let own : get_or sets (number_by_greatest list) [] ≡ none =
          ap (λ l. get_or l (number_by_greatest list) []) all_none
          ∙ get_or-replicate {A = List ℕ} many (number_by_greatest list) none [] number_low in (
            λ has.
                let under : label < 0 = (empty label (omega arith)).0 (ap (λ s. has_bit s label) (sym own) ∙ has) in
                absurd (omega arith),
            λ some. absurd (nothing (number_by_greatest (put label list)) some),
          );
    }

module _ (b : PlainBoard) (is : IsBoard b) (some : 2 ≤ b.pebbles) where
  abbrev bound : ℕ
  bound = places b

  same-list : (count : ℕ) (one other : List ℕ) → IsClass bound count one → IsClass bound count other
      → number_by_greatest one ≡ number_by_greatest other → one ≡ other
  same-list count one other one_is other_is same =
      sym (with-number bound count one one_is) ∙ ap (class_with bound count) same
      ∙ with-number bound count other other_is

  made-is : (list : List ℕ) (label : ℕ) → IsClass bound (b.pebbles - 2) list → label < b.labels
      → IsClass bound (b.pebbles - 1) (put label list)
  made-is list label is_list low =
      let one : suc (b.pebbles - 2) ≡ b.pebbles - 1 = omega arith in
      subst (λ n. IsClass bound n (put label list)) one
      (put-is bound (b.pebbles - 2) label list is_list (label_is_place b label low))

  -- sets of some gaps are those of the same gaps said otherwise
  pub sets-same : (One Other : ℕ → Type 0) (sets : List (List ℕ))
      → ((gap : ℕ) → gap < ways (b.pebbles - 1) bound → One gap ↔ Other gap)
      → AreSetsOf b One sets → AreSetsOf b Other sets
  sets-same One Other sets same are = record {
    many = are.many;
    each = λ list is_list label low.
        let gap : ℕ = number_by_greatest (put label list) in
        let gap_low : gap < ways (b.pebbles - 1) bound =
        is-below bound (b.pebbles - 1) (put label list) (made-is list label is_list low) in (
          λ has. (same gap gap_low).0 ((are.each list is_list label low).0 has),
          λ is_one. (are.each list is_list label low).1 ((same gap gap_low).1 is_one),
        );
  }

  -- once a gap is told, the sets are those of one gap more
  pub sets-gap : (Among : ℕ → Type 0) (all : ℕ) (gap : List ℕ) (old new : List (List ℕ))
      → IsClass bound (b.pebbles - 1) gap → all ≡ length gap
      → AreSetsOf b Among old → IsGapToldTo b gap all old new
      → AreSetsOf b (λ n. Among n ⊎ (n ≡ number_by_greatest gap)) new
  sets-gap Among all gap old new is_gap all_is was told =
      let long : length gap ≡ b.pebbles - 1 = is_gap.size in
      let own : IsClass bound (length gap) gap = record { size = refl; falls = is_gap.falls } in
      let small : (label : ℕ) → label < b.labels → label < MAX_LABELS =
      λ label low. (let few = is.labels.1 in omega arith) in
      record {
        many = told.same_length ∙ was.many;
        each = λ list is_list label low. (
          λ has. elim (told.only (number_by_greatest list) label (small label low) has) [
            | inl before ↦ inl ((was.each list is_list label low).0 before)
            | inr here ↦
                let index : ℕ = here.0 in
                let inside : index < length gap = here.1 in
                let list_is : list ≡ remove gap index =
                same-list (b.pebbles - 2) list (remove gap index) is_list
                (remove-is bound gap index (b.pebbles - 2) inside own (omega arith)) here.2 in
                let gap_is : put label list ≡ gap =
                ap (put label) list_is ∙ ap (λ l. put l (remove gap index)) here.3
                ∙ put-back bound gap index own inside in
                inr (ap number_by_greatest gap_is)
          ],
          λ among. elim among [
            | inl before ↦ told.kept (number_by_greatest list) label (small label low)
                ((was.each list is_list label low).1 before)
            | inr here ↦
                let made : put label list ≡ gap =
                same-list (b.pebbles - 1) (put label list) gap (made-is list label is_list low) is_gap here in
                let part : IsPart gap list label = part-of bound gap list label own made in
                let among_gap : part.index < length gap = part.inside in
                subst (λ l. HasLabel new (number_by_greatest l) label) part.list_is
                (subst (HasLabel new (number_by_greatest (remove gap part.index))) part.label_is
                (told.told part.index (omega arith) (subst (λ n. n < b.labels) (sym part.label_is) low)))
          ],
        );
      }

-- ---- gaps whose words are a round's, and one more of them

pub round-none : (round first : ℕ) (words : List ℕ)
    → ((index : ℕ) → index < length words → get_or words index 0 ≢ round)
    → (gap : ℕ) → IsOfRound round first words gap → ⊥
round-none round first words fresh gap some = fresh some.0 some.2 some.3

pub round-more : (round first index : ℕ) (words : List ℕ) → index < length words → get_or words index 0 ≢ round
    → (gap : ℕ)
    → (IsOfRound round first words gap ⊎ (gap ≡ first + index)) ↔ IsOfRound round first (set words index round) gap
round-more round first index words inside other gap =
    let size : length (set words index round) ≡ length words = length-set words index round in (
      λ either. elim either [
        | inl before ↦
            let at : ℕ = before.0 in
            let low : at < length words = before.2 in
            let differ : at ≢ index = λ same. other (ap (λ n. get_or words n 0) (sym same) ∙ before.3) in
            (at, before.1, omega arith, get_or-set_other words index at round 0 differ ∙ before.3)
        | inr here ↦ (index, sym here, omega arith, get_or-set_same words index round 0 inside)
      ],
      λ after.
          let at : ℕ = after.0 in
          let low : at < length (set words index round) = after.2 in
          elim (cases_eq at index) [
            | inl same ↦ inr (sym after.1 ∙ ap (λ n. first + n) same)
            | inr differ ↦ inl (
              at,
              after.1,
              omega arith,
              sym (get_or-set_other words index at round 0 differ) ∙ after.3,
            )
          ],
    )

-- ---- gaps that closed before a bound, and one more of them

pub closed-more : (words : List ℕ) (bound end gap : ℕ) → bound ≤ 4294967295 → get_or words end 0 < bound
    → (IsClosedUpTo words bound end gap ⊎ (gap ≡ end)) ↔ IsClosedUpTo words bound (end + 1) gap
closed-more words bound end gap few low = (
  λ either. elim either [
    | inl before ↦ (omega (arith, before.0), before.1)
    | inr here ↦ (
      omega (arith, here),
      subst (λ n. IsClosedBefore (round_of_word (get_or words n 0)) bound) (sym here)
          (before-from (get_or words end 0) bound low (omega (arith, few, low))),
    )
  ],
  λ after. elim (cases_eq gap end) [
    | inl here ↦ inr here
    | inr differ ↦ inl (let under = after.0 in omega (arith, differ), after.1)
  ],
)

pub closed-no_more : (words : List ℕ) (bound end gap : ℕ) → bound ≤ get_or words end 0
    → IsClosedUpTo words bound end gap ↔ IsClosedUpTo words bound (end + 1) gap
closed-no_more words bound end gap late = (
  λ before. (omega (arith, before.0), before.1),
  λ after. elim (cases_eq gap end) [
    | inl here ↦
        let is = before-to (get_or words end 0) bound
        (subst (λ n. IsClosedBefore (round_of_word (get_or words n 0)) bound) here after.1) in
        absurd (omega (arith, is.0, late))
    | inr differ ↦ (let under = after.0 in omega (arith, differ), after.1)
  ],
)
