-- The labels with which a gap makes a class none of whose gaps closes before a round.
use Rattle.std.proofs.Common.{◌≡◌, ◌∙◌, ℕ, suc, ◌+◌, ◌-◌, ◌<◌, ◌≤◌, ◌⊎◌, ◌↔◌, true, List, [], length, get_or, sym, ap}
use Rattle.std.proofs.Common.{subst, inl, inr, arith}
use Rattle.std.specs.List.{remove}
use Rattle.std.proofs.lemmas.Bool.{cases_lt}
use Rattle.board_text.specs.Domination.{has_bit}
use Rattle.board_text.specs.PlainBoard.{PlainBoard, IsBoard, places}
use Rattle.board_text.specs.declared.board.TheConstants.{MAX_LABELS}
use Rattle.classes.specs.Classes.{IsClass, put}
use Rattle.classes.specs.ClassGaps.{member_with}
use Rattle.classes.specs.Numbers.{number_by_greatest}
use Rattle.classes.specs.declared.families.Family.{Family}
use Rattle.gap_values.specs.GapTables.{HasClosedGap, IsClosedBefore}
use Rattle.gap_values.specs.Inside.Counts.{class_word}
use Rattle.classes.specs.FamilyWalks.{IsFamilyOf}
use Rattle.gap_values.specs.Inside.Sets.{HasLabel, IsInOthers, TellClosed}
use Rattle.gap_values.specs.Inside.Words.{gap_table}
use Rattle.gap_values.specs.RoundWords.{round_of_word}
use Rattle.gap_values.proofs.ClosedParts.{closed-parts}
use Rattle.classes.proofs.Cited.{held-long, member-class, member-long, member-number, number-last-others}
use Rattle.classes.proofs.Cited.{others-class, others-number}
use Rattle.gap_values.proofs.Words.{before-from, before-to, least-is, result-is}

module _ (b : PlainBoard) (words : List ℕ) (sets : List (List ℕ)) (f : Family) (v word bound : ℕ)
    (some : 2 ≤ b.pebbles) (family : IsFamilyOf b (b.pebbles - 2) f) (low : v < f.size)
    (tell : TellClosed b words bound sets) (few : bound ≤ 4294967295) (word_is : word ≡ get_or words (f.start + v) 0)
  where
    count : ℕ
    count = b.pebbles - 2

    is_board : IsBoard b
    is_board = family.is_board

    abbrev gap : List ℕ
    gap = put v f.held

    more : suc (b.pebbles - 2) ≡ b.pebbles - 1
    more = omega arith

    gap-is : IsClass (places b) (b.pebbles - 1) gap
    gap-is = subst (λ n. IsClass (places b) n gap) more (member-class b (b.pebbles - 2) f family v low)

    own-word : get_or words (number_by_greatest gap) 0 ≡ word
    own-word = ap (λ n. get_or words n 0) (member-number b (b.pebbles - 2) f family v low) ∙ sym word_is

    -- the list of a gap without a place has the label in its set if the gap with the label closes before
    list-told : (index : ℕ) → index < length gap → (x : ℕ) → x < b.labels
        → HasLabel sets (number_by_greatest (remove gap index)) x
        ↔ IsClosedBefore (gap_table words (member_with (remove gap index) x)) bound
    list-told index inside x x_low =
        let long : length gap ≡ suc (b.pebbles - 2) = member-long b (b.pebbles - 2) f family v low in
        tell.each (remove gap index) (others-class b (b.pebbles - 2) f family v low index (omega arith)) x x_low

    abbrev InSets : ℕ → Type 0
    InSets x = HasLabel sets f.number x ⊎ IsInOthers sets f v x

    in-sets : (index x : ℕ) → index < length gap → HasLabel sets (number_by_greatest (remove gap index)) x → InSets x
    in-sets index x inside has =
        let long : length gap ≡ suc (b.pebbles - 2) = member-long b (b.pebbles - 2) f family v low in
        let held : length f.held ≡ b.pebbles - 2 = held-long b (b.pebbles - 2) f family in
        elim (cases_lt index (b.pebbles - 2)) [
          | inl before ↦ inr (
            index,
            omega arith,
            subst (λ n. HasLabel sets n x) (others-number b (b.pebbles - 2) f family v low index before) has,
          )
          | inr last ↦
              let here : index ≡ b.pebbles - 2 = omega arith in
              inl (subst (λ n. HasLabel sets n x) (number-last-others b (b.pebbles - 2) f family v low)
              (subst (λ k. HasLabel sets (number_by_greatest (remove gap k)) x) here has))
        ]

    from-sets : (x : ℕ) → InSets x
        → (index : ℕ) × (index < length gap) × HasLabel sets (number_by_greatest (remove gap index)) x
    from-sets x (inl own) =
        let long : length gap ≡ suc (b.pebbles - 2) = member-long b (b.pebbles - 2) f family v low in (
          b.pebbles - 2,
          omega arith,
          subst (λ n. HasLabel sets n x) (sym (number-last-others b (b.pebbles - 2) f family v low)) own,
        )
    from-sets x (inr in_others) =
        let long : length gap ≡ suc (b.pebbles - 2) = member-long b (b.pebbles - 2) f family v low in
        let held : length f.held ≡ b.pebbles - 2 = held-long b (b.pebbles - 2) f family in
        let inside : in_others.0 < length f.held = in_others.1 in (
          in_others.0,
          omega arith,
          subst (λ n. HasLabel sets n x)
              (sym (others-number b (b.pebbles - 2) f family v low in_others.0 (omega arith))) in_others.2,
        )

    -- the class with a label has a gap of a word below the bound exactly if its own word is
    closed-word : (x : ℕ) → x < b.labels
        → IsClosedBefore (round_of_word (class_word b words gap x)) bound
        ↔ HasClosedGap b (gap_table words) (member_with gap x) bound
    closed-word x x_low = least-is b words (member_with gap x) (result-is b gap x is_board gap-is x_low) bound

    -- if the gap itself has such a word, so has each class
    pub word-below : word < bound → (x : ℕ) → x < b.labels → class_word b words gap x < bound
    word-below less x x_low =
        let own : IsClosedBefore (gap_table words gap) bound =
        subst (λ w. IsClosedBefore (round_of_word w) bound) (sym own-word) (before-from word bound less (omega arith))
        in
        (before-to (class_word b words gap x) bound ((closed-word x x_low).1
        ((closed-parts b is_board gap gap-is x x_low (gap_table words) bound).1 (inl own)))).0

    pub unclosed-none : (none : List ℕ) → word < bound
        → ((x : ℕ) → x < MAX_LABELS → (has_bit none x ≡ true) ↔ (x < 0))
        → (upto : List ℕ) (x : ℕ) → x < b.labels
        → (has_bit none x ≡ true) ↔ ((has_bit upto x ≡ true) × (bound ≤ class_word b words gap x))
    unclosed-none none less empty upto x x_low =
        let small : x < MAX_LABELS = (let most = is_board.labels.1 in omega (arith, x_low, most)) in
        let below = word-below less x x_low in (
          λ has. (let under : x < 0 = (empty x small).0 has in absurd (omega arith)),
          λ both. (let most = both.1 in absurd (omega (arith, most, below))),
        )

    pub unclosed-labels : (upto part common left : List ℕ) → bound ≤ word
        → ((x : ℕ) → x < MAX_LABELS → (has_bit common x ≡ true)
        ↔ ((has_bit upto x ≡ true) × (has_bit part x ≡ true → ⊥)))
        → part ≡ get_or sets f.number []
        → ((x : ℕ) → x < MAX_LABELS → (has_bit left x ≡ true)
        ↔ ((has_bit common x ≡ true) × (IsInOthers sets f v x → ⊥)))
        → (x : ℕ) → x < b.labels
        → (has_bit left x ≡ true) ↔ ((has_bit upto x ≡ true) × (bound ≤ class_word b words gap x))
    unclosed-labels upto part common left most common_are part_is left_are x x_low =
        let small : x < MAX_LABELS = (let many = is_board.labels.1 in omega (arith, x_low, many)) in
        let parts = closed-parts b is_board gap gap-is x x_low (gap_table words) bound in (
          λ has.
              let both = (left_are x small).0 has in
              let held = (common_are x small).0 both.0 in (
                held.0,
                elim (cases_lt (class_word b words gap x) bound) [
                  | inr above ↦ above
                  | inl less ↦ absurd (elim (parts.0 ((closed-word x x_low).0
                      (before-from (class_word b words gap x) bound less (omega arith)))) [
                        | inl own ↦
                            let is = before-to (get_or words (number_by_greatest gap) 0) bound own in
                            let same = own-word in
                            omega (arith, is.0, same)
                        | inr list ↦ elim (in-sets list.0 x list.1 ((list-told list.0 list.1 x x_low).1 list.2)) [
                          | inl in_own ↦ held.1 (ap (λ s. has_bit s x) part_is ∙ in_own)
                          | inr in_others ↦ both.1 in_others
                        ]
                      ])
                ],
              ),
          λ both.
              let out : InSets x → ⊥ = λ in_sets.
              (let list = from-sets x in_sets in
              let closed = (closed-word x x_low).1
              (parts.1 (inr (list.0, list.1, (list-told list.0 list.1 x x_low).0 list.2))) in
              let is = before-to (class_word b words gap x) bound closed in
              let above = both.1 in
              omega (arith, is.0, above)) in
              (left_are x small).1 (
                (common_are x small).1 (both.0, λ in_part. out (inl (ap (λ s. has_bit s x) (sym part_is) ∙ in_part))),
                λ in_others. out (inr in_others),
              ),
        )
