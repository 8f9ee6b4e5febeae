-- The words of a table of gaps, and the least of those of a class.
use Rattle.std.proofs.Common.{refl, ◌≡◌, ℕ, zero, suc, ◌+◌, ◌-◌, ◌<◌, ◌≤◌, ◌⊎◌, cond, min, List, length, get_or, sym}
use Rattle.std.proofs.Common.{ap, ◌∙◌, subst, inl, inr, arith, ◌↔◌, lt-ltb, le-ltb}
use Rattle.std.specs.List.{remove}
use Rattle.std.proofs.lemmas.Bool.{cases_lt}
use Rattle.board_text.specs.PlainBoard.{PlainBoard, IsBoard, places}
use Rattle.board_text.proofs.Cited.{label_is_place}
use Rattle.positions.specs.declared.value.Value.TheVariants.{Finite, Forever}
use Rattle.classes.specs.Classes.{IsClass, Falls, put, class_of}
use Rattle.classes.specs.ClassGaps.{gap_at, member_with}
use Rattle.classes.specs.Numbers.{number_by_greatest}
use Rattle.classes.proofs.Cited.{class_of-class, put-is, falls-remove}
use Rattle.gap_values.specs.GapTables.{IsClosedBefore, HasClosedGap}
use Rattle.gap_values.specs.Inside.Words.{gap_table, word_without, least_word}
use Rattle.gap_values.specs.RoundWords.{round_of_word}

-- ---- the round of a word

pub round-finite : (word : ℕ) → word < 4294967295 → round_of_word word ≡ Finite word
unfolding round_of_word
round-finite word low = ap (λ t. cond t (Finite word) Forever) (lt-ltb word 4294967295 low)

pub round-none : (word : ℕ) → 4294967295 ≤ word → round_of_word word ≡ Forever
unfolding round_of_word
round-none word high = ap (λ t. cond t (Finite word) Forever) (le-ltb word 4294967295 high)

-- a word's round is before a bound exactly if the word is below it and stands for a round
pub before-from : (word bound : ℕ) → word < bound → word < 4294967295 → IsClosedBefore (round_of_word word) bound
before-from word bound less low = subst (λ v. IsClosedBefore v bound) (sym (round-finite word low)) less

pub before-to : (word bound : ℕ) → IsClosedBefore (round_of_word word) bound → (word < bound) × (word < 4294967295)
before-to word bound before = elim (cases_lt word 4294967295) [
  | inl low ↦ (subst (λ v. IsClosedBefore v bound) (round-finite word low) before, low)
  | inr high ↦ absurd (subst (λ v. IsClosedBefore v bound) (round-none word high) before)
]

-- ---- the least word of a class

least-less : (words class : List ℕ) (index : ℕ) → word_without words class index < least_word words class index
    → least_word words class (suc index) ≡ word_without words class index
unfolding least_word
least-less words class index less =
    ap (λ t. cond t (word_without words class index) (least_word words class index))
    (lt-ltb (word_without words class index) (least_word words class index) less)

least-kept : (words class : List ℕ) (index : ℕ) → least_word words class index ≤ word_without words class index
    → least_word words class (suc index) ≡ least_word words class index
unfolding least_word
least-kept words class index most =
    ap (λ t. cond t (word_without words class index) (least_word words class index))
    (le-ltb (word_without words class index) (least_word words class index) most)

least-none : (words class : List ℕ) → least_word words class 0 ≡ 4294967295
unfolding least_word
least-none words class = refl

-- a word of the gaps before an index, or of none; and none of these is less
pub record IsLeastBefore (words class : List ℕ) (index first : ℕ) : Type 0 where
  pub is : first ≡ least_word words class index
  pub least : (earlier : ℕ) → earlier < index → first ≤ word_without words class earlier
  pub met : (first ≡ 4294967295) ⊎ ((earlier : ℕ) × (earlier < index) × (word_without words class earlier ≡ first))

pub least-begins : (words class : List ℕ) → IsLeastBefore words class 0 4294967295
least-begins words class = record {
  is = sym (least-none words class);
  least = λ earlier low. absurd (omega arith);
  met = inl refl;
}

pub least-more : (words class : List ℕ) (index first new : ℕ) → IsLeastBefore words class index first
    → word_without words class index ≡ new → new < first → IsLeastBefore words class (index + 1) new
least-more words class index first new was is less = record {
  is =
      let next : index + 1 ≡ suc index = omega arith in
      let before : first ≡ least_word words class index = was.is in
      sym is ∙ sym (least-less words class index (omega arith)) ∙ ap (least_word words class) (sym next);
  least = λ earlier low. elim (cases_lt earlier index) [
    | inl before ↦ let most : first ≤ word_without words class earlier = was.least earlier before in omega arith
    | inr last ↦
        let same : index ≡ earlier = omega arith in
        let here : new ≡ word_without words class earlier = sym is ∙ ap (word_without words class) same in
        omega arith
  ];
  met = inr (index, omega arith, is);
}

pub least-same : (words class : List ℕ) (index first new : ℕ) → IsLeastBefore words class index first
    → word_without words class index ≡ new → first ≤ new → IsLeastBefore words class (index + 1) first
least-same words class index first new was is least = record {
  is =
      let next : index + 1 ≡ suc index = omega arith in
      let before : first ≡ least_word words class index = was.is in
      before ∙ sym (least-kept words class index (omega arith)) ∙ ap (least_word words class) (sym next);
  least = λ earlier low. elim (cases_lt earlier index) [
    | inl before ↦ was.least earlier before
    | inr last ↦
        let same : index ≡ earlier = omega arith in
        let here : new ≡ word_without words class earlier = sym is ∙ ap (word_without words class) same in
        omega arith
  ];
  met = elim was.met [
    | inl none ↦ inl none
    | inr some ↦ let low : some.0 < index = some.1 in inr (some.0, omega arith, some.2)
  ];
}

-- the last gap
pub least-all : (words class : List ℕ) (index first own result all : ℕ) → IsLeastBefore words class index first
    → word_without words class index ≡ own → result ≡ min first own → index + 1 ≡ all
    → result ≡ least_word words class all
least-all words class index first own result all was is chosen end = elim (cases_lt own first) [
  | inl less ↦
      let same : result ≡ own = omega arith in
      same ∙ (least-more words class index first own was is less).is ∙ ap (least_word words class) end
  | inr most ↦
      let same : result ≡ first = omega arith in
      same ∙ (least-same words class index first own was is most).is ∙ ap (least_word words class) end
]

pub gap_at-index : (bound pebbles : ℕ) (class : List ℕ) (index : ℕ) → IsClass bound pebbles class
    → index < pebbles → gap_at class index ≡ remove class index
gap_at-index bound pebbles class index is low =
    let size : length class ≡ pebbles = is.size in
    class_of-class bound (remove class index) (falls-remove bound class index (omega arith) is.falls)

pub least-closed : (board : PlainBoard) (words class : List ℕ) (index first : ℕ)
    → IsClass (places board) board.pebbles class
    → length class ≤ index → index ≤ length class → IsLeastBefore words class index first
    → (bound : ℕ) → IsClosedBefore (round_of_word first) bound ↔ HasClosedGap board (gap_table words) class bound
least-closed board words class index first is all most least bound =
    let size : length class ≡ board.pebbles = is.size in (
      λ before.
          let low = before-to first bound before in
          let under : first < 4294967295 = low.1 in
          elim least.met [
            | inl none ↦ absurd (omega arith)
            | inr some ↦
                let inside : some.0 < index = some.1 in
                let at : gap_at class some.0 ≡ remove class some.0 =
                gap_at-index (places board) board.pebbles class some.0 is (omega arith) in (
                  some.0,
                  omega arith,
                  subst (λ g. IsClosedBefore (round_of_word (get_or words (number_by_greatest g) 0)) bound) (sym at)
                      (subst (λ w. IsClosedBefore (round_of_word w) bound) (sym some.2) before),
                )
          ],
      λ has.
          let inside : has.0 < board.pebbles = has.1 in
          let at : gap_at class has.0 ≡ remove class has.0 = gap_at-index
          (places board) board.pebbles class has.0 is inside in
          let there = before-to (word_without words class has.0) bound
          (subst (λ g. IsClosedBefore (round_of_word (get_or words (number_by_greatest g) 0)) bound) at has.2) in
          let no_more : first ≤ word_without words class has.0 = least.least has.0 (omega arith) in
          let under : word_without words class has.0 < bound = there.0 in
          let finite : word_without words class has.0 < 4294967295 = there.1 in
          before-from first bound (omega arith) (omega arith),
    )

-- ---- the result of an answer

pub result-class : (bound : ℕ) (gap sorted with slice : List ℕ) (label : ℕ) → Falls bound gap → sorted ≡ class_of gap
    → with ≡ put label sorted → slice ≡ with → slice ≡ member_with gap label
result-class bound gap sorted with slice label falls sorted_is with_is slice_is =
    slice_is ∙ with_is ∙ ap (put label) (sorted_is ∙ class_of-class bound gap falls)

pub result-is : (board : PlainBoard) (gap : List ℕ) (label : ℕ) → IsBoard board
    → IsClass (places board) (board.pebbles - 1) gap → label < board.labels
    → IsClass (places board) board.pebbles (member_with gap label)
result-is board gap label is_board is low =
    let some : 1 ≤ board.pebbles = is_board.pebbles.0 in
    let more : suc (board.pebbles - 1) ≡ board.pebbles = omega arith in
    subst (λ n. IsClass (places board) n (member_with gap label)) more
    (put-is (places board) (board.pebbles - 1) label gap is (label_is_place board label low))

-- ---- the least word as a function

pub leasts : (words class : List ℕ) (index : ℕ) → IsLeastBefore words class index (least_word words class index)
leasts words class zero = subst (IsLeastBefore words class 0) (sym (least-none words class)) (least-begins words class)
leasts words class (suc index) =
    let next : index + 1 ≡ suc index = omega arith in
    elim (cases_lt (word_without words class index) (least_word words class index)) [
      | inl less ↦
          subst (λ n. IsLeastBefore words class n (least_word words class (suc index))) next
          (subst (IsLeastBefore words class (index + 1)) (sym (least-less words class index less))
          (least-more words class index (least_word words class index) (word_without words class index)
          (leasts words class index) refl less))
      | inr most ↦
          subst (λ n. IsLeastBefore words class n (least_word words class (suc index))) next
          (subst (IsLeastBefore words class (index + 1)) (sym (least-kept words class index most))
          (least-same words class index (least_word words class index) (word_without words class index)
          (leasts words class index) refl most))
    ]

pub least-is : (board : PlainBoard) (words class : List ℕ) → IsClass (places board) board.pebbles class
    → (bound : ℕ) → IsClosedBefore (round_of_word (least_word words class board.pebbles)) bound
    ↔ HasClosedGap board (gap_table words) class bound
least-is board words class is =
    let size : length class ≡ board.pebbles = is.size in
    least-closed board words class board.pebbles (least_word words class board.pebbles) is (omega arith) (omega arith)
    (leasts words class board.pebbles)

pub least-few : (words class : List ℕ) (index : ℕ) → least_word words class index ≤ 4294967295
least-few words class zero = omega (arith, least-none words class)
least-few words class (suc index) =
    let before = least-few words class index in
    elim (cases_lt (word_without words class index) (least_word words class index)) [
      | inl less ↦ omega (arith, least-less words class index less)
      | inr most ↦ omega (arith, least-kept words class index most)
    ]
