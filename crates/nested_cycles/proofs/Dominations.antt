-- Domination of words, digit by digit.
use Rattle.std.proofs.Common.{◌≡◌, ◌≢◌, ℕ, zero, suc, ◌+◌, ◌%◌, ◌^◌, ◌/◌, ◌<◌, ◌↔◌, ◌⊎◌, List, [], ◌∷◌, ◌++◌, length}
use Rattle.std.proofs.Common.{take, get_or, refl, sym, ap, ◌∙◌, subst, arith, inl, inr}
use Rattle.std.proofs.lemmas.Bool.{cases_eq, cases_lt, cases_order}
use Rattle.std.proofs.lemmas.List.{length-append, get_or_at, get_or_append_left, get_or-take}
use Rattle.std.proofs.lemmas.List.Elements.{All-head, All-tail}
use lib.Seq.{take-append-le, take-append_seam}
use Rattle.nested_cycles.specs.Words.{IsWord, word_number, word_of}
use Rattle.nested_cycles.specs.Domination.{WordDominates}
use Rattle.nested_cycles.proofs.WordNumbers.{word_of_is_word, word_of-push, number_of-word_of, third_below}
use Rattle.nested_cycles.proofs.WordNumbers.{length-word_of}

-- ---- the first digit

pub in_one_copy : (digit : ℕ) (word other : List ℕ) → WordDominates word other
    → WordDominates (digit ∷ word) (digit ∷ other)
in_one_copy digit word other d =
    record {
      index = suc d.index;
      inside = omega (arith, d.inside);
      same_before = ap (λ (w : List ℕ). digit ∷ w) d.same_before;
      next_there = d.next_there;
    }

from_place : (digit : ℕ) (word other : List ℕ) (place : ℕ) → place < length (digit ∷ word)
    → take place (digit ∷ word) ≡ take place (digit ∷ other)
    → get_or (digit ∷ word) place 0 ≡ (get_or (digit ∷ other) place 0 + 1) % 3 → WordDominates word other
from_place digit word other zero inside same next = absurd (omega arith)
from_place digit word other (suc place) inside same next =
    record { index = place; inside = omega arith; same_before = cc; next_there = next }

pub from_one_copy : (digit : ℕ) (word other : List ℕ) → WordDominates (digit ∷ word) (digit ∷ other)
    → WordDominates word other
from_one_copy digit word other d = from_place digit word other d.index d.inside d.same_before d.next_there

pub of_two_copies : (digit other_digit : ℕ) (word other : List ℕ) → digit ≡ (other_digit + 1) % 3
    → WordDominates (digit ∷ word) (other_digit ∷ other)
of_two_copies digit other_digit word other next =
    record { index = 0; inside = omega arith; same_before = refl; next_there = next }

pub one_of_two : (count : ℕ) (word other : List ℕ) → IsWord count word → IsWord count other → word ≢ other
    → WordDominates word other ⊎ WordDominates other word
one_of_two count [] [] is is_other differ = absurd (differ refl)
one_of_two count [] (e ∷ other) is is_other differ = absurd (omega (arith, is.0, is_other.0))
one_of_two count (d ∷ word) [] is is_other differ = absurd (omega (arith, is.0, is_other.0))
one_of_two count (d ∷ word) (e ∷ other) is is_other differ =
    elim (cases_eq d e) [
      | inl same ↦
          let rest : WordDominates word other ⊎ WordDominates other word =
          one_of_two (length word) word other (refl, All-tail (λ n. n < 3) d word is.1)
          (omega (arith, is.0, is_other.0), All-tail (λ n. n < 3) e other is_other.1) (λ f. differ (cc)) in
          elim rest [
            | inl one ↦ inl (subst (λ (n : ℕ). WordDominates (d ∷ word) (n ∷ other)) same
                (in_one_copy d word other one))
            | inr two ↦ inr (subst (λ (n : ℕ). WordDominates (n ∷ other) (d ∷ word)) same
                (in_one_copy d other word two))
          ]
      | inr apart ↦
          let low : d < 3 = All-head (λ n. n < 3) d word is.1 in
          let low_other : e < 3 = All-head (λ n. n < 3) e other is_other.1 in
          elim (cases_eq d ((e + 1) % 3)) [
            | inl next ↦ inl (of_two_copies d e word other next)
            | inr not_next ↦ inr (of_two_copies e d other word (omega arith))
          ]
    ]

pub one_of_two_labels : (count x y : ℕ) → x < 3 ^ count → y < 3 ^ count → x ≢ y
    → WordDominates (word_of count x) (word_of count y) ⊎ WordDominates (word_of count y) (word_of count x)
one_of_two_labels count x y below_x below_y differ =
    one_of_two count (word_of count x) (word_of count y) (word_of_is_word count x below_x)
    (word_of_is_word count y below_y)
    (λ same. differ (sym (number_of-word_of count x below_x) ∙ ap word_number same ∙ number_of-word_of count y below_y))

-- ---- the last digit

pub on_push : (word other : List ℕ) (digit other_digit : ℕ) → length word ≡ length other → WordDominates word other
    → WordDominates (word ++ digit ∷ []) (other ++ other_digit ∷ [])
on_push word other digit other_digit same d = record {
  index = d.index;
  inside = omega (arith, d.inside, length-append word (digit ∷ []));
  same_before = take-append-le d.index word (digit ∷ []) (omega (arith, d.inside)) ∙ d.same_before
      ∙ sym (take-append-le d.index other (other_digit ∷ []) (omega (arith, d.inside)));
  next_there = rw (
    get_or_append_left word (digit ∷ []) 0 d.index d.inside,
    get_or_append_left other (other_digit ∷ []) 0 d.index (omega (arith, d.inside)),
  ) d.next_there;
}

pub off_push : (word other : List ℕ) (digit other_digit : ℕ) → length word ≡ length other → word ≢ other
    → WordDominates (word ++ digit ∷ []) (other ++ other_digit ∷ []) → WordDominates word other
off_push word other digit other_digit same differ d =
    elim (cases_lt d.index (length word)) [
      | inl before ↦ record {
        index = d.index;
        inside = before;
        same_before = sym (take-append-le d.index word (digit ∷ []) (omega arith)) ∙ d.same_before
            ∙ take-append-le d.index other (other_digit ∷ []) (omega arith);
        next_there = rw (
          get_or_append_left word (digit ∷ []) 0 d.index before,
          get_or_append_left other (other_digit ∷ []) 0 d.index (omega arith),
        ) at d.next_there;
      }
      | inr behind ↦
          let last : d.index ≡ length word = omega (arith, d.inside, length-append word (digit ∷ [])) in
          absurd (differ (
          sym (take-append_seam word (digit ∷ [])) ∙ ap (λ (n : ℕ). take n (word ++ digit ∷ [])) (sym last)
          ∙ d.same_before
          ∙ ap (λ (n : ℕ). take n (other ++ other_digit ∷ [])) (last ∙ same) ∙ take-append_seam other (other_digit ∷ [])
          ))
    ]

pub by_push : (word : List ℕ) (digit other_digit : ℕ) → digit ≡ (other_digit + 1) % 3
    → WordDominates (word ++ digit ∷ []) (word ++ other_digit ∷ [])
by_push word digit other_digit next = record {
  index = length word;
  inside = omega (arith, length-append word (digit ∷ []));
  same_before = take-append_seam word (digit ∷ []) ∙ sym (take-append_seam word (other_digit ∷ []));
  next_there =
      rw (get_or_at word digit [] 0 (length word) refl, get_or_at word other_digit [] 0 (length word) refl) next;
}

pub from_push : (word : List ℕ) (digit other_digit : ℕ) → WordDominates (word ++ digit ∷ []) (word ++ other_digit ∷ [])
    → digit ≡ (other_digit + 1) % 3
from_push word digit other_digit d =
    elim (cases_lt d.index (length word)) [
      | inl before ↦
          let next : get_or word d.index 0 ≡ (get_or word d.index 0 + 1) % 3 =
          rw (
            get_or_append_left word (digit ∷ []) 0 d.index before,
            get_or_append_left word (other_digit ∷ []) 0 d.index before,
          ) at d.next_there in
          absurd (omega (arith, next))
      | inr behind ↦
          let last : length word ≡ d.index = omega (arith, d.inside, length-append word (digit ∷ [])) in
          rw (get_or_at word digit [] 0 d.index last, get_or_at word other_digit [] 0 d.index last) at d.next_there
    ]

-- ---- words of numbers

-- Two words that differ before their last digits dominate as they do without these.
pub without_last : (count more a b : ℕ) → more ≡ suc count → a < 3 ^ more → b < 3 ^ more → a / 3 ≢ b / 3
    → WordDominates (word_of count (a / 3)) (word_of count (b / 3)) ↔ WordDominates (word_of more a) (word_of more b)
without_last count more a b e below_a below_b differ =
    let small_a : a < 3 ^ suc count = rw e at below_a in
    let small_b : b < 3 ^ suc count = rw e at below_b in
    let word = word_of count (a / 3) in
    let other = word_of count (b / 3) in
    let long : length word ≡ length other = length-word_of count (a / 3) ∙ sym (length-word_of count (b / 3)) in
    let apart : word ≢ other = λ same. differ (
    sym (number_of-word_of count (a / 3) (third_below count a small_a)) ∙ ap word_number same
    ∙ number_of-word_of count (b / 3) (third_below count b small_b)
    ) in
    rw (e, word_of-push count a small_a, word_of-push count b small_b)
    (on_push word other (a % 3) (b % 3) long, off_push word other (a % 3) (b % 3) long apart)

-- Two words that agree before their last digits dominate as these do.
pub by_last : (count more a b : ℕ) → more ≡ suc count → a < 3 ^ more → b < 3 ^ more → a / 3 ≡ b / 3
    → (a % 3 ≡ (b % 3 + 1) % 3) ↔ WordDominates (word_of more a) (word_of more b)
by_last count more a b e below_a below_b same =
    let small_a : a < 3 ^ suc count = rw e at below_a in
    let small_b : b < 3 ^ suc count = rw e at below_b in
    rw (e, word_of-push count a small_a, word_of-push count b small_b, same)
    (by_push (word_of count (b / 3)) (a % 3) (b % 3), from_push (word_of count (b / 3)) (a % 3) (b % 3))

-- ---- one way only

-- equal prefixes have the same digits
same_digit : (word other : List ℕ) (i n : ℕ) → i < n → take n word ≡ take n other → get_or word i 0 ≡ get_or other i 0
same_digit word other i n lt same =
    sym (get_or-take n word i 0 lt) ∙ ap (λ (w : List ℕ). get_or w i 0) same ∙ get_or-take n other i 0 lt

pub each_other : (word other : List ℕ) → WordDominates word other → WordDominates other word → ⊥
each_other word other d e =
    elim (cases_order d.index e.index) [
      | inl same ↦
          let back : get_or other d.index 0 ≡ (get_or word d.index 0 + 1) % 3 = rw same e.next_there in
          omega (arith, d.next_there, back)
      | inr differ ↦ elim differ [
        | inl before ↦ let digit = same_digit other word d.index e.index before e.same_before in
            omega (arith, d.next_there, digit)
        | inr behind ↦ let digit = same_digit word other e.index d.index behind d.same_before in
            omega (arith, e.next_there, digit)
      ]
    ]
