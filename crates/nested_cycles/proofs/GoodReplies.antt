-- Replies to good words: they dominate, and the words with them are good.
use Rattle.std.proofs.Common.{◌≡◌, ◌⊎◌, ℕ, zero, suc, ◌<◌, ◌≤◌, List, [], ◌∷◌, ◌++◌, length, drop, slice_index}
use Rattle.std.proofs.Common.{replicate, All, Contains, refl, sym, ap, ◌∙◌, subst, arith, inl, inr}
use Rattle.std.proofs.lemmas.Bool.{cases_eq}
use Rattle.std.proofs.lemmas.List.{length-append, length-replicate}
use Rattle.std.proofs.lemmas.List.Elements.{All-head, All-tail, All-cons, All-nil, All-contains, All-weaker}
use Rattle.std.proofs.lemmas.List.Elements.{All-replicate}
use Rattle.nested_cycles.specs.Words.{IsWord}
use Rattle.nested_cycles.specs.Domination.{WordDominates}
use Rattle.nested_cycles.specs.GoodWords.{next_digit, first_digits, rests_in, AreInOneCopy, AreGood}
use Rattle.nested_cycles.specs.Reply.{IsReply}
use Rattle.nested_cycles.proofs.Dominations.{in_one_copy, of_two_copies}
use Rattle.nested_cycles.proofs.CopyRests.{contains_here, contains_later, contains_cases, contains_none, contains_map}
use Rattle.nested_cycles.proofs.CopyRests.{next_differs, rest_between, rest_not_between, rests-append, contains_rest}
use Rattle.nested_cycles.proofs.CopyRests.{fewer_rests, no_rests, first_and_rest, rests_are_words}

-- a fact of all first digits holds of the first digit of each word
first_of : (P : ℕ → Type 0) (words : List (List ℕ)) (word : List ℕ) → All P (first_digits words) → Contains words word
    → P (slice_index word 0)
first_of P words word each has =
    All-contains P (first_digits words) (slice_index word 0) each (contains_map (λ w. slice_index w 0) words word has)

-- ---- the reply dominates

by_first : (count digit : ℕ) (rest other : List ℕ) → IsWord (suc count) other → slice_index other 0 ≡ digit
    → WordDominates (next_digit digit ∷ rest) other
by_first count digit rest other is same =
    subst (λ w. WordDominates (next_digit digit ∷ rest) w) (sym (first_and_rest count other is))
    (of_two_copies (next_digit digit) (slice_index other 0) rest (drop 1 other) (ap next_digit (sym same)))

by_rest : (count digit : ℕ) (rest other : List ℕ) → IsWord (suc count) other → slice_index other 0 ≡ digit
    → WordDominates rest (drop 1 other) → WordDominates (digit ∷ rest) other
by_rest count digit rest other is same dominates =
    subst (λ w. WordDominates (digit ∷ rest) w)
    (ap (λ first. first ∷ drop 1 other) (sym same) ∙ sym (first_and_rest count other is))
    (in_one_copy digit rest (drop 1 other) dominates)

pub reply_dominates : (count : ℕ) (others : List (List ℕ)) (reply : List ℕ) → All (IsWord count) others
    → length others ≤ count → IsReply count others reply
    → (other : List ℕ) → Contains others other → WordDominates reply other
reply_dominates zero others reply words few is other has = absurd (omega (arith, has.1))
reply_dominates (suc count) others reply words few (inl none) other has =
    absurd (contains_none other (subst (λ ws. Contains ws other) none.0 has))
reply_dominates (suc count) others reply words few (inr (inl one)) other has =
    let word = All-contains (IsWord (suc count)) others other words has in
    rw one.3 (by_first count one.0 (replicate count 0) other word
    (first_of (λ first. first ≡ one.0) others other one.2 has))
reply_dominates (suc count) others reply words few (inr (inr two)) other has =
    let word = All-contains (IsWord (suc count)) others other words has in
    let fewer = fewer_rests (next_digit two.0) two.0 others (λ same. next_differs two.0 (sym same)) two.2.some_here in
    elim (first_of (λ first. (first ≡ two.0) ⊎ (first ≡ next_digit two.0)) others other two.2.each has) [
      | inl here ↦ rw two.3 (by_first count two.0 two.1 other word here)
      | inr next ↦ rw two.3 (
          by_rest count (next_digit two.0) two.1 other word next
          (reply_dominates count (rests_in (next_digit two.0) others) two.1
          (rests_are_words (next_digit two.0) count others words) (omega arith) two.4 (drop 1 other)
          (contains_rest (next_digit two.0) others other next has))
          )
    ]

-- ---- a word between others

firsts_between : (P : ℕ → Type 0) (before after : List (List ℕ)) (word : List ℕ)
    → All P (first_digits (before ++ after)) → P (slice_index word 0) → All P (first_digits (before ++ word ∷ after))
firsts_between P [] after word each here = All-cons P (slice_index word 0) (first_digits after) here each
firsts_between P (w ∷ before) after word each here =
    All-cons P (slice_index w 0) (first_digits (before ++ word ∷ after))
    (All-head P (slice_index w 0) (first_digits (before ++ after)) each)
    (firsts_between P before after word (All-tail P (slice_index w 0) (first_digits (before ++ after)) each) here)

firsts_without : (P : ℕ → Type 0) (before after : List (List ℕ)) (word : List ℕ)
    → All P (first_digits (before ++ word ∷ after)) → All P (first_digits (before ++ after))
firsts_without P [] after word each = All-tail P (slice_index word 0) (first_digits after) each
firsts_without P (w ∷ before) after word each =
    All-cons P (slice_index w 0) (first_digits (before ++ after))
    (All-head P (slice_index w 0) (first_digits (before ++ word ∷ after)) each)
    (firsts_without P before after word (All-tail P (slice_index w 0) (first_digits (before ++ word ∷ after)) each))

first_between : (before after : List (List ℕ)) (word : List ℕ)
    → Contains (first_digits (before ++ word ∷ after)) (slice_index word 0)
first_between [] after word = contains_here (slice_index word 0) (first_digits after)
first_between (w ∷ before) after word =
    contains_later (slice_index w 0) (first_digits (before ++ word ∷ after)) (slice_index word 0)
    (first_between before after word)

still_there : (before after : List (List ℕ)) (word : List ℕ) (digit : ℕ)
    → Contains (first_digits (before ++ after)) digit → Contains (first_digits (before ++ word ∷ after)) digit
still_there [] after word digit has = contains_later (slice_index word 0) (first_digits after) digit has
still_there (w ∷ before) after word digit has =
    elim (contains_cases (slice_index w 0) (first_digits (before ++ after)) digit has) [
      | inl same ↦ subst (λ d. Contains (slice_index w 0 ∷ first_digits (before ++ word ∷ after)) d) same
          (contains_here (slice_index w 0) (first_digits (before ++ word ∷ after)))
      | inr later ↦ contains_later (slice_index w 0) (first_digits (before ++ word ∷ after)) digit
          (still_there before after word digit later)
    ]

length_between : (before after : List (List ℕ)) (word : List ℕ)
    → length (before ++ word ∷ after) ≡ suc (length (before ++ after))
length_between before after word = omega (arith, length-append before (word ∷ after), length-append before after)

-- ---- the words with the reply are good

-- one word is good
pub alone_is_good : (count : ℕ) (word : List ℕ) → AreGood count (word ∷ [])
alone_is_good zero word = tt
alone_is_good (suc count) word =
    inr (inl (
      slice_index word 0,
      All-cons (λ first. first ≡ slice_index word 0) (slice_index word 0) [] refl
          (All-nil (λ first. first ≡ slice_index word 0)),
    ))

none_between : (before after : List (List ℕ)) (word : List ℕ) → before ++ after ≡ []
    → before ++ word ∷ after ≡ word ∷ []
none_between [] after word none = ap (λ ws. word ∷ ws) none
none_between (w ∷ before) after word none = cc

pub some_first : (words : List (List ℕ)) (digit : ℕ) → (words ≡ [] → ⊥) → AreInOneCopy digit (first_digits words)
    → Contains (first_digits words) digit
some_first [] digit not one = absurd (not refl)
some_first (word ∷ words) digit not one =
    subst (λ d. Contains (slice_index word 0 ∷ first_digits words) d)
    (All-head (λ first. first ≡ digit) (slice_index word 0) (first_digits words) one)
    (contains_here (slice_index word 0) (first_digits words))

-- the rests of words in the next copy, with one more there
rests_with : (digit : ℕ) (before after : List (List ℕ)) (rest : List ℕ)
    → rests_in digit (before ++ (digit ∷ rest) ∷ after) ≡ rests_in digit before ++ rest ∷ rests_in digit after
rests_with digit before after rest = rest_between digit (digit ∷ rest) before after refl

with_first_there : (count digit : ℕ) (before after : List (List ℕ)) → (before ++ after ≡ [] → ⊥)
    → AreInOneCopy digit (first_digits (before ++ after))
    → AreGood (suc count) (before ++ (next_digit digit ∷ replicate count 0) ∷ after)
with_first_there count digit before after some one =
    let word = next_digit digit ∷ replicate count 0 in
    let none : rests_in (next_digit digit) before ++ rests_in (next_digit digit) after ≡ [] =
    sym (rests-append (next_digit digit) before after)
    ∙ no_rests (next_digit digit) digit (before ++ after) (λ same. next_differs digit (sym same)) one in
    let alone : rests_in (next_digit digit) (before ++ word ∷ after) ≡ replicate count 0 ∷ [] =
    rests_with (next_digit digit) before after (replicate count 0)
    ∙ none_between (rests_in (next_digit digit) before) (rests_in (next_digit digit) after)
    (replicate count 0) none in
    inr (inr (
      digit,
      record {
        each = firsts_between (λ first. (first ≡ digit) ⊎ (first ≡ next_digit digit)) before after word
            (All-weaker (λ first. first ≡ digit) (λ first. (first ≡ digit) ⊎ (first ≡ next_digit digit))
            (λ first same. inl same) (first_digits (before ++ after)) one) (inr refl);
        some_here = still_there before after word digit (some_first (before ++ after) digit some one);
        some_next = first_between before after word;
      },
      rw alone (omega arith),
      rw alone (alone_is_good count (replicate count 0)),
    ))

pub good_with_reply : (count : ℕ) (before after : List (List ℕ)) (reply : List ℕ) → length (before ++ after) ≤ count
    → IsReply count (before ++ after) reply → AreGood count (before ++ reply ∷ after)
good_with_reply zero before after reply few is = tt
good_with_reply (suc count) before after reply few (inl none) =
    rw (none_between before after reply none.0) (alone_is_good (suc count) reply)
good_with_reply (suc count) before after reply few (inr (inl one)) =
    rw one.3 (with_first_there count one.0 before after one.1 one.2)
good_with_reply (suc count) before after reply few (inr (inr two)) =
    let next = next_digit two.0 in
    let word = next ∷ two.1 in
    let joined = rests-append next before after in
    let fewer = fewer_rests next two.0 (before ++ after) (λ same. next_differs two.0 (sym same)) two.2.some_here in
    let few_rests : length (rests_in next before ++ rests_in next after) ≤ count = rw (← joined) (omega arith) in
    let good : AreGood count (rests_in next before ++ two.1 ∷ rests_in next after) =
    good_with_reply count (rests_in next before) (rests_in next after) two.1 few_rests (rw joined at two.4) in
    let with_word = rests_with next before after two.1 in
    rw two.3 (inr (inr (
      two.0,
      record {
        each = firsts_between (λ first. (first ≡ two.0) ⊎ (first ≡ next)) before after word two.2.each (inr refl);
        some_here = still_there before after word two.0 two.2.some_here;
        some_next = first_between before after word;
      },
      rw with_word (omega (arith, length_between (rests_in next before) (rests_in next after) two.1)),
      rw with_word good,
    )))

-- ---- good words have a reply

-- a word that is a reply
abbrev pub HasReply : ℕ → List (List ℕ) → Type 0
HasReply count others = (reply : List ℕ) × IsReply count others reply × IsWord count reply

pub zeros_are_word : (count : ℕ) → IsWord count (replicate count 0)
zeros_are_word count = (length-replicate count 0, All-replicate (λ d. d < 3) count 0 (omega arith))

pub word_with_first : (count first : ℕ) (rest : List ℕ) → first < 3 → IsWord count rest
    → IsWord (suc count) (first ∷ rest)
word_with_first count first rest low is = (omega (arith, is.0), All-cons (λ d. d < 3) first rest low is.1)

next_below : (digit : ℕ) → next_digit digit < 3
next_below digit = omega arith

-- a list is empty or not
none_or_some : {X : Type 0} (xs : List X) → (xs ≡ []) ⊎ (xs ≡ [] → ⊥)
none_or_some [] = inl refl
none_or_some (x ∷ xs) = inr (λ e. cc)

pub good_have_reply : (count : ℕ) (others : List (List ℕ)) → AreGood count others → HasReply count others
good_have_reply zero others good = ([], refl, zeros_are_word 0)
good_have_reply (suc count) others (inl none) = (replicate (suc count) 0, inl (none, refl), zeros_are_word (suc count))
good_have_reply (suc count) others (inr (inl one)) = elim (none_or_some others) [
  | inl none ↦ (replicate (suc count) 0, inl (none, refl), zeros_are_word (suc count))
  | inr some ↦ (
    next_digit one.0 ∷ replicate count 0,
    inr (inl (one.0, some, one.1, refl)),
    word_with_first count (next_digit one.0) (replicate count 0) (next_below one.0) (zeros_are_word count),
  )
]
good_have_reply (suc count) others (inr (inr two)) =
    let rest = good_have_reply count (rests_in (next_digit two.0) others) two.3 in (
      next_digit two.0 ∷ rest.0,
      inr (inr (two.0, rest.0, two.1, refl, rest.1)),
      word_with_first count (next_digit two.0) rest.0 (next_below two.0) rest.2,
    )

-- ---- without one of them, good words are good

either_copy : (digit other : ℕ) (firsts : List ℕ) → All (λ first. (first ≡ digit) ⊎ (first ≡ other)) firsts
    → Contains firsts digit ⊎ AreInOneCopy other firsts
either_copy digit other [] each = inr (All-nil (λ first. first ≡ other))
either_copy digit other (first ∷ firsts) each =
    let later = either_copy digit other firsts (All-tail (λ f. (f ≡ digit) ⊎ (f ≡ other)) first firsts each) in
    elim (All-head (λ f. (f ≡ digit) ⊎ (f ≡ other)) first firsts each) [
      | inl here ↦ inl (subst (λ d. Contains (first ∷ firsts) d) here (contains_here first firsts))
      | inr there ↦ elim later [
        | inl has ↦ inl (contains_later first firsts digit has)
        | inr one ↦ inr (All-cons (λ f. f ≡ other) first firsts there one)
      ]
    ]

turned : (digit other : ℕ) (firsts : List ℕ) → All (λ first. (first ≡ digit) ⊎ (first ≡ other)) firsts
    → All (λ first. (first ≡ other) ⊎ (first ≡ digit)) firsts
turned digit other firsts each =
    All-weaker (λ first. (first ≡ digit) ⊎ (first ≡ other)) (λ first. (first ≡ other) ⊎ (first ≡ digit))
    (λ first h. elim h [ inl a ↦ inr a | inr b ↦ inl b ]) firsts each

some_between : (before after : List (List ℕ)) (word : List ℕ) → before ++ word ∷ after ≡ [] → ⊥
some_between before after word none = omega (arith, ap length none, length_between before after word)

-- without one word the rests stay few and good, if good words of a level less stay good without one
rests_without : (count digit : ℕ) (before after : List (List ℕ)) (word : List ℕ)
    → ((first second : List (List ℕ)) (rest : List ℕ) → AreGood count (first ++ rest ∷ second)
    → AreGood count (first ++ second))
    → length (rests_in digit (before ++ word ∷ after)) ≤ suc count
    → AreGood count (rests_in digit (before ++ word ∷ after))
    → (length (rests_in digit (before ++ after)) ≤ suc count) × AreGood count (rests_in digit (before ++ after))
rests_without count digit before after word below few good =
    elim (cases_eq (slice_index word 0) digit) [
      | inl is ↦
          let joined = rests-append digit before after in
          let between = rest_between digit word before after is in
          let shorter = length_between (rests_in digit before) (rests_in digit after) (drop 1 word) in
          let few' : length (rests_in digit before ++ drop 1 word ∷ rests_in digit after) ≤ suc count =
          rw between at few in
          rw joined (
            omega arith,
            below (rests_in digit before) (rests_in digit after) (drop 1 word)
                (rw between at good),
          )
      | inr not ↦ let same = rest_not_between digit word before after not in (rw same at few, rw same at good)
    ]

pub good_without : (count : ℕ) (before after : List (List ℕ)) (word : List ℕ) → AreGood count (before ++ word ∷ after)
    → AreGood count (before ++ after)
good_without zero before after word good = tt
good_without (suc count) before after word (inl none) = absurd (some_between before after word none)
good_without (suc count) before after word (inr (inl one)) =
    inr (inl (one.0, firsts_without (λ first. first ≡ one.0) before after word one.1))
good_without (suc count) before after word (inr (inr two)) =
    let next = next_digit two.0 in
    let each = firsts_without (λ first. (first ≡ two.0) ⊎ (first ≡ next)) before after word two.1.each in
    elim (either_copy two.0 next (first_digits (before ++ after)) each) [
      | inr one ↦ inr (inl (next, one))
      | inl here ↦ elim (either_copy next two.0 (first_digits (before ++ after))
          (turned two.0 next (first_digits (before ++ after)) each)) [
            | inr one ↦ inr (inl (two.0, one))
            | inl there ↦
                let rests = rests_without count next before after word
                (λ first second rest h. good_without count first second rest h) two.2 two.3 in
                inr (inr (two.0, record { each = each; some_here = here; some_next = there }, rests.0, rests.1))
          ]
    ]
