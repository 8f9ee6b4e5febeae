-- The words of a copy, and their rests.
use Rattle.std.proofs.Common.{◌≡◌, ◌≢◌, ◌⊎◌, ◌==◌, ℕ, zero, suc, ◌<◌, ◌≤◌, List, [], ◌∷◌, ◌++◌, length, map, drop}
use Rattle.std.proofs.Common.{get_or, slice_index, cond, All, Contains, refl, sym, ap, ◌∙◌, subst, arith, inl, inr}
use Rattle.std.specs.List.{filter}
use Rattle.std.proofs.lemmas.Bool.{cases_eq, eq-eqb, ne_eqb}
use Rattle.std.proofs.lemmas.List.{map-append}
use Rattle.std.proofs.lemmas.List.Elements.{filter-append, All-head, All-tail, All-cons, All-nil, Contains-get_or}
use Rattle.nested_cycles.specs.Words.{IsWord}
use Rattle.nested_cycles.specs.GoodWords.{next_digit, first_digits, rests_in, AreInOneCopy}

-- ---- members

pub contains_here : {X : Type 0} (x : X) (xs : List X) → Contains (x ∷ xs) x
contains_here x xs = (0, omega arith, refl)

pub contains_later : {X : Type 0} (y : X) (xs : List X) (x : X) → Contains xs x → Contains (y ∷ xs) x
contains_later y xs x has = (suc has.0, omega (arith, has.1), has.2)

pub contains_cases : {X : Type 0} (y : X) (xs : List X) (x : X) → Contains (y ∷ xs) x → (y ≡ x) ⊎ Contains xs x
contains_cases y xs x (zero, lt, is) = inl is
contains_cases y xs x (suc k, lt, is) = inr (k, omega arith, is)

pub contains_none : {X : Type 0} (x : X) → Contains [] x → ⊥
contains_none x has = omega (arith, has.1)

pub contains_map : {X Y : Type 0} (f : X → Y) (xs : List X) (x : X) → Contains xs x → Contains (map f xs) (f x)
contains_map f [] x has = absurd (contains_none x has)
contains_map f (y ∷ xs) x has = elim (contains_cases y xs x has) [
  | inl same ↦ subst (λ z. Contains (f y ∷ map f xs) z) (ap f same) (contains_here (f y) (map f xs))
  | inr later ↦ contains_later (f y) (map f xs) (f x) (contains_map f xs x later)
]

-- a fact of each member
pub each_of : {X : Type 0} (P : X → Type 0) (xs : List X) → ((x : X) → Contains xs x → P x) → All P xs
each_of P xs h = λ k d lt. h (get_or xs k d) (Contains-get_or xs k d lt)

-- ---- rests, word by word

pub next_differs : (digit : ℕ) → next_digit digit ≢ digit
next_differs digit same = omega arith

pub rest_here : (digit : ℕ) (word : List ℕ) (words : List (List ℕ)) → slice_index word 0 ≡ digit
    → rests_in digit (word ∷ words) ≡ drop 1 word ∷ rests_in digit words
rest_here digit word words same =
    ap (λ b. map (λ w. drop 1 w) (cond b (word ∷ filter (λ w. slice_index w 0 == digit) words)
    (filter (λ w. slice_index w 0 == digit) words))) (eq-eqb (slice_index word 0) digit same)

pub rest_elsewhere : (digit : ℕ) (word : List ℕ) (words : List (List ℕ)) → slice_index word 0 ≢ digit
    → rests_in digit (word ∷ words) ≡ rests_in digit words
rest_elsewhere digit word words differ =
    ap (λ b. map (λ w. drop 1 w) (cond b (word ∷ filter (λ w. slice_index w 0 == digit) words)
    (filter (λ w. slice_index w 0 == digit) words))) (ne_eqb (slice_index word 0) digit differ)

pub rests-append : (digit : ℕ) (words more : List (List ℕ))
    → rests_in digit (words ++ more) ≡ rests_in digit words ++ rests_in digit more
rests-append digit words more =
    ap (map (λ w. drop 1 w)) (filter-append (λ w. slice_index w 0 == digit) words more)
    ∙ map-append (λ w. drop 1 w) (filter (λ w. slice_index w 0 == digit) words)
    (filter (λ w. slice_index w 0 == digit) more)

-- the rests of words, one of which is between others
pub rest_between : (digit : ℕ) (word : List ℕ) (before after : List (List ℕ)) → slice_index word 0 ≡ digit
    → rests_in digit (before ++ word ∷ after) ≡ rests_in digit before ++ drop 1 word ∷ rests_in digit after
rest_between digit word before after same =
    rests-append digit before (word ∷ after) ∙ ap (λ ws. rests_in digit before ++ ws) (rest_here digit word after same)

pub rest_not_between : (digit : ℕ) (word : List ℕ) (before after : List (List ℕ)) → slice_index word 0 ≢ digit
    → rests_in digit (before ++ word ∷ after) ≡ rests_in digit (before ++ after)
rest_not_between digit word before after differ =
    rests-append digit before (word ∷ after)
    ∙ ap (λ ws. rests_in digit before ++ ws) (rest_elsewhere digit word after differ)
    ∙ sym (rests-append digit before after)

pub contains_rest : (digit : ℕ) (words : List (List ℕ)) (word : List ℕ) → slice_index word 0 ≡ digit
    → Contains words word → Contains (rests_in digit words) (drop 1 word)
contains_rest digit [] word same has = absurd (contains_none word has)
contains_rest digit (other ∷ words) word same has =
    elim (contains_cases other words word has) [
      | inl is ↦
          let here : rests_in digit (other ∷ words) ≡ drop 1 other ∷ rests_in digit words =
          rest_here digit other words (ap (λ w. slice_index w 0) is ∙ same) in
          rw here (subst (λ w. Contains (drop 1 other ∷ rests_in digit words) w) (ap (drop 1) is)
          (contains_here (drop 1 other) (rests_in digit words)))
      | inr later ↦ elim (cases_eq (slice_index other 0) digit) [
        | inl is ↦ rw (rest_here digit other words is)
            (contains_later (drop 1 other) (rests_in digit words) (drop 1 word)
            (contains_rest digit words word same later))
        | inr not ↦ rw (rest_elsewhere digit other words not) (contains_rest digit words word same later)
      ]
    ]

-- ---- the number of rests

pub no_more_rests : (digit : ℕ) (words : List (List ℕ)) → length (rests_in digit words) ≤ length words
no_more_rests digit [] = omega arith
no_more_rests digit (word ∷ words) =
    let rest = no_more_rests digit words in
    elim (cases_eq (slice_index word 0) digit) [
      | inl is ↦ rw (rest_here digit word words is) (omega arith)
      | inr not ↦ rw (rest_elsewhere digit word words not) (omega arith)
    ]

-- if some word is in another copy, there are fewer rests than words
pub fewer_rests : (digit other : ℕ) (words : List (List ℕ)) → other ≢ digit → Contains (first_digits words) other
    → length (rests_in digit words) < length words
fewer_rests digit other [] differ has = absurd (contains_none other has)
fewer_rests digit other (word ∷ words) differ has =
    elim (cases_eq (slice_index word 0) digit) [
      | inl is ↦ elim (contains_cases (slice_index word 0) (first_digits words) other has) [
        | inl same ↦ absurd (differ (sym same ∙ is))
        | inr later ↦ let rest = fewer_rests digit other words differ later in
            rw (rest_here digit word words is) (omega arith)
      ]
      | inr not ↦ let rest = no_more_rests digit words in rw (rest_elsewhere digit word words not) (omega arith)
    ]

-- if all words are in another copy, there are no rests
pub no_rests : (digit other : ℕ) (words : List (List ℕ)) → other ≢ digit → AreInOneCopy other (first_digits words)
    → rests_in digit words ≡ []
no_rests digit other [] differ one = refl
no_rests digit other (word ∷ words) differ one =
    let here : slice_index word 0 ≡ other =
    All-head (λ first. first ≡ other) (slice_index word 0) (first_digits words) one in
    rest_elsewhere digit word words (λ is. differ (sym here ∙ is))
    ∙ no_rests digit other words differ
    (All-tail (λ first. first ≡ other) (slice_index word 0) (first_digits words) one)

-- ---- words of digits

-- a word of one digit or more begins with one
pub first_and_rest : (count : ℕ) (word : List ℕ) → IsWord (suc count) word → word ≡ slice_index word 0 ∷ drop 1 word
first_and_rest count [] is = absurd (omega (arith, is.0))
first_and_rest count (first ∷ rest) is = refl

pub rest_is_word : (count : ℕ) (word : List ℕ) → IsWord (suc count) word → IsWord count (drop 1 word)
rest_is_word count [] is = absurd (omega (arith, is.0))
rest_is_word count (first ∷ rest) is = (omega (arith, is.0), All-tail (λ d. d < 3) first rest is.1)

pub rests_are_words : (digit count : ℕ) (words : List (List ℕ)) → All (IsWord (suc count)) words
    → All (IsWord count) (rests_in digit words)
rests_are_words digit count [] each = All-nil (IsWord count)
rests_are_words digit count (word ∷ words) each =
    let later = rests_are_words digit count words (All-tail (IsWord (suc count)) word words each) in
    elim (cases_eq (slice_index word 0) digit) [
      | inl is ↦ rw (rest_here digit word words is)
          (All-cons (IsWord count) (drop 1 word) (rests_in digit words)
          (rest_is_word count word (All-head (IsWord (suc count)) word words each)) later)
      | inr not ↦ rw (rest_elsewhere digit word words not) later
    ]
