-- Lists of words, by the numbers of the words.
use Rattle.std.proofs.Common.{◌≡◌, ◌⊎◌, ◌↔◌, ◌==◌, ℕ, suc, ◌/◌, ◌%◌, ◌^◌, ◌<◌, ◌≤◌, List, [], ◌∷◌, length, map, drop}
use Rattle.std.proofs.Common.{slice_index, get_or, All, Contains, refl, sym, ap, ◌∙◌, subst, arith, mod-lt, inl, inr}
use Rattle.std.specs.List.{filter}
use Rattle.std.proofs.Math.Nat.{one-le-pow, pow-succ', div-lt_iff_lt-mul}
use Rattle.std.proofs.lemmas.Bool.{cases_Bool}
use Rattle.std.proofs.lemmas.List.{length-map}
use Rattle.std.proofs.lemmas.List.Elements.{All-weaker, All-map, All-contains}
use Rattle.nested_cycles.specs.Words.{IsWord, word_of}
use Rattle.nested_cycles.specs.GoodWords.{next_digit, first_digits, rests_in, AreInOneCopy, AreInTwoCopies, AreGood}
use Rattle.nested_cycles.proofs.WordNumbers.{word_of_is_word}
use Rattle.nested_cycles.proofs.CopyRests.{contains_none, next_differs, fewer_rests}

-- the words of numbers
abbrev pub words_of : ℕ → List ℕ → List (List ℕ)
words_of count numbers = map (λ n. word_of count n) numbers

-- ---- first digits and rests

first_of_number : (count number : ℕ) → slice_index (word_of (suc count) number) 0 ≡ number / 3 ^ count
unfolding word_of
first_of_number count number = refl

rest_of_number : (count number : ℕ) → drop 1 (word_of (suc count) number) ≡ word_of count (number % 3 ^ count)
unfolding word_of
rest_of_number count number = refl

pub first_digits_of : (count : ℕ) (numbers : List ℕ)
    → first_digits (words_of (suc count) numbers) ≡ map (λ n. n / 3 ^ count) numbers
first_digits_of count [] = refl
first_digits_of count (n ∷ numbers) = λ i. first_of_number count n i ∷ first_digits_of count numbers i

-- the rests of the numbers in a copy
abbrev pub number_rests : ℕ → ℕ → List ℕ → List ℕ
number_rests size digit numbers = map (λ n. n % size) (filter (λ n. n / size == digit) numbers)

pub rests_of_numbers : (count digit : ℕ) (numbers : List ℕ)
    → rests_in digit (words_of (suc count) numbers) ≡ words_of count (number_rests (3 ^ count) digit numbers)
rests_of_numbers count digit [] = refl
rests_of_numbers count digit (n ∷ numbers) =
    let here = first_of_number count n in
    elim (cases_Bool (n / 3 ^ count == digit)) [
      | inl in_copy ↦ rw (here, in_copy, rest_of_number count n, rests_of_numbers count digit numbers) refl
      | inr elsewhere ↦ rw (here, elsewhere, rests_of_numbers count digit numbers) refl
    ]

pub rests_below : (size digit : ℕ) (numbers : List ℕ) → 1 ≤ size → All (λ n. n < size) (number_rests size digit numbers)
rests_below size digit numbers some =
    All-map (λ n. n < size) (λ n. n % size) (filter (λ n. n / size == digit) numbers)
    (λ k d lt. mod-lt (get_or (filter (λ n. n / size == digit) numbers) k d) some)

pub firsts_below : (count : ℕ) (numbers : List ℕ) → All (λ n. n < 3 ^ suc count) numbers
    → All (λ n. n / 3 ^ count < 3) numbers
firsts_below count numbers each =
    All-weaker (λ n. n < 3 ^ suc count) (λ n. n / 3 ^ count < 3)
    (λ n below. (div-lt_iff_lt-mul (one-le-pow count 3 (omega arith))).1
    (subst (λ m. n < m) (pow-succ' 3 count) below)) numbers each

pub are_words : (count : ℕ) (numbers : List ℕ) → All (λ n. n < 3 ^ count) numbers
    → All (IsWord count) (words_of count numbers)
are_words count numbers each =
    All-map (IsWord count) (λ n. word_of count n) numbers
    (All-weaker (λ n. n < 3 ^ count) (λ n. IsWord count (word_of count n))
    (λ n below. word_of_is_word count n below) numbers each)

pub none_of_firsts : (f : ℕ → ℕ) (numbers : List ℕ) → map f numbers ≡ [] → numbers ≡ []
none_of_firsts f [] none = refl
none_of_firsts f (n ∷ numbers) none = cc

-- ---- good words

-- the two copies of words are those of one digit only
pub same_copies : (digit other : ℕ) (firsts : List ℕ) → AreInTwoCopies digit firsts → AreInTwoCopies other firsts
    → digit ≡ other
same_copies digit other firsts two second =
    let here = All-contains (λ f. (f ≡ other) ⊎ (f ≡ next_digit other)) firsts digit second.each two.some_here in
    let next = All-contains (λ f. (f ≡ other) ⊎ (f ≡ next_digit other)) firsts
    (next_digit digit) second.each two.some_next in
    elim here [
      | inl same ↦ same
      | inr turned ↦ elim next [
        | inl a ↦ absurd (omega (arith, a, turned))
        | inr b ↦ absurd (omega (arith, b, turned))
      ]
    ]

pub not_one : (digit other : ℕ) (firsts : List ℕ) → AreInTwoCopies digit firsts → AreInOneCopy other firsts → ⊥
not_one digit other firsts two one =
    let here : digit ≡ other = All-contains (λ f. f ≡ other) firsts digit one two.some_here in
    let next : next_digit digit ≡ other = All-contains (λ f. f ≡ other) firsts (next_digit digit) one two.some_next in
    next_differs digit (next ∙ sym here)

rests_of_good : (count digit : ℕ) (words : List (List ℕ)) → AreInTwoCopies digit (first_digits words)
    → AreGood (suc count) words → AreGood count (rests_in (next_digit digit) words)
rests_of_good count digit words two (inl none) =
    absurd (contains_none digit (subst (λ ws. Contains (first_digits ws) digit) none two.some_here))
rests_of_good count digit words two (inr (inl one)) = absurd (not_one digit one.0 (first_digits words) two one.1)
rests_of_good count digit words two (inr (inr other)) =
    subst (λ d. AreGood count (rests_in (next_digit d) words))
    (sym (same_copies digit other.0 (first_digits words) two other.1)) other.3

-- if words are in two copies, one of these has fewer rests than there are words
pub fewer_number_rests : (count digit : ℕ) (numbers : List ℕ) → AreInTwoCopies digit (map (λ n. n / 3 ^ count) numbers)
    → length (number_rests (3 ^ count) (next_digit digit) numbers) < length numbers
fewer_number_rests count digit numbers two =
    let words = words_of (suc count) numbers in
    let fewer : length (rests_in (next_digit digit) words) < length words =
    fewer_rests (next_digit digit) digit words (λ same. next_differs digit (sym same))
    (rw first_digits_of two.some_here) in
    let rests : length (rests_in (next_digit digit) words)
    ≡ length (number_rests (3 ^ count) (next_digit digit) numbers) =
    ap length (rests_of_numbers count (next_digit digit) numbers)
    ∙ length-map (number_rests (3 ^ count) (next_digit digit) numbers) (λ n. word_of count n) in
    let all : length words ≡ length numbers = length-map numbers (λ n. word_of (suc count) n) in
    omega arith

pub good_by_rests : (count digit : ℕ) (numbers : List ℕ) → length numbers ≤ suc (suc count)
    → AreInTwoCopies digit (map (λ n. n / 3 ^ count) numbers)
    → AreGood count (words_of count (number_rests (3 ^ count) (next_digit digit) numbers))
    ↔ AreGood (suc count) (words_of (suc count) numbers)
good_by_rests count digit numbers few two =
    let words = words_of (suc count) numbers in
    let rests = rests_of_numbers count (next_digit digit) numbers in
    let copies : AreInTwoCopies digit (first_digits words) = rw first_digits_of two in
    let fewer = fewer_number_rests count digit numbers two in
    let long : length (rests_in (next_digit digit) words)
    ≡ length (number_rests (3 ^ count) (next_digit digit) numbers) =
    ap length rests ∙ length-map (number_rests (3 ^ count) (next_digit digit) numbers) (λ n. word_of count n) in (
      λ good. inr (inr (digit, copies, omega arith, rw rests good)),
      λ good. rw rests at (rests_of_good count digit words copies good),
    )

pub good_in_one : (count digit : ℕ) (numbers : List ℕ) → AreInOneCopy digit (map (λ n. n / 3 ^ count) numbers)
    → AreGood (suc count) (words_of (suc count) numbers)
good_in_one count digit numbers one = inr (inl (digit, rw first_digits_of one))

three_are_not_good : (count : ℕ) (words : List (List ℕ))
    → ((digit : ℕ) → digit < 3 → Contains (first_digits words) digit) → AreGood (suc count) words → ⊥
three_are_not_good count words three (inl none) =
    contains_none 0 (subst (λ ws. Contains (first_digits ws) 0) none (three 0 (omega arith)))
three_are_not_good count words three (inr (inl one)) =
    let none : 0 ≡ one.0 = All-contains (λ f. f ≡ one.0) (first_digits words) 0 one.1 (three 0 (omega arith)) in
    let first : 1 ≡ one.0 = All-contains (λ f. f ≡ one.0) (first_digits words) 1 one.1 (three 1 (omega arith)) in
    omega arith
three_are_not_good count words three (inr (inr two)) =
    let in_two : (f : ℕ) → f < 3 → (f ≡ two.0) ⊎ (f ≡ next_digit two.0) =
    λ f low. All-contains (λ f. (f ≡ two.0) ⊎ (f ≡ next_digit two.0)) (first_digits words) f two.1.each
    (three f low) in
    omega (arith, in_two 0 (omega arith), in_two 1 (omega arith), in_two 2 (omega arith))

pub not_in_three : (count : ℕ) (numbers : List ℕ)
    → ((digit : ℕ) → digit < 3 → Contains (map (λ n. n / 3 ^ count) numbers) digit)
    → AreGood (suc count) (words_of (suc count) numbers) → ⊥
not_in_three count numbers three good =
    three_are_not_good count (words_of (suc count) numbers) (λ digit low. rw first_digits_of (three digit low)) good
