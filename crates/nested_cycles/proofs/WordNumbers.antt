-- Words and their numbers correspond.
use Rattle.std.proofs.Common.{◌≡◌, ℕ, zero, suc, ◌+◌, ◌*◌, ◌/◌, ◌%◌, ◌^◌, ◌<◌, ◌≤◌, List, [], ◌∷◌, ◌++◌, length, refl}
use Rattle.std.proofs.Common.{sym, ap, ◌∙◌, subst, arith, mod-lt, div-add-mod', mul-le-mul_right, suc-mul, mul_assoc}
use Rattle.std.proofs.Math.Nat.{one-le-pow, pow-le-pow_right, pow-zero, pow-succ', div-lt_iff_lt-mul}
use Rattle.std.proofs.lemmas.Nat.{div-mul-add, mod-mul-add, mod_below}
use Rattle.std.specs.List.{All}
use Rattle.std.proofs.lemmas.List.{length-append}
use Rattle.std.proofs.lemmas.List.Elements.{All-head, All-tail, All-nil, All-cons, All-push}
use Rattle.nested_cycles.specs.Words.{IsWord, word_number, word_of}

some_words : (count : ℕ) → 1 ≤ 3 ^ count
some_words count = one-le-pow count 3 (omega arith)

pub length-word_of : (count number : ℕ) → length (word_of count number) ≡ count
unfolding word_number word_of
length-word_of zero number = refl
length-word_of (suc count) number = ap suc (length-word_of count (number % 3 ^ count))

pub number_of-word_of : (count number : ℕ) → number < 3 ^ count → word_number (word_of count number) ≡ number
unfolding word_number word_of
number_of-word_of zero number below = let one : 3 ^ 0 ≡ 1 = pow-zero 3 in omega arith
number_of-word_of (suc count) number below =
    let rest : word_number (word_of count (number % 3 ^ count)) ≡ number % 3 ^ count =
    number_of-word_of count (number % 3 ^ count) (mod-lt number (some_words count)) in
    ap (λ n. number / 3 ^ count * 3 ^ n + word_number (word_of count (number % 3 ^ count)))
    (length-word_of count (number % 3 ^ count))
    ∙ ap (λ r. number / 3 ^ count * 3 ^ count + r) rest
    ∙ div-add-mod' number (3 ^ count)

-- the number of a word is below 3 to the power of its length
number_below : (word : List ℕ) → All (λ digit. digit < 3) word → word_number word < 3 ^ length word
unfolding word_number word_of
number_below [] each = let one : 3 ^ 0 ≡ 1 = pow-zero 3 in omega arith
number_below (digit ∷ word) each =
    let low : digit < 3 = All-head (λ d. d < 3) digit word each in
    let rest : word_number word < 3 ^ length word = number_below word (All-tail (λ d. d < 3) digit word each) in
    let product : suc digit * 3 ^ length word ≤ 3 * 3 ^ length word = mul-le-mul_right (3 ^ length word) low in
    let more : suc digit * 3 ^ length word ≡ digit * 3 ^ length word + 3 ^ length word =
    suc-mul digit (3 ^ length word) in
    let power : 3 ^ suc (length word) ≡ 3 * 3 ^ length word = pow-succ' 3 (length word) in
    omega arith

pub number_of_word : (count : ℕ) (word : List ℕ) → IsWord count word → word_number word < 3 ^ count
number_of_word count word is = subst (λ (n : ℕ). word_number word < 3 ^ n) is.0 (number_below word is.1)

digits_again : (word : List ℕ) → All (λ digit. digit < 3) word → word_of (length word) (word_number word) ≡ word
unfolding word_number word_of
digits_again [] each = refl
digits_again (digit ∷ word) each =
    let rest : word_number word < 3 ^ length word = number_below word (All-tail (λ d. d < 3) digit word each) in
    let first : (digit * 3 ^ length word + word_number word) / 3 ^ length word ≡ digit =
    div-mul-add digit (3 ^ length word) (word_number word) rest in
    let others : word_of (length word) ((digit * 3 ^ length word + word_number word) % 3 ^ length word) ≡ word =
    ap (word_of (length word)) (mod-mul-add digit (3 ^ length word) (word_number word) rest)
    ∙ digits_again word (All-tail (λ d. d < 3) digit word each) in
    λ i. first i ∷ others i

pub word_of-number_of : (count : ℕ) (word : List ℕ) → IsWord count word → word_of count (word_number word) ≡ word
word_of-number_of count word is = subst (λ (n : ℕ). word_of n (word_number word) ≡ word) is.0 (digits_again word is.1)

digits_below : (count number : ℕ) → number < 3 ^ count → All (λ digit. digit < 3) (word_of count number)
unfolding word_number word_of
digits_below zero number below = All-nil (λ digit. digit < 3)
digits_below (suc count) number below =
    All-cons (λ digit. digit < 3) (number / 3 ^ count) (word_of count (number % 3 ^ count))
    ((div-lt_iff_lt-mul (some_words count)).1 (subst (λ n. number < n) (pow-succ' 3 count) below))
    (digits_below count (number % 3 ^ count) (mod-lt number (some_words count)))

pub word_of_is_word : (count number : ℕ) → number < 3 ^ count → IsWord count (word_of count number)
word_of_is_word count number below = (length-word_of count number, digits_below count number below)

-- ---- the last digit

number_of-push : (word : List ℕ) (digit : ℕ) → word_number (word ++ digit ∷ []) ≡ word_number word * 3 + digit
unfolding word_number word_of
number_of-push [] digit = let one : 3 ^ 0 ≡ 1 = pow-zero 3 in rw one (omega arith)
number_of-push (first ∷ word) digit =
    let rest : word_number (word ++ digit ∷ []) ≡ word_number word * 3 + digit = number_of-push word digit in
    let longer : length (word ++ digit ∷ []) ≡ suc (length word) = omega (arith, length-append word (digit ∷ [])) in
    let power : 3 ^ length (word ++ digit ∷ []) ≡ 3 ^ length word * 3 =
    ap (λ n. 3 ^ n) longer ∙ pow-succ' 3 (length word) ∙ omega arith in
    let product : first * 3 ^ length (word ++ digit ∷ []) ≡ first * (3 ^ length word * 3) = ap (λ n. first * n) power in
    let grouped : first * 3 ^ length word * 3 ≡ first * (3 ^ length word * 3) = mul_assoc first (3 ^ length word) 3 in
    omega arith

pub third_below : (count number : ℕ) → number < 3 ^ suc count → number / 3 < 3 ^ count
third_below count number below = let power : 3 ^ suc count ≡ 3 * 3 ^ count = pow-succ' 3 count in omega arith

-- a word is that of the number divided by 3, and then the remainder
pub word_of-push : (count number : ℕ) → number < 3 ^ suc count
    → word_of (suc count) number ≡ word_of count (number / 3) ++ number % 3 ∷ []
word_of-push count number below =
    let small : number / 3 < 3 ^ count = third_below count number below in
    let front : IsWord count (word_of count (number / 3)) = word_of_is_word count (number / 3) small in
    let word : List ℕ = word_of count (number / 3) ++ number % 3 ∷ [] in
    let is : IsWord (suc count) word = (
      omega (arith, length-append (word_of count (number / 3)) (number % 3 ∷ []), front.0),
      All-push (λ d. d < 3) (word_of count (number / 3)) (number % 3) front.1 (mod_below number 3 (omega arith)),
    ) in
    let same : word_number word ≡ number =
    number_of-push (word_of count (number / 3)) (number % 3)
    ∙ ap (λ n. n * 3 + number % 3) (number_of-word_of count (number / 3) small) ∙ div-add-mod' number 3 in
    sym (ap (word_of (suc count)) same) ∙ word_of-number_of (suc count) word is

-- words of at most 23 digits have numbers of 64 bits
pub words_fit : (count : ℕ) → count ≤ 23 → 3 ^ count < 2 ^ 64
words_fit count few =
    let most : 3 ^ count ≤ 3 ^ 23 = pow-le-pow_right {n = 3} (omega arith) {i = count} {j = 23} few in omega arith
