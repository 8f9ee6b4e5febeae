-- Good words and replies from one level to the next.
use Rattle.std.proofs.Common.{◌≡◌, ◌↔◌, ℕ, zero, suc, ◌+◌, ◌-◌, ◌*◌, ◌/◌, ◌%◌, ◌^◌, ◌<◌, ◌≤◌, List, [], ◌∷◌, ◌++◌}
use Rattle.std.proofs.Common.{length, map, replicate, All, Contains, refl, sym, ap, ◌∙◌, subst, arith, inl, inr}
use Rattle.std.proofs.Math.Nat.{one-le-pow, pow-succ'}
use Rattle.std.proofs.lemmas.Nat.{div-mul-add, mod-mul-add, mul-add-lt}
use Rattle.std.proofs.lemmas.List.{map-append, length-map}
use Rattle.nested_cycles.specs.Words.{word_of}
use Rattle.nested_cycles.specs.Domination.{labels_of, label_word, NestedDominates}
use Rattle.nested_cycles.specs.GoodWords.{next_digit, first_digits, rests_in, AreInOneCopy, AreInTwoCopies, AreGood}
use Rattle.nested_cycles.specs.GoodWords.{label_words, NestedGood}
use Rattle.nested_cycles.specs.Reply.{IsReply, NestedReply}
use Rattle.nested_cycles.proofs.WordNumbers.{words_fit}
use Rattle.nested_cycles.proofs.CopyRests.{each_of, contains_map, contains_none}
use Rattle.nested_cycles.proofs.GoodReplies.{reply_dominates, good_with_reply}
use Rattle.nested_cycles.proofs.WordLists.{words_of, number_rests, first_digits_of, rests_of_numbers, rests_below}
use Rattle.nested_cycles.proofs.WordLists.{firsts_below, are_words, none_of_firsts, fewer_number_rests, good_by_rests}
use Rattle.nested_cycles.proofs.WordLists.{good_in_one, not_in_three}

-- words have one digit more than their rests, and copies are of this size
pub record HaveCopies (digits rest_digits size : ℕ) : Type 0 where
  pub digits_are : digits ≡ suc rest_digits
  pub size_is : size ≡ 3 ^ rest_digits

-- a level of at least 2 has copies
pub copies_at : (levels size : ℕ) → 2 ≤ levels → size ≡ labels_of (levels - 1)
    → HaveCopies (levels - 1) (levels - 1 - 1) size
copies_at levels size deep is = record { digits_are = omega arith; size_is = is }

pub some_size : (digits rest_digits size : ℕ) → HaveCopies digits rest_digits size → 0 < size
some_size digits rest_digits size at = rw at.size_is (one-le-pow rest_digits 3 (omega arith))

pub low_firsts : (digits rest_digits size : ℕ) (numbers : List ℕ) → HaveCopies digits rest_digits size
    → All (λ n. n < 3 ^ digits) numbers → All (λ n. n / size < 3) numbers
low_firsts digits rest_digits size numbers at each =
    rw at.size_is (firsts_below rest_digits numbers (rw at.digits_are at each))

-- ---- good words

pub good_if_one : (digits rest_digits size digit : ℕ) (numbers : List ℕ) → HaveCopies digits rest_digits size
    → AreInOneCopy digit (map (λ n. n / size) numbers)
    → AreGood digits (words_of digits numbers)
good_if_one digits rest_digits size digit numbers at one =
    rw at.digits_are (good_in_one rest_digits digit numbers (rw at.size_is at one))

pub good_if_rests_are : (digits rest_digits size digit next : ℕ) (numbers rests : List ℕ)
    → HaveCopies digits rest_digits size → length numbers ≤ suc digits
    → AreInTwoCopies digit (map (λ n. n / size) numbers) → next ≡ next_digit digit
    → rests ≡ number_rests size next numbers
    → AreGood rest_digits (words_of rest_digits rests) ↔ AreGood digits (words_of digits numbers)
good_if_rests_are digits rest_digits size digit next numbers rests at few two is_next is =
    let two' : AreInTwoCopies digit (map (λ n. n / 3 ^ rest_digits) numbers) = rw at.size_is at two in
    rw (is, is_next, at.digits_are, at.size_is)
    (good_by_rests rest_digits digit numbers (omega (arith, few, at.digits_are)) two')

pub not_good_if_three : (digits rest_digits size : ℕ) (numbers : List ℕ) → HaveCopies digits rest_digits size
    → ((digit : ℕ) → digit < 3 → Contains (map (λ n. n / size) numbers) digit)
    → AreGood digits (words_of digits numbers) → ⊥
not_good_if_three digits rest_digits size numbers at three good =
    not_in_three rest_digits numbers (λ digit low. rw at.size_is at (three digit low)) (rw at.digits_are at good)

-- the rests of words in two copies are fewer, and are words of a level less
pub record AreRests (digits rest_digits size : ℕ) (numbers rests : List ℕ) : Type 0 where
  pub fewer : length rests < length numbers
  pub below : All (λ n. n < 3 ^ rest_digits) rests

pub rests_are : (digits rest_digits size digit next : ℕ) (numbers rests : List ℕ) → HaveCopies digits rest_digits size
    → AreInTwoCopies digit (map (λ n. n / size) numbers) → next ≡ next_digit digit
    → rests ≡ number_rests size next numbers → AreRests digits rest_digits size numbers rests
rests_are digits rest_digits size digit next numbers rests at two is_next is =
    let two' : AreInTwoCopies digit (map (λ n. n / 3 ^ rest_digits) numbers) = rw at.size_is at two in
    record {
      fewer = rw (is, is_next, at.size_is) (fewer_number_rests rest_digits digit numbers two');
      below = rw (is, is_next, at.size_is)
          (rests_below (3 ^ rest_digits) (next_digit digit) numbers (one-le-pow rest_digits 3 (omega arith)));
    }

-- ---- the number of a reply

pub word_with_first : (count first rest : ℕ) → rest < 3 ^ count
    → word_of (suc count) (first * 3 ^ count + rest) ≡ first ∷ word_of count rest
unfolding word_of
word_with_first count first rest below =
    let digit : (first * 3 ^ count + rest) / 3 ^ count ≡ first = div-mul-add first (3 ^ count) rest below in
    let others : (first * 3 ^ count + rest) % 3 ^ count ≡ rest = mod-mul-add first (3 ^ count) rest below in
    λ i. digit i ∷ word_of count (others i)

pub zeros_word : (count : ℕ) → word_of count 0 ≡ replicate count 0
unfolding word_of
zeros_word zero = refl
zeros_word (suc count) =
    let some : 0 < 3 ^ count = one-le-pow count 3 (omega arith) in
    let zero_is : 0 * 3 ^ count + 0 ≡ 0 = omega arith in
    let with_first : word_of (suc count) (0 * 3 ^ count + 0) ≡ 0 ∷ word_of count 0 = word_with_first count 0 0 some in
    ap (word_of (suc count)) (sym zero_is) ∙ with_first ∙ ap (λ word. 0 ∷ word) (zeros_word count)

pub number_below : (digits rest_digits size first rest : ℕ) → HaveCopies digits rest_digits size → first < 3
    → rest < 3 ^ rest_digits → first * size + rest < 3 ^ digits
number_below digits rest_digits size first rest at low below =
    let fits = mul-add-lt first (3 ^ rest_digits) rest 3 low below in
    let power = pow-succ' 3 rest_digits in
    rw (at.digits_are, at.size_is) (omega (arith, fits, power))

pub number_fits : (digits rest_digits size first rest : ℕ) → HaveCopies digits rest_digits size → digits ≤ 23
    → first < 3 → rest < 3 ^ rest_digits → first * size + rest < 2 ^ 64
number_fits digits rest_digits size first rest at few low below =
    omega (arith, number_below digits rest_digits size first rest at low below, words_fit digits few)

-- ---- replies

pub reply_without_digits : (levels : ℕ) (others : List ℕ) → levels ≡ 1 → NestedReply levels others 0
unfolding word_of
reply_without_digits levels others one = subst (λ n. NestedReply n others 0) (sym one) refl

pub reply_to_none : (digits rest_digits size : ℕ) (others : List ℕ) → HaveCopies digits rest_digits size
    → map (λ n. n / size) others ≡ [] → IsReply digits (words_of digits others) (word_of digits 0)
reply_to_none digits rest_digits size others at none =
    rw at.digits_are (inl (
      ap (words_of (suc rest_digits)) (none_of_firsts (λ n. n / size) others none),
      zeros_word (suc rest_digits),
    ))

some_words : (count : ℕ) (numbers : List ℕ) (digit : ℕ) (f : ℕ → ℕ) → Contains (map f numbers) digit
    → words_of count numbers ≡ [] → ⊥
some_words count [] digit f has none = contains_none digit has
some_words count (n ∷ numbers) digit f has none = cc

pub reply_to_one : (digits rest_digits size digit next : ℕ) (others : List ℕ) → HaveCopies digits rest_digits size
    → AreInOneCopy digit (map (λ n. n / size) others)
    → Contains (map (λ n. n / size) others) digit → next ≡ next_digit digit
    → IsReply digits (words_of digits others) (word_of digits (next * size))
reply_to_one digits rest_digits size digit next others at one has is =
    let one' : AreInOneCopy digit (map (λ n. n / 3 ^ rest_digits) others) = rw at.size_is at one in
    let copies : AreInOneCopy digit (first_digits (words_of (suc rest_digits) others)) = rw first_digits_of one' in
    let first_there : word_of (suc rest_digits) (next_digit digit * 3 ^ rest_digits)
    ≡ next_digit digit ∷ replicate rest_digits 0 =
    ap (word_of (suc rest_digits)) (omega arith)
    ∙ word_with_first rest_digits (next_digit digit) 0 (one-le-pow rest_digits 3 (omega arith))
    ∙ ap (λ word. next_digit digit ∷ word) (zeros_word rest_digits) in
    rw (is, at.digits_are, at.size_is)
    (inr (inl (digit, some_words (suc rest_digits) others digit (λ n. n / size) has, copies, first_there)))

pub reply_to_two : (digits rest_digits size digit next rest : ℕ) (others rests : List ℕ)
    → HaveCopies digits rest_digits size → AreInTwoCopies digit (map (λ n. n / size) others)
    → next ≡ next_digit digit → rests ≡ number_rests size next others → rest < 3 ^ rest_digits
    → IsReply rest_digits (words_of rest_digits rests) (word_of rest_digits rest)
    → IsReply digits (words_of digits others) (word_of digits (next * size + rest))
reply_to_two digits rest_digits size digit next rest others rests at two is rests_is below reply =
    let two' : AreInTwoCopies digit (map (λ n. n / 3 ^ rest_digits) others) = rw at.size_is at two in
    let copies : AreInTwoCopies digit (first_digits (words_of (suc rest_digits) others)) = rw first_digits_of two' in
    let these : rests ≡ number_rests (3 ^ rest_digits) (next_digit digit) others =
    rests_is ∙ ap (λ (s : ℕ). number_rests s next others) at.size_is
    ∙ ap (λ (d : ℕ). number_rests (3 ^ rest_digits) d others) is in
    let there : IsReply rest_digits (rests_in (next_digit digit) (words_of (suc rest_digits) others))
    (word_of rest_digits rest) =
    rw (rests_of_numbers rest_digits (next_digit digit) others) (rw these at reply) in
    rw (is, at.digits_are, at.size_is)
    (inr (inr (
      digit,
      word_of rest_digits rest,
      copies,
      word_with_first rest_digits (next_digit digit) rest below,
      there,
    )))

-- ---- the words after a reply

pub reply_beats : (levels : ℕ) (others : List ℕ) (reply : ℕ) → length others < levels
    → All (λ n. n < labels_of levels) others → NestedReply levels others reply
    → All (λ other. NestedDominates levels reply other) others
reply_beats levels others reply few labels is =
    let long = length-map others (λ n. word_of (levels - 1) n) in
    each_of (λ other. NestedDominates levels reply other) others (λ other has.
    reply_dominates (levels - 1) (label_words levels others) (label_word levels reply)
    (are_words (levels - 1) others labels) (omega arith) is (label_word levels other)
    (contains_map (λ n. word_of (levels - 1) n) others other has))

pub good_with : (levels : ℕ) (others : List ℕ) (reply : ℕ) → length others < levels → NestedReply levels others reply
    → (before after : List ℕ) → others ≡ before ++ after → NestedGood levels (before ++ reply ∷ after)
good_with levels others reply few is before after parts =
    let word = λ (n : ℕ). word_of (levels - 1) n in
    let split : label_words levels others ≡ map word before ++ map word after =
    ap (map word) parts ∙ map-append word before after in
    let long : length (map word before ++ map word after) ≡ length others =
    sym (ap length split) ∙ length-map others word in
    rw (map-append word before (reply ∷ after))
    (good_with_reply (levels - 1) (map word before) (map word after) (word reply) (omega arith)
    (subst (λ ws. IsReply (levels - 1) ws (word reply)) split is))

pub reply_does : (levels n : ℕ) (others : List ℕ) → length others < levels → All (λ o. o < labels_of levels) others
    → NestedReply levels others n → All (λ other. NestedDominates levels n other) others
    × ((before after : List ℕ) → others ≡ before ++ after → NestedGood levels (before ++ n ∷ after))
reply_does levels n others few labels is = (reply_beats levels others n few labels is, good_with levels others n few is)
