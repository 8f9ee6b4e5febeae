-- Good words: those from which a labeller answers requests for ever.
use Rattle.std.specs.Prelude.{◌≡◌, ℕ, zero, suc, ◌+◌, ◌-◌, ◌%◌, ◌≤◌, ◌⊎◌, ◌==◌, List, [], length}
use Rattle.std.specs.Prelude.{map, drop, slice_index, All, Contains}
use Rattle.std.specs.List.{filter}
use Rattle.nested_cycles.specs.Domination.{label_word}

-- the digit that comes next round the three-cycle
abbrev pub next_digit : ℕ → ℕ
next_digit digit = (digit + 1) % 3

-- the first digit of each word: the copy that it is in
abbrev pub first_digits : List (List ℕ) → List ℕ
first_digits words = map (λ word. slice_index word 0) words

-- the words of one copy, without their first digit
abbrev pub rests_in : ℕ → List (List ℕ) → List (List ℕ)
rests_in digit words =
    map (λ word. drop 1 word) (filter (λ word. slice_index word 0 == digit) words)

-- all first digits are this one
abbrev pub AreInOneCopy : ℕ → List ℕ → Type 0
AreInOneCopy digit firsts = All (λ first. first ≡ digit) firsts

-- The first digits are this one and the one that comes next, both of them.
pub record AreInTwoCopies (digit : ℕ) (firsts : List ℕ) : Type 0 where
  pub each : All (λ first. (first ≡ digit) ⊎ (first ≡ next_digit digit)) firsts
  pub some_here : Contains firsts digit
  pub some_next : Contains firsts (next_digit digit)

-- words of this number of digits: none, or all in one copy, or in two of which the one that comes
-- next has at most as many words as there are digits, with good rests
abbrev pub AreGood : ℕ → List (List ℕ) → Type 0
AreGood zero words = Unit {0}
AreGood (suc count) words =
    (words ≡ [])
    ⊎ ((digit : ℕ) × AreInOneCopy digit (first_digits words))
    ⊎ ((digit : ℕ) × AreInTwoCopies digit (first_digits words)
    × (length (rests_in (next_digit digit) words) ≤ suc count)
    × AreGood count (rests_in (next_digit digit) words))

-- the words of labels
abbrev pub label_words : ℕ → List ℕ → List (List ℕ)
label_words levels labels = map (label_word levels) labels

-- the words of the labels of a nested board are good
abbrev pub NestedGood : ℕ → List ℕ → Type 0
NestedGood levels labels = AreGood (levels - 1) (label_words levels labels)
