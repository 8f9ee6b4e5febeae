-- Words of ternary digits, and their numbers.
use Rattle.std.specs.Prelude.{ℕ, zero, suc, ◌+◌, ◌*◌, ◌/◌, ◌%◌, ◌^◌, List, [], ◌∷◌, length}
use Rattle.board_text.specs.Ranges.{AreNumbers}

-- a list of `count` ternary digits
abbrev pub IsWord : ℕ → List ℕ → Type 0
IsWord count word = AreNumbers count 3 word

-- the number of a word: it is read in base 3, its first digit most significant, so that the labels
-- of each copy of the smaller board have consecutive numbers
unfoldable pub word_number : List ℕ → ℕ
word_number [] = 0
word_number (digit ∷ others) = digit * 3 ^ length others + word_number others

-- the word of this number of digits that has this number
unfoldable pub word_of : ℕ → ℕ → List ℕ
word_of zero number = []
word_of (suc count) number = number / 3 ^ count ∷ word_of count (number % 3 ^ count)
