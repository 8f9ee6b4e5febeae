-- The forms of lines, words and numbers that a reader takes
-- from the start of the bytes that are left.
use Rattle.std.specs.Prelude.{◌≡◌, ◌≢◌, ℕ, List, [], ◌∷◌, ◌++◌, Option, Some, None, slice_index}
use Rattle.std.specs.Char.{IsAsciiDigit}
use Rattle.std.specs.List.{flat_map}
use Rattle.std.specs.Fmt.{decimal}
use Rattle.board_text.specs.Ranges.{InRange}

-- The line feed that closes each line.
abbrev pub with_line_feed : List ℕ → List ℕ
with_line_feed line = line ++ 10 ∷ []

-- A word, a space and a number, in a line of their own.
abbrev pub number_line : List ℕ → ℕ → List ℕ
number_line word n = with_line_feed (word ++ 32 ∷ decimal n)

-- Numbers, each with a space before it.
abbrev pub spaced_numbers : List ℕ → List ℕ
spaced_numbers ns = flat_map (λ n. 32 ∷ decimal n) ns

-- A word and numbers, in a line of their own.
abbrev pub numbers_line : List ℕ → List ℕ → List ℕ
numbers_line word ns = with_line_feed (word ++ spaced_numbers ns)

-- The bytes don't begin with anything of this form.
abbrev pub Lacks : {X : Type 0} → (X → Type 0) → (X → List ℕ) → List ℕ → Type 0
Lacks {X} P form bytes = (x : X) (more : List ℕ) → P x → bytes ≢ form x ++ more

-- The x was taken whose form the bytes begin with, and nothing only if they begin with none.
abbrev pub Takes : {X : Type 0} → (X → Type 0) → (X → List ℕ) → Option X → List ℕ → List ℕ → Type 0
Takes P form None old new = Lacks P form old
Takes P form (Some x) old new = P x × (old ≡ form x ++ new)

-- The bytes don't begin with a digit.
abbrev pub NoDigit : List ℕ → Type 0
NoDigit bytes = IsAsciiDigit (slice_index bytes 0) → ⊥

-- A number was taken, with all digits that the bytes begin with: no digit comes after it.
abbrev pub TakesNumber : ℕ → ℕ → Option ℕ → List ℕ → List ℕ → Type 0
TakesNumber low high None old new =
    (n : ℕ) (more : List ℕ) → InRange low high n → NoDigit more → old ≢ decimal n ++ more
TakesNumber low high (Some n) old new = InRange low high n × (old ≡ decimal n ++ new) × NoDigit new
