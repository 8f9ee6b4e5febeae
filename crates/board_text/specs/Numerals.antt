-- Texts of digits, whether or not they spell a number.
use Rattle.std.specs.Prelude.{◌≡◌, ◌≢◌, ℕ, ◌^◌, ◌<◌, ◌≤◌, List, ◌∷◌, ◌++◌, Option, Some, None}
use Rattle.std.specs.List.{flat_map}
use Rattle.std.specs.Fmt.{decimal}
use Rattle.std.specs.Str.Parse.{IsNumeral}
use Rattle.board_text.specs.LineForms.{NoDigit}
use Rattle.board_text.specs.declared.line_reader.Numeral.{Numeral}
use Rattle.board_text.specs.declared.line_reader.Numeral.TheVariants.{Number, NoNumber}

-- the number that the digits spell, if they spell one below 2 ^ 32
abbrev pub Says : List ℕ → Numeral → Type 0
Says digits (Number n) = (n < 2 ^ 32) × (digits ≡ decimal n)
Says digits NoNumber = (n : ℕ) → n < 2 ^ 32 → digits ≢ decimal n

-- the number in the range that digits say
abbrev pub IsNumberIn : ℕ → ℕ → Numeral → ℕ → Type 0
IsNumberIn low high numeral n = (low ≤ n) × (n ≤ high) × (numeral ≡ Number n)

-- All the digits that the text begins with, one or more, were taken; nothing only if there is none.
abbrev pub TakesNumeral : Option Numeral → List ℕ → List ℕ → Type 0
TakesNumeral None old new = (digits more : List ℕ) → IsNumeral 10 digits → old ≢ digits ++ more
TakesNumeral (Some numeral) old new = (digits : List ℕ) × IsNumeral 10 digits
    × (old ≡ digits ++ new) × NoDigit new × Says digits numeral

-- texts, each with a space before it
abbrev pub spaced_texts : List (List ℕ) → List ℕ
spaced_texts ws = flat_map (λ w. 32 ∷ w) ws

-- the digits spell a number below the bound
abbrev pub SpellsBelow : ℕ → List ℕ → Type 0
SpellsBelow bound text = (number : ℕ) × (number < bound) × (text ≡ decimal number)
