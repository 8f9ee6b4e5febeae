-- Ascending numbers, cut into parts of equal size by their values.
use Rattle.std.specs.Prelude.{◌≡◌, ◌≢◌, ℕ, ◌+◌, ◌/◌, ◌^◌, ◌<◌, ◌≤◌, List, length, get_or}

-- no number is smaller than one before it
abbrev pub Ascends : List ℕ → Type 0
Ascends numbers = (first second : ℕ) → first ≤ second → second < length numbers
    → get_or numbers first 0 ≤ get_or numbers second 0

-- the number stands at this place
abbrev pub IsPlace : List ℕ → ℕ → ℕ → Type 0
IsPlace numbers number place = (place < length numbers) × (get_or numbers place 0 ≡ number)

-- the number stands at no place
abbrev pub LacksNumber : List ℕ → ℕ → Type 0
LacksNumber numbers number = (place : ℕ) → place < length numbers → get_or numbers place 0 ≢ number

-- the numbers before the start are of parts before this one, and no others
pub record IsPartStart (numbers : List ℕ) (shift part start : ℕ) : Type 0 where
  pub within : start ≤ length numbers
  pub before : (place : ℕ) → place < start → get_or numbers place 0 / 2 ^ shift < part
  pub after : (place : ℕ) → start ≤ place → place < length numbers
      → part ≤ get_or numbers place 0 / 2 ^ shift

-- the start of each part
abbrev pub AreStarts : List ℕ → ℕ → List ℕ → Type 0
AreStarts numbers shift starts = (part : ℕ) → part < length starts
    → IsPartStart numbers shift part (get_or starts part 0)

-- no number is greater than the last
abbrev pub AreUpTo : List ℕ → ℕ → Type 0
AreUpTo numbers last = (place : ℕ) → place < length numbers → get_or numbers place 0 ≤ last

-- each number is of one of the parts
abbrev pub AreBelow : List ℕ → ℕ → ℕ → Type 0
AreBelow numbers shift parts = (place : ℕ) → place < length numbers
    → get_or numbers place 0 / 2 ^ shift < parts

-- numbers that are searched part by part
pub record AreParted (numbers : List ℕ) (shift : ℕ) (starts : List ℕ) : Type 0 where
  pub ascends : Ascends numbers
  pub few : (0 < shift) × (shift < 64)
  pub some : 0 < length starts
  pub each : AreStarts numbers shift starts
  pub all : (place : ℕ) → place < length numbers
      → get_or numbers place 0 / 2 ^ shift + 1 < length starts
