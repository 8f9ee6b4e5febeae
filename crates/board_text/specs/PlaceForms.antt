-- The texts of places: the label of each, or a hyphen if it holds none.
use Rattle.std.specs.Prelude.{◌≡◌, ◌≢◌, ℕ, ◌<◌, ◌==◌, ◌⊎◌, if◌then◌else◌, Bool, true, false, List}
use Rattle.std.specs.Prelude.{◌++◌, length, map, All, Option, Some}
use Rattle.std.specs.Prelude.{None, codes}
use Rattle.std.specs.Fmt.{decimal}
use Rattle.std.specs.Str.Parse.{IsNumeral}
use Rattle.board_text.specs.LineForms.{with_line_feed, NoDigit}
use Rattle.board_text.specs.Numerals.{spaced_texts}

-- the text of a place; the number of labels stands for none
abbrev pub place_word : ℕ → ℕ → List ℕ
place_word labels place = if place == labels then codes "-" else decimal place

-- places, each with a space before it
abbrev pub spaced_places : ℕ → List ℕ → List ℕ
spaced_places labels places = spaced_texts (map (place_word labels) places)

-- a word and places, in a line of their own
abbrev pub places_line : ℕ → List ℕ → List ℕ → List ℕ
places_line labels word places = with_line_feed (word ++ spaced_places labels places)

-- a text that has the form of a place below the bound,
-- whether or not it spells one: digits, or a hyphen
abbrev pub IsPlaceText : ℕ → ℕ → List ℕ → Type 0
IsPlaceText labels bound text = IsNumeral 10 text ⊎ ((labels < bound) × (text ≡ codes "-"))

abbrev pub ArePlaceTexts : ℕ → ℕ → ℕ → List (List ℕ) → Type 0
ArePlaceTexts count labels bound texts =
    (length texts ≡ count) × All (IsPlaceText labels bound) texts

-- the text spells a place below the bound
abbrev pub SpellsPlace : ℕ → ℕ → List ℕ → Type 0
SpellsPlace labels bound text = (place : ℕ) × (place < bound) × (text ≡ place_word labels place)

-- whether each text spells a place below the bound, and then which
abbrev pub SpellPlaces : ℕ → ℕ → List (List ℕ) → Bool → List ℕ → Type 0
SpellPlaces labels bound texts true places =
    All (λ place. place < bound) places × (texts ≡ map (place_word labels) places)
SpellPlaces labels bound texts false places = All (SpellsPlace labels bound) texts → ⊥

-- The same for texts with a space before each.
abbrev pub TakesPlaces : ℕ → ℕ → ℕ → Option (Bool × List ℕ) → List ℕ → List ℕ → Type 0
TakesPlaces count labels bound None old new =
    (texts : List (List ℕ)) (more : List ℕ) → ArePlaceTexts count labels bound texts
    → NoDigit more → old ≢ spaced_texts texts ++ more
TakesPlaces count labels bound (Some (are, places)) old new =
    (texts : List (List ℕ)) × ArePlaceTexts count labels bound texts
    × (old ≡ spaced_texts texts ++ new) × NoDigit new
    × SpellPlaces labels bound texts are places
