-- Definitions for this crate's own functions, beside `PlaceForms`.
use Rattle.std.specs.Prelude.{◌≡◌, ◌≢◌, ℕ, ◌<◌, List, ◌++◌, Option, Some, None, MatchOption}
use Rattle.board_text.specs.LineForms.{NoDigit}
use Rattle.board_text.specs.PlaceForms.{place_word, IsPlaceText, SpellsPlace}

-- A text of this form was taken, with the place that it spells,
-- if it does; nothing only if there is none.
abbrev pub TakesPlace : ℕ → ℕ → Option (Option ℕ) → List ℕ → List ℕ → Type 0
TakesPlace labels bound None old new =
    (text more : List ℕ) → IsPlaceText labels bound text → NoDigit more → old ≢ text ++ more
TakesPlace labels bound (Some place) old new =
    (text : List ℕ) × IsPlaceText labels bound text × (old ≡ text ++ new) × NoDigit new
    × MatchOption place (SpellsPlace labels bound text → ⊥)
    (λ p. (p < bound) × (text ≡ place_word labels p))
