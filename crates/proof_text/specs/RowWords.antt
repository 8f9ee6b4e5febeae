-- The words of a row, whether or not they spell numbers in range.
use Rattle.std.specs.Prelude.{◌≡◌, ℕ, ◌⊎◌, List, ◌++◌, codes}
use Rattle.std.specs.Str.Parse.{IsNumeral}
use Rattle.board_text.specs.LineForms.{with_line_feed}
use Rattle.board_text.specs.Numerals.{spaced_texts}
use Rattle.board_text.specs.PlaceForms.{ArePlaceTexts}

-- the texts of a labeller's row; a star may stand for its turns
pub record AnswerWords : Type 0 where
  pub at : List (List ℕ)
  pub turns : List ℕ
  pub take : List (List ℕ)

-- the texts of an adversary's row
pub record RequestWords : Type 0 where
  pub at : List (List ℕ)
  pub left : List ℕ
  pub ask : List ℕ

-- digits, one or more, or a star
abbrev pub IsTurnsText : List ℕ → Type 0
IsTurnsText text = IsNumeral 10 text ⊎ (text ≡ codes "*")

-- as many places below the bound and as many labels as there are pebbles,
-- each in digits, or a place as a hyphen
pub record AreAnswerWords (pebbles labels bound : ℕ) (words : AnswerWords) : Type 0 where
  pub at : ArePlaceTexts pebbles labels bound words.at
  pub turns : IsTurnsText words.turns
  pub take : ArePlaceTexts pebbles labels labels words.take

pub record AreRequestWords (pebbles labels bound : ℕ) (words : RequestWords) : Type 0 where
  pub at : ArePlaceTexts pebbles labels bound words.at
  pub left : IsNumeral 10 words.left
  pub ask : IsNumeral 10 words.ask

abbrev pub answer_words_line : AnswerWords → List ℕ
answer_words_line words = with_line_feed
    (codes "at" ++ (spaced_texts words.at
    ++ (codes " for " ++ (words.turns ++ (codes " take" ++ spaced_texts words.take)))))

abbrev pub request_words_line : RequestWords → List ℕ
request_words_line words =
    with_line_feed (codes "at" ++ (spaced_texts words.at
    ++ (codes " for " ++ (words.left ++ (codes " ask " ++ words.ask)))))

-- the texts of an adversary's row by classes: those of its places, of its number, and of the place
-- that is asked
pub record ClassRequestWords : Type 0 where
  pub at : List (List ℕ)
  pub left : List ℕ
  pub ask : List (List ℕ)

-- as many places below the bound as there are pebbles, a number in digits, and one place
pub record AreClassRequestWords (pebbles labels bound : ℕ) (words : ClassRequestWords)
    : Type 0 where
  pub at : ArePlaceTexts pebbles labels bound words.at
  pub left : IsNumeral 10 words.left
  pub ask : ArePlaceTexts 1 labels bound words.ask

abbrev pub class_request_words_line : ClassRequestWords → List ℕ
class_request_words_line words = with_line_feed
    (codes "at" ++ (spaced_texts words.at
    ++ (codes " for " ++ (words.left ++ (codes " ask" ++ spaced_texts words.ask)))))

-- the texts of a map: as many labels as the board has, each in digits
abbrev pub AreMapWords : ℕ → List (List ℕ) → Type 0
AreMapWords labels words = ArePlaceTexts labels labels labels words

abbrev pub map_words_line : List (List ℕ) → List ℕ
map_words_line words = with_line_feed (codes "map" ++ spaced_texts words)
