-- The text that each step of reading a document takes.
use Rattle.std.specs.Prelude.{◌≡◌, ◌≢◌, ℕ, ◌+◌, ◌<◌, ◌⊎◌, Bool, List, ◌++◌, Option, Some, None}
use Rattle.std.specs.Prelude.{codes}
use Rattle.std.specs.Fmt.{decimal}
use Rattle.board_text.specs.LineForms.{Lacks, NoDigit}
use Rattle.board_text.specs.Numerals.{spaced_texts, SpellsBelow}
use Rattle.board_text.specs.PlaceForms.{ArePlaceTexts, SpellPlaces}
use Rattle.positions.specs.declared.claim.Claim.{Claim}
use Rattle.positions.specs.declared.turns.Turns.{Turns}
use Rattle.proof_text.specs.Proof.{AreTurns}
use Rattle.proof_text.specs.ProofText.{turns_text}
use Rattle.proof_text.specs.RowWords.{AnswerWords, RequestWords, IsTurnsText, AreAnswerWords}
use Rattle.proof_text.specs.RowWords.{AreRequestWords, answer_words_line, request_words_line}
use Rattle.proof_text.specs.RowWords.{ClassRequestWords, AreClassRequestWords}
use Rattle.proof_text.specs.RowWords.{class_request_words_line, AreMapWords, map_words_line}
use Rattle.proof_text.specs.RowFaults.{SpellsTurns}
use Rattle.proof_text.specs.declared.row_words.AnswerValues.{AnswerValues}
use Rattle.proof_text.specs.declared.row_words.RequestValues.{RequestValues}
use Rattle.proof_text.specs.declared.row_words.ClassRequestValues.{ClassRequestValues}
use Rattle.proof_text.specs.declared.proof.TheConstants.{MAX_TURNS}

-- the words of a configuration, and the rest
abbrev pub position_text : List (List ℕ) → List ℕ → List ℕ
position_text texts rest = codes "at" ++ (spaced_texts texts ++ (codes " for " ++ rest))

-- A configuration was taken, with the places below the bound that it spells, if it does.
abbrev pub TakesConfiguration : ℕ → ℕ → ℕ → Option (Bool × List ℕ) → List ℕ → List ℕ → Type 0
TakesConfiguration pebbles labels bound None old new =
    (texts : List (List ℕ)) (more : List ℕ) → ArePlaceTexts pebbles labels bound texts
    → old ≢ position_text texts more
TakesConfiguration pebbles labels bound (Some (are, numbers)) old new =
    (texts : List (List ℕ)) × ArePlaceTexts pebbles labels bound texts
    × (old ≡ position_text texts new)
    × SpellPlaces labels bound texts are numbers

-- the turns that the text spells, if the claim allows them
abbrev pub TurnsOf : Claim → List ℕ → Option Turns → Type 0
TurnsOf claim text None = SpellsTurns claim text → ⊥
TurnsOf claim text (Some turns) = AreTurns claim turns × (text ≡ turns_text turns)

-- A text of turns was taken.
abbrev pub TakesTurns : Claim → Option (Option Turns) → List ℕ → List ℕ → Type 0
TakesTurns claim None old new =
    (text more : List ℕ) → IsTurnsText text → NoDigit more → old ≢ text ++ more
TakesTurns claim (Some turns) old new =
    (text : List ℕ) × IsTurnsText text × (old ≡ text ++ new) × (NoDigit new ⊎ (text ≡ codes "*"))
    × TurnsOf claim text turns

-- the number in the range that the digits spell, if they do
abbrev pub NumberOf : ℕ → List ℕ → Option ℕ → Type 0
NumberOf bound text None = SpellsBelow bound text → ⊥
NumberOf bound text (Some number) = (number < bound) × (text ≡ decimal number)

-- the words of a labeller's row spell these values, as far as they spell any
pub record AnswerSpelled (labels bound : ℕ) (claim : Claim) (words : AnswerWords)
    (values : AnswerValues)
    (at answers : List ℕ) : Type 0 where
  pub places : SpellPlaces labels bound words.at values.are_places at
  pub turns : TurnsOf claim words.turns values.turns
  pub taken : SpellPlaces labels labels words.take values.are_answers answers

-- The words of a labeller's row were taken.
abbrev pub TakesAnswerWords : ℕ → ℕ → ℕ → Claim → Option AnswerValues → List ℕ → List ℕ → List ℕ
    → List ℕ → Type 0
TakesAnswerWords pebbles labels bound claim None at answers old new =
    Lacks (AreAnswerWords pebbles labels bound) answer_words_line old
TakesAnswerWords pebbles labels bound claim (Some values) at answers old new =
    (words : AnswerWords) × AreAnswerWords pebbles labels bound words
    × (old ≡ answer_words_line words ++ new)
    × AnswerSpelled labels bound claim words values at answers

-- The words of a map were taken, with the labels that they spell, if they do.
abbrev pub TakesMapWords : ℕ → Option (Bool × List ℕ) → List ℕ → List ℕ → Type 0
TakesMapWords labels None old new = Lacks (AreMapWords labels) map_words_line old
TakesMapWords labels (Some (are, images)) old new =
    (words : List (List ℕ)) × AreMapWords labels words × (old ≡ map_words_line words ++ new)
    × SpellPlaces labels labels words are images

-- the words of an adversary's row spell these values, as far as they spell any
pub record RequestSpelled (labels bound pebbles : ℕ) (words : RequestWords) (values : RequestValues)
    (at : List ℕ) : Type 0 where
  pub places : SpellPlaces labels bound words.at values.are_places at
  pub number : NumberOf (MAX_TURNS + 1) words.left values.left
  pub pebble : NumberOf pebbles words.ask values.ask

-- The words of an adversary's row were taken.
abbrev pub TakesRequestWords : ℕ → ℕ → ℕ → Option RequestValues → List ℕ → List ℕ → List ℕ → Type 0
TakesRequestWords pebbles labels bound None at old new =
    Lacks (AreRequestWords pebbles labels bound) request_words_line old
TakesRequestWords pebbles labels bound (Some values) at old new =
    (words : RequestWords) × AreRequestWords pebbles labels bound words
    × (old ≡ request_words_line words ++ new)
    × RequestSpelled labels bound pebbles words values at

-- the words of an adversary's row by classes spell these values, as far as they spell any
pub record ClassRequestSpelled (labels bound : ℕ) (words : ClassRequestWords)
    (values : ClassRequestValues)
    (at asked : List ℕ) : Type 0 where
  pub places : SpellPlaces labels bound words.at values.are_places at
  pub number : NumberOf (MAX_TURNS + 1) words.left values.left
  pub ask : SpellPlaces labels bound words.ask values.is_place asked

-- The words of an adversary's row by classes were taken.
abbrev pub TakesClassRequestWords : ℕ → ℕ → ℕ → Option ClassRequestValues → List ℕ → List ℕ → List ℕ
    → List ℕ → Type 0
TakesClassRequestWords pebbles labels bound None at asked old new =
    Lacks (AreClassRequestWords pebbles labels bound) class_request_words_line old
TakesClassRequestWords pebbles labels bound (Some values) at asked old new =
    (words : ClassRequestWords) × AreClassRequestWords pebbles labels bound words
    × (old ≡ class_request_words_line words ++ new)
    × ClassRequestSpelled labels bound words values at asked
