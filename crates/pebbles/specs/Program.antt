-- The words that the program is given.
use Rattle.std.specs.Prelude.{◌≡◌, ℕ, List, map, string_bytes}
use Rattle.std.specs.Borrow.{Bor}
use Rattle.serving.specs.declared.serving.Words.{Words}
use Rattle.serving.specs.declared.serving.Words.TheVariants.{Given, NotText, OutOfMemory}
use Rattle.pebbles.specs.declared.OwnedWords.{OwnedWords}
use Rattle.pebbles.specs.declared.OwnedWords.TheVariants.{Given as OwnedGiven}
use Rattle.pebbles.specs.declared.OwnedWords.TheVariants.{NotText as OwnedNotText}
use Rattle.pebbles.specs.declared.OwnedWords.TheVariants.{OutOfMemory as OwnedOutOfMemory}

-- the bytes of texts behind references
abbrev pub borrowed_texts : List (Bor (List ℕ)) → List (List ℕ)
borrowed_texts words = map (λ word. word.now) words

-- these texts are given, or memory for them was refused
abbrev pub GivesTexts : List (List ℕ) → Words → Type 0
GivesTexts all (Given words) = borrowed_texts words.now ≡ all
GivesTexts all NotText = ⊥
GivesTexts all OutOfMemory = Unit {0}

-- the words are those that were taken, or tell why there are none
abbrev pub Gives : OwnedWords → Words → Type 0
Gives (OwnedGiven owned) words = GivesTexts (map string_bytes owned.items) words
Gives OwnedNotText words = words ≡ NotText
Gives OwnedOutOfMemory words = words ≡ OutOfMemory
