-- Words of up to four bytes, and how they are gathered after a text.
use Rattle.std.specs.Prelude.{◌≡◌, ℕ, suc, ◌≤◌, ◌∷◌, ◌++◌, List, codes, length, take}
use Rattle.std.specs.Prelude.{slice_index_or}
use Rattle.std.specs.Str.{IsAscii, IsUtf8}
use Rattle.board_text.specs.PlaceForms.{place_word, spaced_places}
use Rattle.board_text.specs.PlainBoard.{PlainBoard}
use Rattle.board_text.specs.LineForms.{with_line_feed}
use Rattle.positions.specs.declared.turns.Turns.{Turns}
use Rattle.proof_text.specs.ProofText.{turns_text}
use Rattle.proof_text.specs.declared.row_heads.TheConstants.{SIZE_OF_HEAD}
use Rattle.proof_text.specs.declared.row_text.Word.{Word}
use Rattle.proof_text.specs.declared.row_text.TheConstants.{ROOM}

-- the bytes of a word
abbrev pub bytes_of_word : Word → List ℕ
bytes_of_word word = take word.size word.bytes

-- the word has this text
pub record IsWordWith (text : List ℕ) (word : Word) : Type 0 where
  pub few : word.size ≤ 4
  pub is : bytes_of_word word ≡ text
  pub ascii : IsAscii text

-- a word for each place, and one for a pebble that holds no label
pub record ArePlaceWords (labels : ℕ) (words : List Word) : Type 0 where
  pub many : length words ≡ suc labels
  pub each : (place : ℕ) (d : Word) → place ≤ labels
      → IsWordWith (32 ∷ place_word labels place) (slice_index_or words place d)

-- the bytes of a text and those that are gathered after it are each a text of their own
pub record IsGathered (written room : List ℕ) (count : ℕ) : Type 0 where
  pub size : length room ≡ ROOM
  pub inside : count ≤ ROOM
  pub whole : IsUtf8 written
  pub gathered : IsUtf8 (take count room)

-- what the lines of rows with these places begin with
abbrev pub row_head : ℕ → List ℕ → List ℕ
row_head labels places = codes "at" ++ spaced_places labels places

-- what a labeller's row has after its places
abbrev pub end_of_answer : PlainBoard → Turns → List ℕ → List ℕ
end_of_answer board turns answers = with_line_feed (codes " for " ++ (turns_text turns
    ++ (codes " take" ++ spaced_places board.labels answers)))

-- the bytes of a head, each a character
pub record IsRowHead (bytes : List ℕ) (size : ℕ) : Type 0 where
  pub room : length bytes ≡ SIZE_OF_HEAD
  pub inside : size ≤ SIZE_OF_HEAD
  pub ascii : IsAscii (take size bytes)
