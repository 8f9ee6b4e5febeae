-- The faults of the words of a row, or of a map.
use Rattle.std.specs.Prelude.{◌≡◌, ℕ, ◌+◌, List, ◌++◌, All, Contains}
use Rattle.board_text.specs.LineForms.{Lacks}
use Rattle.board_text.specs.Numerals.{SpellsBelow}
use Rattle.board_text.specs.PlaceForms.{SpellsPlace}
use Rattle.board_text.specs.PlainBoard.{PlainBoard, places}
use Rattle.positions.specs.declared.claim.Claim.{Claim}
use Rattle.positions.specs.declared.turns.Turns.{Turns}
use Rattle.proof_text.specs.declared.fault.ProofKind.{ProofKind}
use Rattle.proof_text.specs.declared.fault.ProofKind.TheVariants as kinds
use Rattle.proof_text.specs.declared.proof.TheConstants.{MAX_TURNS}
use Rattle.proof_text.specs.Proof.{AreTurns}
use Rattle.proof_text.specs.ProofText.{turns_text}
use Rattle.proof_text.specs.RowWords.{AnswerWords, RequestWords, AreAnswerWords, AreRequestWords}
use Rattle.proof_text.specs.RowWords.{answer_words_line, request_words_line, ClassRequestWords}
use Rattle.proof_text.specs.RowWords.{AreClassRequestWords, class_request_words_line, AreMapWords}
use Rattle.proof_text.specs.RowWords.{map_words_line}

-- a labeller's row with these words stands here
abbrev pub HasAnswerWords : PlainBoard → List ℕ → AnswerWords → Type 0
HasAnswerWords board rest words =
    AreAnswerWords board.pebbles board.labels (places board) words × (more : List ℕ)
    × (rest ≡ answer_words_line words ++ more)

-- an adversary's row with these words stands here
abbrev pub HasRequestWords : PlainBoard → List ℕ → RequestWords → Type 0
HasRequestWords board rest words =
    AreRequestWords board.pebbles board.labels (places board) words × (more : List ℕ)
    × (rest ≡ request_words_line words ++ more)

-- each text spells a place of the board
abbrev pub SpellConfiguration : PlainBoard → List (List ℕ) → Type 0
SpellConfiguration board texts = All (SpellsPlace board.labels (places board)) texts

-- each text spells a label
abbrev pub SpellLabels : PlainBoard → List (List ℕ) → Type 0
SpellLabels board texts = All (SpellsPlace board.labels board.labels) texts

-- the text spells turns that the claim allows
abbrev pub SpellsTurns : Claim → List ℕ → Type 0
SpellsTurns claim text = (turns : Turns) × AreTurns claim turns × (text ≡ turns_text turns)

-- the fault of the words in the place of a labeller's row
abbrev pub AnswerMisread : PlainBoard → Claim → List ℕ → ProofKind → Type 0
AnswerMisread board claim rest kinds.Row =
    Lacks (AreAnswerWords board.pebbles board.labels (places board)) answer_words_line rest
AnswerMisread board claim rest kinds.Label =
    (words : AnswerWords) × HasAnswerWords board rest words
    × ¬ (SpellConfiguration board words.at × SpellLabels board words.take)
AnswerMisread board claim rest kinds.Number =
    (words : AnswerWords) × HasAnswerWords board rest words × SpellConfiguration board words.at
    × SpellLabels board words.take
    × ¬ SpellsTurns claim words.turns
AnswerMisread board claim rest kind = ⊥

-- the fault of the words in the place of an adversary's row
abbrev pub RequestMisread : PlainBoard → List ℕ → ProofKind → Type 0
RequestMisread board rest kinds.Row =
    Lacks (AreRequestWords board.pebbles board.labels (places board)) request_words_line rest
RequestMisread board rest kinds.Label =
    (words : RequestWords) × HasRequestWords board rest words × ¬ SpellConfiguration board words.at
RequestMisread board rest kinds.Pebble =
    (words : RequestWords) × HasRequestWords board rest words × SpellConfiguration board words.at
    × ¬ SpellsBelow board.pebbles words.ask
RequestMisread board rest kinds.Number =
    (words : RequestWords) × HasRequestWords board rest words × SpellConfiguration board words.at
    × SpellsBelow board.pebbles words.ask
    × ¬ SpellsBelow (MAX_TURNS + 1) words.left
RequestMisread board rest kind = ⊥

-- an adversary's row by classes with these words stands here
abbrev pub HasClassRequestWords : PlainBoard → List ℕ → ClassRequestWords → Type 0
HasClassRequestWords board rest words =
    AreClassRequestWords board.pebbles board.labels (places board) words × (more : List ℕ)
    × (rest ≡ class_request_words_line words ++ more)

-- the asked place is among those of the row
abbrev pub IsAskedAmong : ClassRequestWords → Type 0
IsAskedAmong words = All (Contains words.at) words.ask

-- the fault of the words in the place of an adversary's row by classes
abbrev pub ClassRequestMisread : PlainBoard → List ℕ → ProofKind → Type 0
ClassRequestMisread board rest kinds.Row =
    Lacks (AreClassRequestWords board.pebbles board.labels (places board))
    class_request_words_line rest
ClassRequestMisread board rest kinds.Label =
    (words : ClassRequestWords) × HasClassRequestWords board rest words
    × ¬ (SpellConfiguration board words.at × SpellConfiguration board words.ask)
ClassRequestMisread board rest kinds.Pebble =
    (words : ClassRequestWords) × HasClassRequestWords board rest words
    × (SpellConfiguration board words.at × SpellConfiguration board words.ask)
    × ¬ IsAskedAmong words
ClassRequestMisread board rest kinds.Number =
    (words : ClassRequestWords) × HasClassRequestWords board rest words
    × (SpellConfiguration board words.at × SpellConfiguration board words.ask)
    × IsAskedAmong words × ¬ SpellsBelow (MAX_TURNS + 1) words.left
ClassRequestMisread board rest kind = ⊥

-- the fault of the words in the place of a map
abbrev pub MapMisread : PlainBoard → List ℕ → ProofKind → Type 0
MapMisread board rest kinds.Row = Lacks (AreMapWords board.labels) map_words_line rest
MapMisread board rest kinds.Label = (words : List (List ℕ)) × AreMapWords board.labels words
    × (more : List ℕ) × (rest ≡ map_words_line words ++ more) × ¬ SpellLabels board words
MapMisread board rest kind = ⊥
