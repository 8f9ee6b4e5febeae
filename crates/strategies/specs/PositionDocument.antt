-- The document of a board, however its rows stand for configurations: one definition for the three
-- versions.
use Rattle.std.specs.Prelude.{◌≡◌, ℕ, ◌<◌, ◌↔◌, min, List, length, slice_index, AllPairs, Contains}
use Rattle.board_text.specs.PlainBoard.{PlainBoard}
use Rattle.positions.specs.declared.value.Value.{Value}
use Rattle.positions.specs.declared.value.Value.TheVariants.{Finite, Forever}
use Rattle.positions.specs.declared.turns.Turns.{Turns}
use Rattle.positions.specs.declared.turns.Turns.TheVariants.{Count, Always}
use Rattle.positions.specs.Value.{HasValue}
use Rattle.positions.specs.Claim.{claim_of}
use Rattle.positions.specs.Table.{AnswerRow, RequestRow}
use Rattle.proof_text.specs.Proof.{PlainProof}
use Rattle.proof_text.specs.Positions.{Positions}
use Rattle.strategies.specs.Best.{IsLess, IsBestAnswer, IsBestRequest}
use Rattle.strategies.specs.DocumentMoves.{IsAnswerMove, IsRequestMove, LeadsOver}

-- the turns for which a configuration of the second value is listed, if the start has the first:
-- always if the start lasts forever, and else the smaller of the two values
abbrev pub turns_of : Value → Value → Turns
turns_of Forever value = Always
turns_of (Finite number) (Finite value) = Count (min value number)
turns_of (Finite number) Forever = Count number

-- a labeller's row: a normal configuration of value 1 or more that best answers lead to from that
-- of the start, its turns, and the best answer to each request
pub record IsLabellerRowOver (positions : Positions) (board : PlainBoard) (start : Value)
    (row : AnswerRow) : Type 0 where
  pub moves : List (ℕ × ℕ)
  pub reached : LeadsOver positions (IsAnswerMove board) (positions.normal board.start) moves row.at
  pub value : Value
  pub has_value : HasValue board row.at value
  pub some : IsLess (Finite 0) value
  pub turns : row.turns ≡ turns_of start value
  pub one_each : length row.answers ≡ board.pebbles
  pub best : (pebble : ℕ) → pebble < board.pebbles
      → IsBestAnswer board row.at pebble (slice_index row.answers pebble)

-- an adversary's row: a normal configuration that answers to best requests lead to from that of the
-- start, its value, and the best request
pub record IsAdversaryRowOver (positions : Positions) (board : PlainBoard)
    (row : RequestRow) : Type 0 where
  pub moves : List (ℕ × ℕ)
  pub reached : LeadsOver positions (IsRequestMove board)
      (positions.normal board.start) moves row.at
  pub has_value : HasValue board row.at (Finite row.left)
  pub asks : positions.asked row < length row.at
  pub best : IsBestRequest board row.at (positions.asked row)

-- whether a document of a start with the value has rows for the adversary
abbrev pub AsksAdversary : Value → Type 0
AsksAdversary (Finite number) = Unit {0}
AsksAdversary Forever = ⊥

-- exactly these rows, in ascending order of the numbers of their places
pub record AreExactlyOver {X : Type 0} (number : List ℕ → ℕ) (IsRow : X → Type 0) (at : X → List ℕ)
    (rows : List X) : Type 0 where
  pub each : (row : X) → Contains rows row ↔ IsRow row
  pub ascending : AllPairs (λ first second. number (at first) < number (at second)) rows

-- the document of the board, whose rows ascend by these numbers
pub record IsDocumentOver (positions : Positions) (number : List ℕ → ℕ) (board : PlainBoard)
    (proof : PlainProof) : Type 0 where
  pub value : Value
  pub has_value : HasValue board board.start value
  pub claim : proof.claim ≡ claim_of value
  pub labeller : AreExactlyOver number (IsLabellerRowOver positions board value) (λ row. row.at)
      proof.labeller
  pub adversary : AreExactlyOver number
      (λ row. AsksAdversary value × IsAdversaryRowOver positions board row) (λ row. row.at)
      proof.adversary
