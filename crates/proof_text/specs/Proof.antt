-- A strategy document as plain data, and what its claim and its rows have to be.
use Rattle.std.specs.Prelude.{◌≡◌, ℕ, ◌<◌, ◌≤◌, Bool, true, false, List, map, take, slice_index}
use Rattle.board_text.specs.Ranges.{InRange, AreNumbers}
use Rattle.board_text.specs.PlainBoard.{PlainBoard, IsConfiguration}
use Rattle.positions.specs.declared.claim.Claim.{Claim}
use Rattle.positions.specs.declared.claim.Claim.TheVariants.{Exactly, AtLeast, AtMost, Forever}
use Rattle.positions.specs.declared.turns.Turns.{Turns}
use Rattle.positions.specs.declared.turns.Turns.TheVariants.{Count, Always}
use Rattle.positions.specs.Table.{AnswerRow, RequestRow}
use Rattle.positions.specs.Ranks.{rank_of, configuration_at}
use Rattle.proof_text.specs.declared.proof.LabellerRow.{LabellerRow}
use Rattle.proof_text.specs.declared.proof.AdversaryRow.{AdversaryRow}
use Rattle.proof_text.specs.declared.proof.Proof.{Proof}
use Rattle.proof_text.specs.declared.proof.TheConstants.{MAX_TURNS}

-- a claim, and the rows of both sides
pub record Sections (X Y : Type 0) : Type 0 where
  pub claim : Claim
  pub labeller : List X
  pub adversary : List Y

-- a document as plain data
abbrev pub PlainProof : Type 0
PlainProof = Sections AnswerRow RequestRow

-- the number of the claim is in range
abbrev pub IsClaim : Claim → Type 0
IsClaim (Exactly number) = number ≤ MAX_TURNS
IsClaim (AtLeast number) = number ≤ MAX_TURNS
IsClaim (AtMost number) = number ≤ MAX_TURNS
IsClaim Forever = Unit {0}

-- whether a document with the claim has a labeller's section
abbrev pub asks_labeller : Claim → Bool
asks_labeller (Exactly number) = true
asks_labeller (AtLeast number) = true
asks_labeller (AtMost number) = false
asks_labeller Forever = true

-- whether a document with the claim has an adversary's section
abbrev pub asks_adversary : Claim → Bool
asks_adversary (Exactly number) = true
asks_adversary (AtLeast number) = false
asks_adversary (AtMost number) = true
asks_adversary Forever = false

-- a labeller's row of a document with the claim may be for these turns: always, if the claim is for
-- ever, and else a number from 1 on
abbrev pub AreTurns : Claim → Turns → Type 0
AreTurns Forever Always = Unit {0}
AreTurns Forever (Count number) = ⊥
AreTurns claim Always = ⊥
AreTurns claim (Count number) = InRange 1 MAX_TURNS number

-- a labeller's row in a document with the claim
pub record IsAnswerRow (board : PlainBoard) (claim : Claim) (row : AnswerRow) : Type 0 where
  pub at : IsConfiguration board row.at
  pub turns : AreTurns claim row.turns
  pub answers : AreNumbers board.pebbles board.labels row.answers

-- an adversary's row
pub record IsRequestRow (board : PlainBoard) (row : RequestRow) : Type 0 where
  pub at : IsConfiguration board row.at
  pub left : row.left ≤ MAX_TURNS
  pub request : row.request < board.pebbles

-- one configuration comes before another, in rank
abbrev pub IsBefore : PlainBoard → List ℕ → List ℕ → Type 0
IsBefore board first second = rank_of board first < rank_of board second

-- ---- rows that name their configuration by its rank

-- a labeller's row with its configuration in place of the rank,
-- and an answer for each pebble of the board
abbrev pub answer_row : PlainBoard → LabellerRow → AnswerRow
answer_row board row =
    record {
      at = configuration_at board row.at;
      turns = row.turns;
      answers = take board.pebbles row.take;
    }

-- an adversary's row with its configuration in place of the rank
abbrev pub request_row : PlainBoard → AdversaryRow → RequestRow
request_row board row =
    record { at = configuration_at board row.at; left = row.left; request = row.ask }

abbrev pub answer_rows : PlainBoard → List LabellerRow → List AnswerRow
answer_rows board rows = map (answer_row board) rows

abbrev pub request_rows : PlainBoard → List AdversaryRow → List RequestRow
request_rows board rows = map (request_row board) rows

-- a proof with the configurations in place of the ranks
abbrev pub plain_proof : PlainBoard → Proof → PlainProof
plain_proof board proof = record {
  claim = proof.claim;
  labeller = answer_rows board proof.labeller.items;
  adversary = request_rows board proof.adversary.items;
}

-- the places of pebbles that the board doesn't have are 0
abbrev pub IsPadded : PlainBoard → LabellerRow → Type 0
IsPadded board row = (pebble : ℕ) → board.pebbles ≤ pebble → slice_index row.take pebble ≡ 0
