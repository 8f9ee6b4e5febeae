-- What those who make documents go over: the positions of a board, by numbers, and the moves of a
-- side.
use Rattle.std.specs.Prelude.{◌≡◌, ℕ, ◌<◌, ◌≤◌, ◌↔◌, List, Option, Some, None, length}
use Rattle.board_text.specs.PlainBoard.{PlainBoard, IsBoard, IsConfiguration}
use Rattle.positions.specs.Game.{moved}
use Rattle.positions.specs.Gaps.{gap_of}
use Rattle.positions.specs.Ranks.{configurations}
use Rattle.positions.specs.declared.space.TheConstants.{MAX_CONFIGURATIONS}
use Rattle.positions.specs.Table.{RequestRow}
use Rattle.positions.specs.Value.{HasValue}
use Rattle.positions.specs.declared.value.Value.{Value}
use Rattle.proof_text.specs.Positions.{Positions, configuration_positions, normal_positions}
use Rattle.symmetries.specs.AlikeTables.{AlikeBy}
use Rattle.strategies.specs.Best.{IsBestRequest}
use Rattle.strategies.specs.DocumentMoves.{IsAnswerable, IsAnswerMove, IsRequestMove}
use Rattle.strategies.specs.Inside.NormalForm.{normal_by}
use Rattle.strategies.specs.Inside.Numbering.{Numbering, IsNumbering, by_order, by_rank}
use Rattle.strategies.specs.Inside.Numbering.{number_of_gap}
use Rattle.strategies.specs.Inside.ReachedOver.{number_over, IsAnswerStepOver, LegalLeadsOver}
use Rattle.strategies.specs.Inside.ReachedOver.{IsRequestStepOver, IsReachedOver}
use Rattle.strategies.specs.Inside.Reached.{AreReachedWith, ReachedBy, Room}
use Rattle.strategies.specs.Inside.Side.{Side, AreOfReached}

-- a row at the places asks for a best request
pub record AsksBest (board : PlainBoard) (positions : Positions) (row : RequestRow) : Type 0 where
  pub asks : positions.asked row < length row.at
  pub best : IsBestRequest board row.at (positions.asked row)

-- the normal places of a configuration are one of the same value; a row can ask for a best request
-- at each, and has the one request by which it asks for a pebble
pub record ArePositions (board : PlainBoard) (positions : Positions) : Type 0 where
  pub is : (places : List ℕ) → IsConfiguration board places
      → IsConfiguration board (positions.normal places)
  pub same_value : (places : List ℕ) → IsConfiguration board places → (value : Value)
      → HasValue board places value → HasValue board (positions.normal places) value
  pub asking : (places : List ℕ) (left pebble : ℕ) → IsConfiguration board places
      → IsBestRequest board places pebble → (request : ℕ)
      × AsksBest board positions (record { at = places; left = left; request = request })
  pub one : (first second : RequestRow) → positions.asked first < length first.at
      → positions.asked second < length second.at → first.at ≡ second.at
      → positions.asked first ≡ positions.asked second → first.request ≡ second.request

-- a board, the positions of a document's rows, their numbers, and a number for a pebble's gap
pub record NumberedPositions : Type 1 where
  pub board : PlainBoard
  pub positions : Positions
  pub numbering : Numbering
  pub gap : List ℕ → ℕ → ℕ

-- configurations by their ranks
abbrev pub over_ranks : PlainBoard → NumberedPositions
over_ranks board = record {
  board = board;
  positions = configuration_positions;
  numbering = by_rank board;
  gap = gap_of board;
}

-- normal places by their numbers in the order of documents; the label 0 and the other pebbles'
-- places stand for a pebble's gap
abbrev pub over_normal : PlainBoard → (List ℕ → List ℕ) → NumberedPositions
over_normal board normal = record {
  board = board;
  positions = normal_positions normal;
  numbering = by_order board;
  gap = number_of_gap board;
}

-- a board, and what its positions are: configurations, or normal places by symmetries
pub record PositionKind : Type 0 where
  pub board : PlainBoard
  pub alike : Option AlikeBy

-- configurations
abbrev pub rank_kind : PlainBoard → PositionKind
rank_kind board = record { board = board; alike = None }

-- normal places by symmetries
abbrev pub normal_kind : PlainBoard → AlikeBy → PositionKind
normal_kind board alike = record { board = board; alike = Some alike }

-- the positions are configurations of a board of the limits
pub record IsRankKind (kind : PositionKind) : Type 0 where
  pub ranks : kind.alike ≡ None
  pub few : configurations kind.board ≤ MAX_CONFIGURATIONS

-- they are normal places
abbrev pub IsNormalKind : PositionKind → Type 0
IsNormalKind kind = (alike : AlikeBy) × (kind.alike ≡ Some alike)

abbrev pub positions_by : PlainBoard → Option AlikeBy → Positions
positions_by board None = configuration_positions
positions_by board (Some alike) = normal_positions (normal_by board alike)

abbrev pub numbering_by : PlainBoard → Option AlikeBy → Numbering
numbering_by board None = by_rank board
numbering_by board (Some alike) = by_order board

abbrev pub gap_number_by : PlainBoard → Option AlikeBy → List ℕ → ℕ → ℕ
gap_number_by board None = (over_ranks board).gap
gap_number_by board (Some alike) = (over_normal board (normal_by board alike)).gap

-- these positions by their numbers
abbrev pub over_by : PlainBoard → Option AlikeBy → NumberedPositions
over_by board alike = record {
  board = board;
  positions = positions_by board alike;
  numbering = numbering_by board alike;
  gap = gap_number_by board alike;
}

abbrev pub over_kind : PositionKind → NumberedPositions
over_kind kind = over_by kind.board kind.alike

-- the number of the normal places of a configuration
abbrev pub position_number : NumberedPositions → List ℕ → ℕ
position_number over = number_over over.positions over.numbering

-- the best answer to a request of the pebble leads from the configuration to the normal places of
-- this number, which have a value of 1 or more
abbrev pub IsAnswerStep : NumberedPositions → List ℕ → ℕ → ℕ → Type 0
IsAnswerStep over = IsAnswerStepOver over.positions over.numbering over.board

-- some legal answer to a request of the pebble leads from the configuration to the normal places of
-- this number
abbrev pub LegalLeads : NumberedPositions → List ℕ → ℕ → ℕ → Type 0
LegalLeads over = LegalLeadsOver over.positions over.numbering over.board

-- requests of one gap lead to the same
abbrev pub IsOfGaps : NumberedPositions → (List ℕ → ℕ → ℕ → Type 0) → Type 0
IsOfGaps over Leads = (one other : List ℕ) (pebble partner : ℕ)
    → IsConfiguration over.board one → IsConfiguration over.board other
    → pebble < over.board.pebbles → partner < over.board.pebbles
    → over.gap one pebble ≡ over.gap other partner
    → (to : ℕ) → Leads one pebble to → Leads other partner to

-- a board with its positions
pub record AreNumberedPositions (over : NumberedPositions) : Type 0 where
  pub board : IsBoard over.board
  pub positions : ArePositions over.board over.positions
  pub numbers : IsNumbering over.board over.numbering
  pub answers : IsOfGaps over (IsAnswerStep over)
  pub results : IsOfGaps over (LegalLeads over)

-- the places are those of a position
pub record IsPosition (over : NumberedPositions) (held : List ℕ) : Type 0 where
  pub positions : AreNumberedPositions over
  pub is_configuration : IsConfiguration over.board held

-- the places to which each request leads are among the numbers, if its gap is among the expanded
-- ones
abbrev pub AreExpanded : NumberedPositions → (List ℕ → ℕ → ℕ → Type 0) → (ℕ → Type 0) → (ℕ → Type 0)
    → Type 0
AreExpanded over Leads Expanded Among = (from : List ℕ) (pebble : ℕ)
    → IsConfiguration over.board from → pebble < over.board.pebbles
    → Expanded (over.gap from pebble) → (to : ℕ) → Leads from pebble to → Among to

-- the moves of a side: those that documents follow, from places and to normal places with the
-- property; to which numbers they lead from places, and to which a request of a pebble leads
pub record SideMoves : Type 1 where
  pub IsMove : List ℕ → ℕ → ℕ → Type 0
  pub Holds : List ℕ → Type 0
  pub Leads : List ℕ → ℕ → Type 0
  pub Step : List ℕ → ℕ → ℕ → Type 0

-- best answers, to places of value 1 or more
abbrev pub answer_moves : NumberedPositions → SideMoves
answer_moves over = record {
  IsMove = IsAnswerMove over.board;
  Holds = IsAnswerable over.board;
  Leads = λ from to. (pebble : ℕ) × IsAnswerStep over from pebble to;
  Step = IsAnswerStep over;
}

-- legal answers to best requests
abbrev pub request_moves : NumberedPositions → SideMoves
request_moves over = record {
  IsMove = IsRequestMove over.board;
  Holds = λ configuration. Unit {0};
  Leads = λ from to. (label : ℕ)
      × IsRequestStepOver over.positions over.numbering over.board from label to;
  Step = LegalLeads over;
}

-- a move is of a label, from places with the property, and is what leads to a number
pub record AreMoves (over : NumberedPositions) (moves : SideMoves) : Type 0 where
  pub is_label : (c : List ℕ) (pebble label : ℕ) → moves.IsMove c pebble label
      → label < over.board.labels
  pub before : (c : List ℕ) (pebble label : ℕ) → moves.IsMove c pebble label → moves.Holds c
  pub leads : (c : List ℕ) (pebble label : ℕ) → moves.IsMove c pebble label
      → moves.Holds (over.positions.normal (moved c pebble label))
      → moves.Leads c (position_number over (moved c pebble label))
  pub move : (c : List ℕ) (to : ℕ) → moves.Holds c → moves.Leads c to
      → (pebble label : ℕ) × moves.IsMove c pebble label
      × (to ≡ position_number over (moved c pebble label))
      × moves.Holds (over.positions.normal (moved c pebble label))

-- the moves lead from the start's normal places to those of the number
abbrev pub IsReachedOn : NumberedPositions → SideMoves → ℕ → Type 0
IsReachedOn over moves = IsReachedOver over.positions over.numbering over.board
    moves.IsMove moves.Holds

-- the side's rows stand at the places that the moves reach
pub record IsSideOf {R : Type 0} (over : NumberedPositions) (moves : SideMoves) (side : Side R)
    : Type 0 where
  pub are : AreMoves over moves
  pub reached : (number : ℕ) → IsReachedOn over moves number ↔ side.IsReached number
  pub rows : AreOfReached over.numbering over.board side

-- a set has room for the number of each position
abbrev pub HasRoomFor : NumberedPositions → Room → Type 0
HasRoomFor over room = (number : ℕ) → over.numbering.IsNumber number → number < room.bound

-- so has it, and another for that of each gap
pub record HasRoomForEach (over : NumberedPositions) (reached expanded : Room) : Type 0 where
  pub numbers : HasRoomFor over reached
  pub gaps : (held : List ℕ) (pebble : ℕ) → IsConfiguration over.board held
      → pebble < over.board.pebbles → over.gap held pebble < expanded.bound

-- a set of the numbers that were reached, one of the gaps that were expanded, and their room
pub record StepSets : Type 1 where
  pub reached : ReachedBy
  pub expanded : ReachedBy
  pub numbers : Room
  pub gaps : Room

abbrev pub step_sets : {S : Type 0} → (S → ReachedBy) → (S → Room) → S → S → StepSets
step_sets reached room numbers gaps = record {
  reached = reached numbers;
  expanded = reached gaps;
  numbers = room numbers;
  gaps = room gaps;
}

-- both sets have room, and where requests of the expanded gaps lead is reached
pub record MayTakeSteps (over : NumberedPositions) (Step : List ℕ → ℕ → ℕ → Type 0)
    (sets : StepSets) : Type 0 where
  pub room : HasRoomForEach over sets.numbers sets.gaps
  pub expanded : AreExpanded over Step sets.expanded.Among sets.reached.Among

-- the numbers of which the fact holds are reached too, and so is where requests of the expanded
-- gaps lead; the room is the same
pub record TakesSteps (over : NumberedPositions) (Step : List ℕ → ℕ → ℕ → Type 0) (P : ℕ → Type 0)
    (before after : StepSets) : Type 0 where
  pub added : AreReachedWith before.reached P after.reached
  pub expanded : AreExpanded over Step after.expanded.Among after.reached.Among
  pub room : after.numbers ≡ before.numbers
  pub gap_room : after.gaps ≡ before.gaps
