-- Sets of labels with which lists of places are closed gaps.
use Rattle.std.specs.Prelude.{◌≡◌, ◌≢◌, ◌⊎◌, ℕ, ◌+◌, ◌-◌, ◌*◌, ◌<◌, ◌≤◌, ◌↔◌, nat_eq, if◌then◌else◌}
use Rattle.std.specs.Prelude.{true, List, [], ◌∷◌, length, slice_index, slice_index_or}
use Rattle.std.specs.List.{remove}
use Rattle.board_text.specs.Domination.{has_bit}
use Rattle.board_text.specs.PlainBoard.{PlainBoard, IsBoard, places}
use Rattle.board_text.specs.declared.board.TheConstants.{MAX_LABELS}
use Rattle.positions.specs.Gaps.{AnswersGap}
use Rattle.classes.specs.Classes.{IsClass}
use Rattle.classes.specs.ClassGaps.{member_with}
use Rattle.classes.specs.Numbers.{ways, number_by_greatest, class_with}
use Rattle.gap_values.specs.GapTables.{IsClosedBefore}
use Rattle.gap_values.specs.declared.closing.TheConstants.{OPEN}
use Rattle.classes.specs.declared.families.Family.{Family}
use Rattle.gap_values.specs.declared.rounds.GapRounds.{GapRounds}
use Rattle.gap_values.specs.Inside.Words.{AreRounds}
use Rattle.gap_values.specs.RoundWords.{round_of_word}

-- the label is in the set of the list of this number
abbrev pub HasLabel : List (List ℕ) → ℕ → ℕ → Type 0
HasLabel sets list label = has_bit (slice_index_or sets list []) label ≡ true

-- the label is in the set of the list that leaves one of the places held out, and has the least
abbrev pub IsInOthers : List (List ℕ) → Family → ℕ → ℕ → Type 0
IsInOthers sets family least label = (index : ℕ) × (index < length family.held)
    × HasLabel sets (slice_index family.rests index + least) label

-- a set for each list of all places but two
abbrev pub AreSets : PlainBoard → List (List ℕ) → Type 0
AreSets board sets = length sets ≡ ways (board.pebbles - 2) (places board)

-- the sets have the labels with which their lists are gaps of these numbers
pub record AreSetsOf (board : PlainBoard) (Among : ℕ → Type 0) (sets : List (List ℕ)) : Type 0 where
  pub many : AreSets board sets
  pub each : (list : List ℕ) → IsClass (places board) (board.pebbles - 2) list
      → (label : ℕ) → label < board.labels
      → HasLabel sets (number_by_greatest list) label
      ↔ Among (number_by_greatest (member_with list label))

-- the sets have the labels with which their lists are gaps that closed before the round
abbrev pub TellClosed : PlainBoard → List ℕ → ℕ → List (List ℕ) → Type 0
TellClosed board words round = AreSetsOf board
    (λ gap. IsClosedBefore (round_of_word (slice_index words gap)) round)

-- each answer of the gap is in the set of the other places of some place of the gap
abbrev pub IsShut : PlainBoard → List (List ℕ) → List ℕ → Type 0
IsShut board sets gap = (label : ℕ) → AnswersGap board gap label
    → (index : ℕ) × (index < length gap)
    × HasLabel sets (number_by_greatest (remove gap index)) label

-- the set has the answers of the gap that are in no set of a list of `lists`, and maybe others of
-- none of these; all answers of the gap are in it or in such a set
pub record AreLeft (board : PlainBoard) (sets : List (List ℕ)) (gap : List ℕ) (InSome : ℕ
    → Type 0) (live : List ℕ)
    : Type 0 where
  pub answers : (label : ℕ) → label < MAX_LABELS → has_bit live label ≡ true
      → AnswersGap board gap label × (InSome label → ⊥)
  pub all : (label : ℕ) → AnswersGap board gap label → (has_bit live label ≡ true) ⊎ InSome label

-- how many words are open
abbrev pub open_count : List ℕ → ℕ
open_count [] = 0
open_count (word ∷ words) = (if nat_eq word OPEN then 1 else 0) + open_count words

-- the gap of a number was passed in the round: if its word was open and the gap is shut, the round
-- is its word now, and else the word is as it was
pub record IsPassed (board : PlainBoard) (sets : List (List ℕ)) (round gap old new : ℕ)
    : Type 0 where
  pub shut : old ≡ OPEN → new ≡ round
      → IsShut board sets (class_with (places board) (board.pebbles - 1) gap)
  pub left_open : new ≡ OPEN
      → IsShut board sets (class_with (places board) (board.pebbles - 1) gap) → ⊥
  pub changed : (new ≡ old) ⊎ ((old ≡ OPEN) × (new ≡ round))

-- of words from that of the gap `first` on, those from one index up to another one were passed, and
-- all others are as they were
pub record ArePassed (board : PlainBoard) (sets : List (List ℕ)) (round first from to : ℕ)
    (old new : List ℕ)
    : Type 0 where
  pub same_length : length new ≡ length old
  pub passed : (index : ℕ) → from ≤ index → index < to
      → IsPassed board sets round (first + index) (slice_index old index) (slice_index new index)
  pub before : (index : ℕ) → index < from → slice_index new index ≡ slice_index old index
  pub behind : (index : ℕ) → to ≤ index → slice_index new index ≡ slice_index old index

-- the set has the labels up to this place
abbrev pub AreLabelsUpTo : ℕ → List ℕ → Type 0
AreLabelsUpTo place set = (x : ℕ) → x < MAX_LABELS → (has_bit set x ≡ true) ↔ (x ≤ place)

-- no label of the set is above this place
abbrev pub AreAtMost : ℕ → List ℕ → Type 0
AreAtMost place set = (x : ℕ) → x < MAX_LABELS → has_bit set x ≡ true → x ≤ place

-- ---- telling closed gaps to sets

-- the label of a place was added to the set of a list, if the place holds one
pub record IsTold (board : PlainBoard) (list place : ℕ) (old new : List (List ℕ)) : Type 0 where
  pub same_length : length new ≡ length old
  pub kept : (at label : ℕ) → label < MAX_LABELS → HasLabel old at label → HasLabel new at label
  pub only : (at label : ℕ) → label < MAX_LABELS → HasLabel new at label
      → HasLabel old at label ⊎ ((at ≡ list) × (label ≡ place))
  pub told : place < board.labels → HasLabel new list place

-- the same of the places of a gap before an index, each with the list of the others
pub record IsGapToldTo (board : PlainBoard) (gap : List ℕ) (end : ℕ) (old new : List (List ℕ))
    : Type 0 where
  pub same_length : length new ≡ length old
  pub kept : (at label : ℕ) → label < MAX_LABELS → HasLabel old at label → HasLabel new at label
  pub only : (at label : ℕ) → label < MAX_LABELS → HasLabel new at label
      → HasLabel old at label ⊎ ((index : ℕ) × (index < length gap)
      × (at ≡ number_by_greatest (remove gap index)) × (label ≡ slice_index gap index))
  pub told : (index : ℕ) → index < end → slice_index gap index < board.labels
      → HasLabel new (number_by_greatest (remove gap index)) (slice_index gap index)

-- the gap is one of those whose words these are, from the gap `first` on, and its word is the round
abbrev pub IsOfRound : ℕ → ℕ → List ℕ → ℕ → Type 0
IsOfRound round first words gap = (index : ℕ) × (first + index ≡ gap) × (index < length words)
    × (slice_index words index ≡ round)

-- one of the words is the round
abbrev pub HasRound : ℕ → List ℕ → Type 0
HasRound round words = (index : ℕ) × (index < length words) × (slice_index words index ≡ round)

-- none of the words is the round
abbrev pub AreFresh : ℕ → List ℕ → Type 0
AreFresh round words = (index : ℕ) → index < length words → slice_index words index ≢ round

-- ---- tables of sets, a set for each list in each of them

-- the label is in the set of the list of this number in one of the tables
abbrev pub IsInTables : ℕ → ℕ → List (List ℕ) → ℕ → ℕ → Type 0
IsInTables tables lists sets list label = (table : ℕ) × (table < tables)
    × HasLabel sets (table * lists + list) label

-- in one of the tables each list has the labels with which it is a gap of these numbers
pub record AreTablesOf (board : PlainBoard) (tables : ℕ) (Among : ℕ → Type 0) (sets : List (List ℕ))
    : Type 0 where
  pub many : length sets ≡ tables * ways (board.pebbles - 2) (places board)
  pub each : (list : List ℕ) → IsClass (places board) (board.pebbles - 2) list
      → (label : ℕ) → label < board.labels
      → IsInTables tables (ways (board.pebbles - 2) (places board)) sets (number_by_greatest list)
      label ↔ Among (number_by_greatest (member_with list label))

-- sets, of which the first is that of the list `first`, have got the labels of their lists in all
-- tables
pub record AreGathered (tables lists first : ℕ) (told old new : List (List ℕ)) : Type 0 where
  pub same_length : length new ≡ length old
  pub each : (at label : ℕ) → at < length old → label < MAX_LABELS
      → HasLabel new at label
      ↔ (HasLabel old at label ⊎ IsInTables tables lists told (first + at) label)

-- ---- the rounds of a board

-- the words are those of a table of gaps, and the sets have the labels with which their lists are
-- gaps that close in the first round, and that close at all. A board of one pebble has no lists
pub record AreGapRounds {WORDS : ℕ} (board : PlainBoard) (rounds : GapRounds WORDS) : Type 0 where
  pub is_board : IsBoard board
  pub words : AreRounds board rounds.words.items
  pub first : 2 ≤ board.pebbles → TellClosed board rounds.words.items 1 rounds.first.items
  pub closed : 2 ≤ board.pebbles → TellClosed board rounds.words.items OPEN rounds.closed.items
