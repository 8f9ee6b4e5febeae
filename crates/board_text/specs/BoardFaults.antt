-- The faults of a board's text, as the table of the format has them.
use Rattle.std.specs.Prelude.{◌≡◌, ◌≢◌, ℕ, ◌+◌, ◌⊎◌, List, [], ◌∷◌, ◌++◌, length, Contains}
use Rattle.board_text.specs.LineForms.{Lacks}
use Rattle.board_text.specs.Ranges.{InRange}
use Rattle.board_text.specs.PlainBoard.{PlainBoard, IsBoard, IsStart, AreLabels, IsNext}
use Rattle.board_text.specs.BoardText.{version_line, labels_line, pebbles_line, start_line}
use Rattle.board_text.specs.BoardText.{beats_line, end_line, board_text_before_end, board_text}
use Rattle.board_text.specs.declared.fault.BoardKind.{BoardKind}
use Rattle.board_text.specs.declared.fault.BoardKind.TheVariants.{Version, Labels, Pebbles, Start}
use Rattle.board_text.specs.declared.fault.BoardKind.TheVariants.{Beats, SelfBeat, TwoWay, Order}
use Rattle.board_text.specs.declared.fault.BoardKind.TheVariants.{End, Trailing, Memory}
use Rattle.board_text.specs.declared.board.TheConstants.{MAX_LABELS, MAX_PEBBLES}

-- the rest doesn't begin with the line `end`
abbrev pub NotEnd : List ℕ → Type 0
NotEnd rest = Lacks (λ (u : Unit {0}). Unit {0}) (λ u. end_line) rest

-- the rest is empty or begins with an `e`
abbrev pub IsCut : List ℕ → Type 0
IsCut rest = (rest ≡ []) ⊎ ((more : List ℕ) × (rest ≡ 101 ∷ more))

-- the rest begins with a line of this pair
abbrev pub HasPair : ℕ → List ℕ → ℕ × ℕ → Type 0
HasPair labels rest p = AreLabels labels p × (more : List ℕ) × (rest ≡ beats_line p ++ more)

-- The fault of the text after the `beats` lines of these pairs, if it has no fault that comes
-- before it in the table.
abbrev pub PairFault : ℕ → List (ℕ × ℕ) → List ℕ → BoardKind → Type 0
PairFault labels pairs rest End = NotEnd rest × IsCut rest
PairFault labels pairs rest Beats =
    NotEnd rest × (IsCut rest → ⊥) × Lacks (AreLabels labels) beats_line rest
PairFault labels pairs rest SelfBeat = (x : ℕ) × HasPair labels rest (x, x)
PairFault labels pairs rest TwoWay =
    (x : ℕ) × (y : ℕ) × HasPair labels rest (x, y) × (x ≢ y) × Contains pairs (y, x)
PairFault labels pairs rest Order =
    (x : ℕ) × (y : ℕ) × HasPair labels rest (x, y) × (x ≢ y) × (Contains pairs (y, x) → ⊥)
    × (IsNext pairs (x, y) → ⊥)
PairFault labels pairs rest _ = ⊥

-- The lines before this one are those of the `beats` lines of
-- a board so far, and this one has the fault.
abbrev pub InPairs : List ℕ → ℕ → BoardKind → Type 0
InPairs text line kind = (b : PlainBoard) × (rest : List ℕ) × IsBoard b
    × (text ≡ board_text_before_end b ++ rest) × (line ≡ 5 + length b.pairs)
    × PairFault b.labels b.pairs rest kind

-- All lines before this one are faultless, and this one has the fault and none before it in the
-- table. Memory may run out once the first three lines are faultless.
abbrev pub HasBoardFault : List ℕ → ℕ → BoardKind → Type 0
HasBoardFault text line Version = (line ≡ 1) × Lacks (InRange 1 2) version_line text
HasBoardFault text line Labels = (line ≡ 2) × (version : ℕ) × (rest : List ℕ) × InRange 1 2 version
    × (text ≡ version_line version ++ rest)
    × Lacks (InRange 1 MAX_LABELS) labels_line rest
HasBoardFault text line Pebbles = (line ≡ 3) × (version labels : ℕ) × (rest : List ℕ)
    × InRange 1 2 version × InRange 1 MAX_LABELS labels
    × (text ≡ version_line version ++ (labels_line labels ++ rest))
    × Lacks (InRange 1 MAX_PEBBLES) pebbles_line rest
HasBoardFault text line Start =
    (line ≡ 4) × (version labels pebbles : ℕ) × (rest : List ℕ) × InRange 1 2 version
    × InRange 1 MAX_LABELS labels × InRange 1 MAX_PEBBLES pebbles
    × (text ≡ version_line version ++ (labels_line labels ++ (pebbles_line pebbles ++ rest)))
    × Lacks (IsStart version labels pebbles) (start_line labels) rest
HasBoardFault text line Trailing = (b : PlainBoard) × (first : ℕ) × (more : List ℕ) × IsBoard b
    × (text ≡ board_text b ++ first ∷ more)
    × (line ≡ 6 + length b.pairs)
HasBoardFault text line Memory =
    (line ≡ 0) × (version labels pebbles : ℕ) × (rest : List ℕ) × InRange 1 2 version
    × InRange 1 MAX_LABELS labels × InRange 1 MAX_PEBBLES pebbles
    × (text ≡ version_line version ++ (labels_line labels ++ (pebbles_line pebbles ++ rest)))
HasBoardFault text line kind = InPairs text line kind
