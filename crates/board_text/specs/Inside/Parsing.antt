-- The bytes that each step of reading a board takes from the text.
use Rattle.std.specs.Prelude.{◌≡◌, ◌≢◌, ℕ, ◌+◌, List, ◌++◌, length, Contains, Option, Some, None}
use Rattle.std.specs.Prelude.{Result, Ok, Err}
use Rattle.std.specs.List.{flat_map}
use Rattle.board_text.specs.Ranges.{InRange}
use Rattle.board_text.specs.PlainBoard.{ArePairs, AreLabels, IsNext}
use Rattle.board_text.specs.BoardText.{version_line, labels_line, pebbles_line, beats_line}
use Rattle.board_text.specs.BoardText.{end_line}
use Rattle.board_text.specs.BoardFaults.{PairFault, HasBoardFault}
use Rattle.board_text.specs.declared.fault.BoardFault.{BoardFault}
use Rattle.board_text.specs.declared.fault.BoardKind.{BoardKind}
use Rattle.board_text.specs.declared.board.TheConstants.{MAX_LABELS, MAX_PEBBLES}

-- a pair that may stand after these
pub record CanFollow (labels : ℕ) (pairs : List (ℕ × ℕ)) (p : ℕ × ℕ) : Type 0 where
  pub in_range : AreLabels labels p
  pub differ : p.0 ≢ p.1
  pub one_way : Contains pairs (p.1, p.0) → ⊥
  pub above : IsNext pairs p

-- The pair, the end or the fault of the next line, after the `beats` lines of these pairs.
abbrev pub NextPair : ℕ → List (ℕ × ℕ) → Result (Option (ℕ × ℕ)) BoardKind → List ℕ → List ℕ
    → Type 0
NextPair labels pairs (Ok None) old new = old ≡ end_line ++ new
NextPair labels pairs (Ok (Some p)) old new = CanFollow labels pairs p × (old ≡ beats_line p ++ new)
NextPair labels pairs (Err kind) old new = PairFault labels pairs old kind

-- The `beats` lines and `end` were taken, and the line of `end` has this number.
abbrev pub PairsRead : ℕ → List (ℕ × ℕ) → ℕ → List ℕ → List ℕ → Type 0
PairsRead labels pairs line old new =
    ArePairs labels pairs × (old ≡ (flat_map beats_line pairs ++ end_line) ++ new)
    × (line ≡ 5 + length pairs)

-- A line among them has a fault.
abbrev pub PairsFault : ℕ → List ℕ → BoardFault → Type 0
PairsFault labels old fault = (pairs : List (ℕ × ℕ)) × (rest : List ℕ) × ArePairs labels pairs
    × (old ≡ flat_map beats_line pairs ++ rest)
    × (fault.line ≡ 5 + length pairs) × PairFault labels pairs rest fault.kind

-- The first three lines were taken, with their numbers, or have a fault.
abbrev pub HeadRead : Result (ℕ × ℕ × ℕ) BoardFault → List ℕ → List ℕ → Type 0
HeadRead (Ok (version, labels, pebbles)) old new =
    InRange 1 2 version × InRange 1 MAX_LABELS labels × InRange 1 MAX_PEBBLES pebbles
    × (old ≡ version_line version ++ (labels_line labels ++ (pebbles_line pebbles ++ new)))
HeadRead (Err fault) old new = HasBoardFault old fault.line fault.kind
