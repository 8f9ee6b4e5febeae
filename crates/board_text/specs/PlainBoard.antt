-- Boards as plain data: labels, pebbles, the domination among labels,
-- and the places where the pebbles start.
use Rattle.std.specs.Prelude.{◌≡◌, ℕ, ◌+◌, ◌<◌, ◌==◌, ◌⊎◌, if◌then◌else◌, Bool, List, [], ◌∷◌, ◌++◌}
use Rattle.std.specs.Prelude.{length, All, AllPairs, Contains}
use Rattle.std.specs.List.{list_any}
use Rattle.board_text.specs.Ranges.{InRange, AreNumbers}
use Rattle.board_text.specs.declared.board.TheConstants.{MAX_LABELS, MAX_PEBBLES}

-- a board as plain data: numbers of labels and pebbles, the pairs (x, y) of which x dominates y,
-- and a place for each pebble: its label, or the number of labels if it holds none
pub record PlainBoard : Type 0 where
  pub labels : ℕ
  pub pebbles : ℕ
  pub start : List ℕ
  pub pairs : List (ℕ × ℕ)

-- the board of these parts
abbrev pub plain_board : ℕ → ℕ → List ℕ → List (ℕ × ℕ) → PlainBoard
plain_board labels pebbles start pairs =
    record { labels = labels; pebbles = pebbles; start = start; pairs = pairs }

-- the label x dominates the label y
abbrev pub Dominates : PlainBoard → ℕ → ℕ → Type 0
Dominates board x y = Contains board.pairs (x, y)

-- whether some pebble holds no label
abbrev pub some_blank : ℕ → List ℕ → Bool
some_blank labels configuration = list_any (λ place. place == labels) configuration

-- 2 if some pebble holds no label at the start, else 1
abbrev pub version_of : ℕ → List ℕ → ℕ
version_of labels start = if some_blank labels start then 2 else 1

-- the number of values of a pebble's place: the labels,
-- and in version 2 the number of labels, which stands for none
unfoldable pub places : PlainBoard → ℕ
places board = if some_blank board.labels board.start then board.labels + 1 else board.labels

-- the label dominates the label of a place, if that holds one
abbrev pub DominatesPlace : PlainBoard → ℕ → ℕ → Type 0
DominatesPlace board label place = place < board.labels → Dominates board label place

-- a list with one place for each pebble
pub record IsConfiguration (board : PlainBoard) (configuration : List ℕ) : Type 0 where
  pub each_pebble : length configuration ≡ board.pebbles
  pub each_place : All (λ place. place < places board) configuration

-- both are labels
abbrev pub AreLabels : ℕ → ℕ × ℕ → Type 0
AreLabels labels pair = (pair.0 < labels) × (pair.1 < labels)

-- the first pair comes before the second, first number first
abbrev pub Precedes : ℕ × ℕ → ℕ × ℕ → Type 0
Precedes first second = (first.0 < second.0) ⊎ ((first.0 ≡ second.0) × (first.1 < second.1))

-- the pair comes after the last, if there is one
abbrev pub IsNext : List (ℕ × ℕ) → ℕ × ℕ → Type 0
IsNext pairs pair =
    (before : List (ℕ × ℕ)) (last : ℕ × ℕ) → pairs ≡ before ++ last ∷ [] → Precedes last pair

-- pairs of labels in ascending order, of which no two go both ways,
-- so that none is of one label twice
pub record ArePairs (labels : ℕ) (pairs : List (ℕ × ℕ)) : Type 0 where
  pub of_labels : All (λ pair. (pair.0 < labels) × (pair.1 < labels)) pairs
  pub ascending : AllPairs Precedes pairs
  pub one_way : (x y : ℕ) → Contains pairs (x, y) → Contains pairs (y, x) → ⊥

-- no label dominates itself, and no two labels dominate each other
abbrev pub IsAntisymmetric : PlainBoard → Type 0
IsAntisymmetric board = (x y : ℕ) → Dominates board x y → Dominates board y x → ⊥

-- a place for each pebble, of which some hold no label in version 2, and none in version 1
abbrev pub IsStart : ℕ → ℕ → ℕ → List ℕ → Type 0
IsStart version labels pebbles start =
    AreNumbers pebbles (labels + 1) start × (version_of labels start ≡ version)

-- a board within the limits
pub record IsBoard (board : PlainBoard) : Type 0 where
  pub labels : InRange 1 MAX_LABELS board.labels
  pub pebbles : InRange 1 MAX_PEBBLES board.pebbles
  pub start : IsConfiguration board board.start
  pub pairs : ArePairs board.labels board.pairs
