-- Pairs that can't follow others in a board.
use Rattle.std.specs.Prelude.{◌≡◌, ◌≢◌, ℕ, ◌+◌, ◌^◌, List, ◌∷◌, ◌++◌, length, Contains}
use Rattle.board_text.specs.PlainBoard.{ArePairs, AreLabels, IsNext}
use Rattle.board_text.specs.declared.fault.BoardFault.{BoardFault}
use Rattle.board_text.specs.declared.fault.BoardKind.{BoardKind}
use Rattle.board_text.specs.declared.fault.BoardKind.TheVariants.{Beats, SelfBeat, TwoWay, Order}

-- the fault of a pair of numbers of 16 bits that can't follow these,
-- if nothing before it in the table is one
abbrev pub IsPairFault : ℕ → List (ℕ × ℕ) → ℕ × ℕ → BoardKind → Type 0
IsPairFault labels pairs p Beats = AreLabels (2 ^ 16) p × (AreLabels labels p → ⊥)
IsPairFault labels pairs p SelfBeat = AreLabels labels p × (p.0 ≡ p.1)
IsPairFault labels pairs p TwoWay = AreLabels labels p × (p.0 ≢ p.1) × Contains pairs (p.1, p.0)
IsPairFault labels pairs p Order =
    AreLabels labels p × (p.0 ≢ p.1) × (Contains pairs (p.1, p.0) → ⊥) × (IsNext pairs p → ⊥)
IsPairFault labels pairs p _ = ⊥

-- The pairs before this one can stand in a board, and this one can't follow them.
abbrev pub HasPairFault : ℕ → List (ℕ × ℕ) → BoardFault → Type 0
HasPairFault labels all fault =
    (before : List (ℕ × ℕ)) × (p : ℕ × ℕ) × (after : List (ℕ × ℕ)) × ArePairs labels before
    × (all ≡ before ++ p ∷ after)
    × (fault.line ≡ 5 + length before) × IsPairFault labels before p fault.kind
