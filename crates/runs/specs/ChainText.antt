-- The chains of a board: how many there are of each length, the first that no label dominates, and
-- the number of processes that last by any label that dominates.
use Rattle.std.specs.Prelude.{◌≡◌, ℕ, suc, List, [], ◌∷◌, ◌++◌, length, Option, Some, None, codes}
use Rattle.std.specs.Fmt.{decimal}
use Rattle.board_text.specs.LineForms.{with_line_feed}
use Rattle.board_text.specs.PlaceForms.{places_line}
use Rattle.board_text.specs.PlainBoard.{PlainBoard}
use Rattle.chains.specs.ChainCounts.{AreChainCounts, HasTooManyChains}
use Rattle.runs.specs.Report.{size_line}
use Rattle.runs.specs.Texts.{IsBoardAmong, IsWrongAmong, OfAnySize}
use Rattle.runs.specs.declared.fault.RunFault.{RunFault}
use Rattle.runs.specs.declared.fault.RunFault.TheVariants.{Memory, TooManyChains}

-- the line of a length and the number of its chains
abbrev pub length_line : ℕ → ℕ → List ℕ
length_line size count =
    with_line_feed (codes "length " ++ decimal size ++ codes ": " ++ decimal count)

-- the lines of a length and of those after it
abbrev pub length_lines : ℕ → List ℕ → List ℕ
length_lines size [] = []
length_lines size (count ∷ counts) = length_line size count ++ length_lines (suc size) counts

-- the lines of the first chain that no label dominates, oldest label first, and of as many
-- processes as it has labels; or of one process more than the longest chains have, or more
abbrev pub last_lines : ℕ → ℕ → Option (List ℕ) → List ℕ
last_lines labels size (Some chain) = places_line labels (codes "undominated") chain
    ++ size_line (codes "processes") (length chain)
last_lines labels size None =
    with_line_feed (codes "processes " ++ decimal (suc size) ++ codes " or more")

-- the text of these counts and this chain
abbrev pub chains_text : PlainBoard → List ℕ → Option (List ℕ) → List ℕ
chains_text board counts undominated =
    with_line_feed (codes "chains 1") ++ size_line (codes "labels") board.labels
    ++ length_lines 1 counts ++ last_lines board.labels (length counts) undominated
    ++ with_line_feed (codes "end")

-- the text says the chains of the board, of up to so many labels
pub record AreChainsOf (board : PlainBoard) (most : ℕ) (text : List ℕ) : Type 0 where
  pub counts : List ℕ
  pub undominated : Option (List ℕ)
  pub are : AreChainCounts board most counts undominated
  pub text_is : text ≡ chains_text board counts undominated

-- the text is a board's, of any size, and the bytes written say its chains
abbrev pub SaysChains : ℕ → List ℕ → Unit {0} → List ℕ → Type 0
SaysChains most text answer written =
    (board : PlainBoard) × IsBoardAmong OfAnySize text board × AreChainsOf board most written

-- the fault of a text whose chains aren't counted: there are too many, or it is no board's
abbrev pub HasNoChains : ℕ → List ℕ → RunFault → Type 0
HasNoChains most text TooManyChains =
    (board : PlainBoard) × IsBoardAmong OfAnySize text board × HasTooManyChains board most
HasNoChains most text fault = IsWrongAmong OfAnySize text fault

-- the same, or out of memory
abbrev pub CannotCountChains : ℕ → List ℕ → RunFault → Type 0
CannotCountChains most text Memory = Unit {0}
CannotCountChains most text fault = HasNoChains most text fault
