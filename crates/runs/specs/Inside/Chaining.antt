-- What is told of chains in a run over a text in memory.
use Rattle.std.specs.Prelude.{◌≡◌, ℕ, ◌⊎◌, Bool, List, [], Err, IsOk, Option, Result}
use Rattle.board_text.specs.PlainBoard.{PlainBoard}
use Rattle.chains.specs.ChainCounts.{AreChainCounts, AreCountsOfLengths}
use Rattle.console.specs.Watching.{lines_of}
use Rattle.runs.specs.Notices.{notice_of_length}
use Rattle.runs.specs.Texts.{HasNoneAmong, IsBoardAmong, OfAnySize}
use Rattle.runs.specs.declared.fault.RunFault.{RunFault}

-- as `IsToldOfChains`, of the text that was read
abbrev pub IsToldOfText : {Answer : Type 0} → ℕ → List ℕ → Bool → Result Answer RunFault → List ℕ
    → Type 0
IsToldOfText most text shows result told =
    ((board : PlainBoard) × IsBoardAmong OfAnySize text board
    × (counts : List ℕ) × AreCountsOfLengths board counts
    × (IsOk result → (undominated : Option (List ℕ)) × AreChainCounts board most counts undominated)
    × (told ≡ lines_of (notice_of_length shows) 1 counts))
    ⊎ ((fault : RunFault) × (result ≡ Err fault) × HasNoneAmong OfAnySize text fault × (told ≡ []))
