-- Checks of a board and a document in two texts: the bytes read, the answer, and the bytes written;
-- and the text that is kept of a joined input.
use Rattle.std.specs.Prelude.{◌≡◌, ℕ, ◌⊎◌, List, [], Result, Err}
use Rattle.runs.specs.Verdicts.{IsChecked}
use Rattle.runs.specs.BoardRun.{FailsOn, RanOn, Readers}
use Rattle.runs.specs.Run.{Bytes, Fails, Gave, IsUnread, Ran}
use Rattle.runs.specs.Texts.{HasNoProof, OfAnySize}
use Rattle.runs.specs.declared.verdicts.Verdict.{Verdict}
use Rattle.runs.specs.declared.fault.RunFault.{RunFault}

-- a board of any size and the document were read, and the verdict's line was written
abbrev pub RanCheck : ℕ → ℕ → Readers → Bytes → Verdict → Type 0
RanCheck board_limit proof_limit read written verdict =
    RanOn OfAnySize board_limit read.board
    (λ b. Ran (IsChecked b) proof_limit read.text written verdict)

-- the faults of a check without a verdict; if there is no board, the document is untouched
abbrev pub CheckFails : ℕ → ℕ → Readers → Bytes → RunFault → Type 0
CheckFails board_limit proof_limit read written fault =
    FailsOn OfAnySize board_limit read.board read.IsTextKept
    (λ b. Fails (IsChecked b) (HasNoProof b) proof_limit read.text written) fault

-- the text kept of an input: all of it; or none, since it wasn't read to its end
abbrev pub KeepsText : ℕ → Bytes → Result Verdict RunFault → List ℕ → Type 0
KeepsText limit read result text =
    Gave limit read text
    ⊎ ((fault : RunFault) × (result ≡ Err fault) × IsUnread limit read fault × (text ≡ []))
