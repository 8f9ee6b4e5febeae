-- The text that one turn of a play writes.
use Rattle.std.specs.Prelude.{◌≡◌, ℕ, List, ◌++◌}
use Rattle.board_text.specs.Streams.{AppendsAll, AppendsPrefix, AreAsBefore, Bytes}
use Rattle.player.specs.Inside.Words.{Spells}
use Rattle.player.specs.Transcript.{Game, Standing, IsResponse}
use Rattle.player.specs.declared.line_meaning.LineMeaning.{LineMeaning}
use Rattle.player.specs.declared.end.PlayFault.{PlayFault}
use Rattle.player.specs.declared.end.PlayFault.TheVariants.{Write, Memory}

-- this is the reply to each line that spells the meaning
abbrev pub IsResponseToMeaning : Game → Standing → LineMeaning → List ℕ → Standing → Type 0
IsResponseToMeaning game from meaning said to =
    (line : List ℕ) → Spells line meaning → IsResponse game from line said to

-- a text was appended to another, and it is right
abbrev pub AddsText : List ℕ → List ℕ → (List ℕ → Type 0) → Type 0
AddsText old new IsRight = (said : List ℕ) × (new ≡ old ++ said) × IsRight said

-- a text was written, and it is right
abbrev pub Writes : Bytes → (List ℕ → Type 0) → Type 0
Writes taken IsRight = (said : List ℕ) × AppendsAll taken said × IsRight said

-- why a right text wasn't written whole
abbrev pub FailsToWrite : Bytes → (List ℕ → Type 0) → PlayFault → Type 0
FailsToWrite taken IsRight Write = (said : List ℕ) × AppendsPrefix taken said × IsRight said
FailsToWrite taken IsRight Memory = AreAsBefore taken
FailsToWrite taken IsRight fault = ⊥
