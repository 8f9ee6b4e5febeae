-- Definitions that this crate's own functions cite beside `Words`.
use Rattle.std.specs.Prelude.{◌≡◌, ◌≢◌, ℕ, ◌^◌, ◌<◌, List}
use Rattle.std.specs.Fmt.{decimal}
use Rattle.player.specs.declared.line_meaning.LineMeaning.{LineMeaning}
use Rattle.player.specs.declared.line_meaning.LineMeaning.TheVariants.{Number, Quit, Other}
use Rattle.player.specs.Prompts.{has_blank}
use Rattle.player.specs.Words.{quit_line}

-- the line has this meaning
abbrev pub Spells : List ℕ → LineMeaning → Type 0
Spells line (Number number) = (number < 2 ^ 32) × (line ≡ decimal number)
Spells line Quit = line ≡ quit_line
Spells line (Other blank) = (line ≢ quit_line)
    × ((number : ℕ) → number < 2 ^ 32 → line ≢ decimal number) × (has_blank line ≡ blank)
