-- What a person is told at one turn of a play.
use Rattle.std.specs.Prelude.{◌≡◌, ◌↔◌, ℕ, ◌<◌, Bool, true, false, List, []}
use Rattle.std.specs.Prelude.{◌∷◌, AllPairs, Contains, if◌then◌else◌, nat_lt}
use Rattle.std.specs.Fmt.{decimal}
use Rattle.positions.specs.declared.value.Value.{Value}
use Rattle.player.specs.Inside.PlayState.{PlayState, IsLegalAt}
use Rattle.player.specs.Prompts.{IsPrompt, IsToldOfStart, blank_words, greeting_of, hint_after}
use Rattle.player.specs.Prompts.{shown_line}
use Rattle.player.specs.Transcript.{Game}
use Rattle.player.specs.declared.end.PlayEnd.{PlayEnd}
use Rattle.player.specs.declared.line_meaning.LineMeaning.{LineMeaning}
use Rattle.player.specs.declared.prompts.TheConstants.{MOST_LISTED}
use Rattle.player.specs.declared.line_meaning.LineMeaning.TheVariants.{Other}

-- the greeting, if there is a person to see it
abbrev pub greeting_if : Bool → Game → List ℕ
greeting_if true game = shown_line (greeting_of game)
greeting_if false game = []

-- the line at the configuration, if a person is there to see it; else nothing
abbrev pub IsToldHere : Bool → Game → List ℕ → List ℕ → Type 0
IsToldHere true game at told = IsPrompt game at told
IsToldHere false game at told = told ≡ []

-- that a line of this meaning has a blank, if it has and a person is there to see it
abbrev pub hint_if : Bool → LineMeaning → List ℕ
hint_if true (Other true) = shown_line blank_words
hint_if shows meaning = []

-- what is told after the line, if a person is there to see it
abbrev pub hint_there : Bool → List ℕ → List ℕ
hint_there true line = hint_after line
hint_there false line = []

-- what is told at the end of a play whose start has the value, if a person is there to see it; else
-- nothing
abbrev pub IsToldAtEnd : Bool → Value → PlayEnd → List ℕ → Type 0
IsToldAtEnd true value end told = IsToldOfStart value end told
IsToldAtEnd false value end told = told ≡ []

-- a label after so many others: a space and its number, if it is one of those that are listed
abbrev pub listed_label_words : ℕ → ℕ → List ℕ
listed_label_words count label = if nat_lt count MOST_LISTED then 32 ∷ decimal label else []

-- the labels that are legal for the pebble of the best request, in ascending order
abbrev pub AreLegalAt : PlayState → List ℕ → Type 0
AreLegalAt seat labels = AllPairs (λ x y. x < y) labels
    × ((label : ℕ) → Contains labels label ↔ IsLegalAt seat label)
