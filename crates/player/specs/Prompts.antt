-- What a person at a terminal is told in a play: a greeting, before each line how many more
-- requests are answered and what can be typed, after a line with a blank that it has one, and at
-- the end whether the play could have gone on, or have ended before.
use Rattle.std.specs.Prelude.{◌≡◌, ℕ, ◌<◌, ◌-◌, ◌==◌, ◌↔◌, ◌⊎◌, ◌||◌, if◌then◌else◌, List, []}
use Rattle.std.specs.Prelude.{◌∷◌, ◌++◌, AllPairs, Bool, Contains, IfErr, IfOk, Result}
use Rattle.std.specs.Prelude.{codes, false, length, nat_lt, replicate, take, true}
use Rattle.std.specs.List.{list_any}
use Rattle.std.specs.Fmt.{decimal}
use Rattle.board_text.specs.LineForms.{spaced_numbers, with_line_feed}
use Rattle.board_text.specs.PlainBoard.{PlainBoard}
use Rattle.board_text.specs.Streams.{Bytes}
use Rattle.positions.specs.Game.{Legal}
use Rattle.positions.specs.Value.{HasValue}
use Rattle.positions.specs.declared.value.Value.{Value}
use Rattle.positions.specs.declared.value.Value.TheVariants.{Finite, Forever}
use Rattle.strategies.specs.Best.{IsBestRequest, IsLess}
use Rattle.player.specs.Play.{BreaksOff, HasEnded}
use Rattle.console.specs.Showing.{shown}
use Rattle.player.specs.Transcript.{Game, PersonAsks, PersonAnswers, PersonClimbs, Standing, Going}
use Rattle.player.specs.Transcript.{Over, BeginsPlay, AreResponses, IsPlayed, IsResponse}
use Rattle.player.specs.declared.end.PlayEnd.{PlayEnd}
use Rattle.player.specs.declared.end.PlayEnd.TheVariants.{Stuck, Stopped, NoStrategy}
use Rattle.player.specs.declared.end.PlayFault.{PlayFault}
use Rattle.player.specs.declared.end.PlayFault.TheVariants.{Read, Limit}
use Rattle.player.specs.declared.prompts.TheConstants.{MOST_LISTED}

-- words as the line that a person is shown
abbrev pub shown_line : List ℕ → List ℕ
shown_line words = with_line_feed (shown words)

-- ---- the words

-- the words that greet the person
abbrev pub greeting_of : Game → List ℕ
greeting_of (PersonAnswers board) =
    codes "type a label for the pebble that is asked for; `quit` or Ctrl-D ends the play"
greeting_of game =
    codes "type the number of a pebble, of which the first is 0; `quit` or Ctrl-D ends the play"

-- the labels that are legal for the pebble, in ascending order
pub record AreLegalLabels (board : PlainBoard) (configuration : List ℕ) (pebble : ℕ)
    (labels : List ℕ) : Type 0 where
  pub ascending : AllPairs (λ x y. x < y) labels
  pub legal : (label : ℕ) → Contains labels label ↔ Legal board configuration pebble label

-- the pebbles that can be asked for
abbrev pub pebble_choices : ℕ → List ℕ
pebble_choices pebbles =
    if pebbles == 1 then codes "type 0, the only pebble, or quit"
    else codes "type a pebble, 0 to " ++ decimal (pebbles - 1) ++ codes ", or quit"

-- how many labels there are, if they are more than are listed
abbrev pub count_words : ℕ → List ℕ
count_words count =
    if nat_lt MOST_LISTED count
    then codes ", the first " ++ decimal MOST_LISTED ++ codes " of " ++ decimal count
    else []

-- the labels, of which no more than the first are listed
abbrev pub listed_labels : List ℕ → List ℕ
listed_labels labels =
    spaced_numbers (take MOST_LISTED labels) ++ count_words (length labels)

-- the labels that the pebble can take
abbrev pub label_choices : ℕ → List ℕ → List ℕ
label_choices pebble labels = codes "labels that pebble " ++ decimal pebble ++ codes " can take:"
    ++ listed_labels labels ++ codes "; type one, or quit"

-- the words for what can be typed at a configuration: a pebble, or a legal label for the pebble of
-- the best request
abbrev pub AreChoices : Game → List ℕ → List ℕ → Type 0
AreChoices (PersonAsks board) at words = words ≡ pebble_choices board.pebbles
AreChoices (PersonAnswers board) at words =
    (pebble : ℕ) × (labels : List ℕ) × IsBestRequest board at pebble
    × AreLegalLabels board at pebble labels × (words ≡ label_choices pebble labels)
AreChoices (PersonClimbs levels) at words = words ≡ pebble_choices levels

-- the configuration has this value, which on a nested board is forever
abbrev pub HasValueIn : Game → List ℕ → Value → Type 0
HasValueIn (PersonAsks board) at value = HasValue board at value
HasValueIn (PersonAnswers board) at value = HasValue board at value
HasValueIn (PersonClimbs levels) at value = value ≡ Forever

-- the requests that are answered at least from a configuration of this value, by best answers
abbrev pub least_words : Value → List ℕ
least_words (Finite number) =
    codes "at least " ++ decimal number ++ codes " more will be answered, however you ask; "
least_words Forever = codes "requests will be answered for ever, however you ask; "

-- the requests that are answered at most from a configuration of this value, if the best are made
abbrev pub most_words : Value → List ℕ
most_words (Finite number) =
    codes "at most " ++ decimal number ++ codes " more can be answered; "
most_words Forever = codes "requests can be answered for ever; "

-- how many more requests are answered from a configuration of this value: so many at least for a
-- person who asks, and so many at most for one who answers
abbrev pub left_words : Game → Value → List ℕ
left_words (PersonAsks board) value = least_words value
left_words (PersonAnswers board) value = most_words value
left_words (PersonClimbs levels) value = least_words value

-- the line told at a configuration: how many more requests are answered, and what can be typed
abbrev pub IsPrompt : Game → List ℕ → List ℕ → Type 0
IsPrompt game at told = (value : Value) × (choices : List ℕ) × HasValueIn game at value
    × AreChoices game at choices × (told ≡ shown_line (left_words game value ++ choices))

-- a space or a tab is in the line
abbrev pub has_blank : List ℕ → Bool
has_blank line = list_any (λ byte. (byte == 32) || (byte == 9)) line

abbrev pub blank_words : List ℕ
blank_words = codes "a space or a tab is in the line: type the number alone"

-- what is told after a line: that it has a blank, which no request and no answer has
abbrev pub hint_after : List ℕ → List ℕ
hint_after line = if has_blank line then shown_line blank_words else []

-- how many requests could be answered from a start of this value
abbrev pub start_words : Value → List ℕ
start_words (Finite number) =
    decimal number ++ codes " can be answered from the start: the play could have gone on"
start_words Forever =
    codes "requests can be answered from the start for ever: the play could have gone on"

-- so many requests, in words
abbrev pub requests_words : ℕ → List ℕ
requests_words number =
    if number == 1 then codes "1 request" else decimal number ++ codes " requests"

-- how many requests would have been answered if the best had been made
abbrev pub better_words : ℕ → List ℕ
better_words number =
    codes "better requests would have ended the play after " ++ requests_words number

-- ---- when they are told

-- once the play stands here: the line there, unless it is over
abbrev pub IsToldAt : Game → Standing → List ℕ → Type 0
IsToldAt game (Going at requests) told = IsPrompt game at told
IsToldAt game (Over end) told = told ≡ []

-- the replies to these lines, and what is told wherever the play stands and after each line
abbrev pub AreToldResponses : Game → Standing → List (List ℕ) → List ℕ → List ℕ → Standing → Type 0
AreToldResponses game from [] text told to = (text ≡ []) × IsToldAt game from told × (from ≡ to)
AreToldResponses game from (line ∷ lines) text told to =
    (said more prompt later : List ℕ) × (next : Standing) × IsToldAt game from prompt
    × IsResponse game from line said next × AreToldResponses game next lines more later to
    × (text ≡ said ++ more) × (told ≡ prompt ++ (hint_after line ++ later))

-- the replies from a standing on, and nothing is told
abbrev pub BringsUntold : Game → Standing → List ℕ → List (List ℕ) → List ℕ → Standing → Type 0
BringsUntold game from told lines text to = AreResponses game from lines text to × (told ≡ [])

-- the same, and what a person is told: nothing if the play is over before a line is read; else the
-- greeting, and what is told wherever the play stands
abbrev pub BringsAndTells : Game → Standing → List ℕ → List (List ℕ) → List ℕ → Standing → Type 0
BringsAndTells game (Going at requests) told lines text to =
    (prompts : List ℕ) × AreToldResponses game (Going at requests) lines text prompts to
    × (told ≡ shown_line (greeting_of game) ++ prompts)
BringsAndTells game (Over end) told lines text to = BringsUntold game (Over end) told lines text to

-- ---- the end

-- the configuration that the play begins at
abbrev pub start_of : Game → List ℕ
start_of (PersonAsks board) = board.start
start_of (PersonAnswers board) = board.start
start_of (PersonClimbs levels) = replicate levels 0

-- fewer requests were answered than the value has
abbrev pub EndsBefore : PlayEnd → Value → Type 0
EndsBefore (Stuck requests) value = IsLess (Finite requests) value
EndsBefore (Stopped requests) value = IsLess (Finite requests) value
EndsBefore NoStrategy value = ⊥

-- more requests were answered than the value has
abbrev pub EndsAfter : PlayEnd → Value → Type 0
EndsAfter (Stuck requests) value = IsLess value (Finite requests)
EndsAfter (Stopped requests) value = IsLess value (Finite requests)
EndsAfter NoStrategy value = ⊥

-- that the play could have gone on, if fewer requests were answered than the value of its start
-- has; that better requests would have ended it, if more were answered; else nothing
abbrev pub IsToldOfStart : Value → PlayEnd → List ℕ → Type 0
IsToldOfStart value end told = (EndsBefore end value × (told ≡ shown_line (start_words value)))
    ⊎ ((number : ℕ) × (value ≡ Finite number) × EndsAfter end value
    × (told ≡ shown_line (better_words number)))
    ⊎ ((EndsBefore end value → ⊥) × (EndsAfter end value → ⊥) × (told ≡ []))

-- what is told at the end of a play, if a person is there to see it
abbrev pub IsToldLast : Bool → Game → PlayEnd → List ℕ → Type 0
IsToldLast true game end told =
    (value : Value) × HasValueIn game (start_of game) value × IsToldOfStart value end told
IsToldLast false game end told = told ≡ []

-- ---- the whole play

-- how a play is told: the replies that lines bring, these with what is told meanwhile, and what is
-- told at the end
pub record Telling : Type 1 where
  pub Brings : List (List ℕ) → List ℕ → Standing → Type 0
  pub Tells : List ℕ → List (List ℕ) → List ℕ → Standing → Type 0
  pub TellsLast : PlayEnd → List ℕ → Type 0

-- a play from a standing on, for a person who is there to see it or for nobody
abbrev pub told_from : Bool → Game → Standing → Telling
told_from shows game from = record {
  Brings = AreResponses game from;
  Tells = elim shows [ true ↦ BringsAndTells game from | false ↦ BringsUntold game from ];
  TellsLast = IsToldLast shows game;
}

-- the text written once these lines are read, what a person was told meanwhile, and the state of
-- the play then
pub record IsPlayedAndTold (shows : Bool) (game : Game) (told : List ℕ) (lines : List (List ℕ))
    (text : List ℕ) (to : Standing) : Type 0 where
  pub opening : List ℕ
  pub first : Standing
  pub more : List ℕ
  pub opens : BeginsPlay game opening first
  pub brings : (told_from shows game first).Tells told lines more to
  pub text_is : text ≡ opening ++ more

-- a play from its opening on
abbrev pub told_play : Bool → Game → Telling
told_play shows game = record {
  Brings = IsPlayed game;
  Tells = IsPlayedAndTold shows game;
  TellsLast = IsToldLast shows game;
}

-- a text that belongs to these lines, where what was told belongs to them; or, since the last of
-- them may be unanswered, to those before it; or nothing was read and nothing told, since the
-- opening wasn't written
abbrev pub NearlyTells : Telling → Bytes → List ℕ → List (List ℕ) → List ℕ → Standing → Type 0
NearlyTells telling left told lines text to =
    telling.Tells told lines text to
    ⊎ (telling.Brings lines text to × (((before : List (List ℕ)) × (last : List ℕ)
    × (lines ≡ before ++ last ∷ []) × (front : List ℕ) × (stood : Standing)
    × telling.Tells told before front stood)
    ⊎ ((left.new ≡ left.old) × (lines ≡ []) × (told ≡ []))))

-- after a fault of reading all lines that came are answered, and what was told belongs to them;
-- when a text can't be made or written, the last one may not be
abbrev pub TellsBefore : PlayFault → Telling → Bytes → List ℕ → List (List ℕ) → List ℕ → Standing
    → Type 0
TellsBefore Read telling left = telling.Tells
TellsBefore Limit telling left = telling.Tells
TellsBefore fault telling left = NearlyTells telling left

-- what was told in a play with this result, by the lines that came and the text that was written,
-- and at its end
pub record IsToldIn (telling : Telling) (left taken : Bytes) (result : Result PlayEnd PlayFault)
    (told : List ℕ) : Type 0 where
  pub ok : IfOk result (λ end. (prompts last : List ℕ)
      × HasEnded (telling.Tells prompts) left taken end × telling.TellsLast end last
      × (told ≡ prompts ++ last))
  pub fault : IfErr result (λ fault. BreaksOff (TellsBefore fault telling left told) left taken
      fault)

-- the same of a play from its opening on
abbrev pub ArePrompts : Bool → Game → Bytes → Bytes → Result PlayEnd PlayFault → List ℕ → Type 0
ArePrompts shows game = IsToldIn (told_play shows game)
