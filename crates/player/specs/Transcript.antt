-- The output of a play: a text for each line of the person, by the moves of the pebble game.
use Rattle.std.specs.Prelude.{◌≡◌, ◌≢◌, ℕ, suc, ◌<◌, ◌⊎◌, List, [], ◌∷◌, ◌++◌, map, replicate}
use Rattle.std.specs.Prelude.{codes}
use Rattle.std.specs.Fmt.{decimal}
use Rattle.std.specs.List.{flat_map}
use Rattle.board_text.specs.LineForms.{with_line_feed, number_line}
use Rattle.board_text.specs.Numerals.{spaced_texts}
use Rattle.board_text.specs.PlaceForms.{places_line}
use Rattle.board_text.specs.PlainBoard.{PlainBoard}
use Rattle.positions.specs.declared.value.Value.{Value}
use Rattle.positions.specs.declared.value.Value.TheVariants.{Finite, Forever}
use Rattle.positions.specs.Game.{Legal, moved}
use Rattle.positions.specs.Value.{HasValue}
use Rattle.nested_cycles.specs.Domination.{labels_of, label_word}
use Rattle.nested_cycles.specs.NestedGame.{other_words}
use Rattle.nested_cycles.specs.Reply.{NestedReply}
use Rattle.proof_text.specs.ProofText.{claim_line}
use Rattle.strategies.specs.Best.{IsBestAnswer, IsBestRequest}
use Rattle.positions.specs.Claim.{claim_of}
use Rattle.player.specs.Words.{quit_line}
use Rattle.player.specs.declared.end.PlayEnd.{PlayEnd}
use Rattle.player.specs.declared.end.PlayEnd.TheVariants.{Stuck, Stopped, NoStrategy}

-- who the person is, and the board that is played on; or the person asks on the nested board of a
-- level, which isn't built
pub data Game : Type 0 where
  PersonAsks PersonAnswers : PlainBoard → Game
  PersonClimbs : ℕ → Game

-- the state of a play: it goes on from a configuration,
-- after a number of answered requests, or it is over
pub data Standing : Type 0 where
  Going : List ℕ → ℕ → Standing
  Over : PlayEnd → Standing

-- the number of requests that are answered when the play stands so
abbrev pub answered_at : Standing → ℕ
answered_at (Going at requests) = requests
answered_at (Over (Stuck requests)) = requests
answered_at (Over (Stopped requests)) = requests
answered_at (Over NoStrategy) = 0

-- ---- lines

-- the value of the start
abbrev pub value_line : Value → List ℕ
value_line value = claim_line (claim_of value)

-- the places of a configuration
abbrev pub at_line : PlainBoard → List ℕ → List ℕ
at_line board configuration = places_line board.labels (codes "at") configuration

-- the value of the start and its places
abbrev pub opening_lines : PlainBoard → Value → List ℕ → List ℕ
opening_lines board value start = value_line value ++ at_line board start

-- the answer to a request: the pebble, and the text of the label that it takes
abbrev pub takes_line : ℕ → List ℕ → List ℕ
takes_line pebble label =
    with_line_feed (codes "pebble " ++ decimal pebble ++ codes " takes " ++ label)

-- a request
abbrev pub ask_line : ℕ → List ℕ
ask_line pebble = number_line (codes "ask") pebble

abbrev pub stuck_line : ℕ → ℕ → List ℕ
stuck_line pebble requests = with_line_feed
    (codes "no label for pebble " ++ decimal pebble ++ codes " after " ++ decimal requests
    ++ codes " requests")

abbrev pub stopped_line : ℕ → List ℕ
stopped_line requests =
    with_line_feed (codes "stopped after " ++ decimal requests ++ codes " requests")

abbrev pub no_strategy_line : List ℕ
no_strategy_line = with_line_feed (codes "no strategy")

abbrev pub no_request_line : List ℕ
no_request_line = with_line_feed (codes "not a request")

abbrev pub no_answer_line : List ℕ
no_answer_line = with_line_feed (codes "not an answer")

-- ---- the person asks

-- the line names no pebble below `pebbles`, and isn't `quit`
abbrev pub IsNoRequest : ℕ → List ℕ → Type 0
IsNoRequest pebbles line =
    (line ≢ quit_line) × ((pebble : ℕ) → pebble < pebbles → line ≢ decimal pebble)

-- the reply to a line if the person names one of `pebbles` pebbles, each answered by `Answers`
abbrev pub RepliesToLine : ℕ → (ℕ → List ℕ → Standing → Type 0) → Standing → List ℕ → List ℕ
    → Standing → Type 0
RepliesToLine pebbles Answers from line said to =
    ((pebble : ℕ) × (pebble < pebbles) × (line ≡ decimal pebble) × Answers pebble said to)
    ⊎ ((line ≡ quit_line) × (said ≡ stopped_line (answered_at from))
    × (to ≡ Over (Stopped (answered_at from))))
    ⊎ (IsNoRequest pebbles line × (said ≡ no_request_line) × (to ≡ from))

-- the best answer to a request, if some label is legal
abbrev pub Replies : PlainBoard → List ℕ → ℕ → ℕ → List ℕ → Standing → Type 0
Replies board at requests pebble said to =
    ((label : ℕ) × IsBestAnswer board at pebble label
    × (said ≡ takes_line pebble (decimal label) ++ at_line board (moved at pebble label))
    × (to ≡ Going (moved at pebble label) (suc requests)))
    ⊎ (((label : ℕ) → Legal board at pebble label → ⊥) × (said ≡ stuck_line pebble requests)
    × (to ≡ Over (Stuck requests)))

-- ---- the person asks on a nested board

-- the digits of a word, and a dot for the word without digits
abbrev pub digits_text : List ℕ → List ℕ
digits_text [] = codes "."
digits_text (digit ∷ others) = flat_map decimal (digit ∷ others)

-- the word of a label of the nested board of a level
abbrev pub word_text : ℕ → ℕ → List ℕ
word_text levels label = digits_text (label_word levels label)

-- the words of the pebbles
abbrev pub words_line : ℕ → List ℕ → List ℕ
words_line levels at = with_line_feed (codes "at" ++ spaced_texts (map (word_text levels) at))

-- the level, and all pebbles on the label 0
abbrev pub nested_opening_lines : ℕ → List ℕ
nested_opening_lines levels =
    number_line (codes "levels") levels ++ words_line levels (replicate levels 0)

-- the reply to a request, which there always is
abbrev pub NestedReplies : ℕ → List ℕ → ℕ → ℕ → List ℕ → Standing → Type 0
NestedReplies levels at requests pebble said to =
    (label : ℕ) × (label < labels_of levels) × NestedReply levels (other_words pebble at) label
    × (said ≡ takes_line pebble (word_text levels label)
    ++ words_line levels (moved at pebble label))
    × (to ≡ Going (moved at pebble label) (suc requests))

-- ---- the person answers

-- the best request; possibly no label is legal for it
abbrev pub Asks : PlainBoard → List ℕ → ℕ → List ℕ → Standing → Type 0
Asks board at requests said to = (pebble : ℕ) × IsBestRequest board at pebble
    × ((((label : ℕ) × Legal board at pebble label) × (said ≡ ask_line pebble)
    × (to ≡ Going at requests))
    ⊎ (((label : ℕ) → Legal board at pebble label → ⊥)
    × (said ≡ ask_line pebble ++ stuck_line pebble requests)
    × (to ≡ Over (Stuck requests))))

-- the line is a legal label for the pebble that is asked for
abbrev pub IsLegalLine : PlainBoard → List ℕ → List ℕ → ℕ → ℕ → Type 0
IsLegalLine board at line pebble label =
    IsBestRequest board at pebble × Legal board at pebble label × (line ≡ decimal label)

-- the line is no legal label, and isn't `quit`
abbrev pub IsNoAnswer : PlainBoard → List ℕ → List ℕ → Type 0
IsNoAnswer board at line =
    (line ≢ quit_line) × ((pebble label : ℕ) → IsLegalLine board at line pebble label → ⊥)

-- the reply to a line if the person is the labeller
abbrev pub AsksAfterLine : PlainBoard → List ℕ → ℕ → List ℕ → List ℕ → Standing → Type 0
AsksAfterLine board at requests line said to =
    ((pebble label : ℕ) × (asked : List ℕ) × IsLegalLine board at line pebble label
    × Asks board (moved at pebble label) (suc requests) asked to
    × (said ≡ at_line board (moved at pebble label) ++ asked))
    ⊎ ((line ≡ quit_line) × (said ≡ stopped_line requests) × (to ≡ Over (Stopped requests)))
    ⊎ (IsNoAnswer board at line × (said ≡ no_answer_line) × (to ≡ Going at requests))

-- ---- the play

-- the text written before a line is read: the value or the level, the start, and if the person is
-- the labeller the first request, or that there is no strategy
abbrev pub BeginsPlay : Game → List ℕ → Standing → Type 0
BeginsPlay (PersonAsks board) said to =
    (value : Value) × HasValue board board.start value
    × (said ≡ opening_lines board value board.start) × (to ≡ Going board.start 0)
BeginsPlay (PersonAnswers board) said to =
    (HasValue board board.start Forever
    × (said ≡ opening_lines board Forever board.start ++ no_strategy_line)
    × (to ≡ Over NoStrategy))
    ⊎ ((number : ℕ) × (asked : List ℕ) × HasValue board board.start (Finite number)
    × (said ≡ opening_lines board (Finite number) board.start ++ asked)
    × Asks board board.start 0 asked to)
BeginsPlay (PersonClimbs levels) said to =
    (said ≡ nested_opening_lines levels) × (to ≡ Going (replicate levels 0) 0)

-- the reply to one line; none if the play is over
abbrev pub IsResponse : Game → Standing → List ℕ → List ℕ → Standing → Type 0
IsResponse game (Over end) line said to = (said ≡ []) × (to ≡ Over end)
IsResponse (PersonAsks board) (Going at requests) line said to =
    RepliesToLine board.pebbles (Replies board at requests) (Going at requests) line said to
IsResponse (PersonAnswers board) (Going at requests) line said to =
    AsksAfterLine board at requests line said to
IsResponse (PersonClimbs levels) (Going at requests) line said to =
    RepliesToLine levels (NestedReplies levels at requests) (Going at requests) line said to

-- the replies to these lines, one after the other
abbrev pub AreResponses : Game → Standing → List (List ℕ) → List ℕ → Standing → Type 0
AreResponses game from [] text to = (text ≡ []) × (from ≡ to)
AreResponses game from (line ∷ lines) text to =
    (said more : List ℕ) × (next : Standing) × IsResponse game from line said next
    × AreResponses game next lines more to × (text ≡ said ++ more)

-- the text written once these lines are read, and the state of the play then
pub record IsPlayed (game : Game) (lines : List (List ℕ)) (text : List ℕ)
    (to : Standing) : Type 0 where
  pub opening : List ℕ
  pub first : Standing
  pub more : List ℕ
  pub opens : BeginsPlay game opening first
  pub brings : AreResponses game first lines more to
  pub text_is : text ≡ opening ++ more

-- if the lines end before the play is over, one more line is written
abbrev pub Stops : (List (List ℕ) → List ℕ → Standing → Type 0) → List (List ℕ) → List ℕ → PlayEnd
    → Type 0
Stops Played lines text end =
    (at front : List ℕ) × (requests : ℕ) × Played lines front (Going at requests)
    × (text ≡ front ++ stopped_line requests)
    × (end ≡ Stopped requests)

-- the whole transcript of input lines, and its end
abbrev pub Transcribes : (List (List ℕ) → List ℕ → Standing → Type 0) → List (List ℕ) → List ℕ
    → PlayEnd → Type 0
Transcribes Played lines text end = Played lines text (Over end) ⊎ Stops Played lines text end

abbrev pub IsTranscript : Game → List (List ℕ) → List ℕ → PlayEnd → Type 0
IsTranscript game lines text end = Transcribes (IsPlayed game) lines text end
