-- The numbers of requests that plays last.
use Rattle.std.proofs.Common.{◌≡◌, ℕ, zero, suc, ◌+◌, ◌≤◌, List, [], ◌∷◌, inl, inr, refl, sym, ap, subst, arith}
use Rattle.std.proofs.lemmas.Bool.{cases_lt}
use Rattle.board_text.specs.PlainBoard.{PlainBoard, IsConfiguration}
use Rattle.board_text.specs.Streams.{Bytes}
use Rattle.positions.specs.declared.value.Value.{Value}
use Rattle.positions.specs.declared.value.Value.TheVariants.{Finite, Forever}
use Rattle.positions.specs.Game.{Legal, LabellerTree, moved}
use Rattle.positions.specs.Value.{HasValue}
use Rattle.positions.proofs.Cited.{moved_is_configuration, lasts_at_most, not_both_trees}
use Rattle.strategies.specs.Best.{IsBestAnswer, IsBestRequest}
use Rattle.strategies.proofs.Cited.{lasts_after, best_answer, best_request, less_than_finite}
use Rattle.std.specs.Prelude.{Option}
use Rattle.player.specs.Play.{Ends, HasEnded}
use Rattle.player.specs.Laws.{KeepsToValue, HasReached, IsWithinValue, IsNoSooner, IsNoLater, IsStopped, EndsBestPlay}
use Rattle.player.specs.Transcript.{Game, Standing, Going, Over, PersonAsks, PersonAnswers, PersonClimbs, BeginsPlay}
use Rattle.player.specs.Transcript.{Asks, IsResponse, AreResponses, IsPlayed, IsTranscript}
use Rattle.player.specs.declared.end.PlayEnd.{PlayEnd}
use Rattle.player.specs.declared.end.PlayEnd.TheVariants.{Stuck, Stopped, NoStrategy}

-- ---- the person asks

-- a labeller's tree of the start leaves a tree of its depth less the answered requests
abbrev Lasts : PlainBoard → Standing → Type 0
Lasts board (Going at requests) =
    (depth : ℕ) → LabellerTree board (requests + depth) board.start → LabellerTree board depth at
Lasts board (Over (Stuck requests)) = LabellerTree board (requests + 1) board.start → ⊥
Lasts board (Over (Stopped requests)) = Unit {0}
Lasts board (Over NoStrategy) = ⊥

lasts_on : (board : PlainBoard) (from : Standing) (line said : List ℕ) (to : Standing)
    → IsResponse (PersonAsks board) from line said to → Lasts board from → Lasts board to
lasts_on board (Over end) line said to brings lasts = subst (Lasts board) (sym brings.1) lasts
lasts_on board (Going at requests) line said to (inl (pebble, inside, spelled, inl (label, best, text, goes))) lasts =
    subst (Lasts board) (sym goes) (λ depth tree.
    lasts_after board depth at pebble label inside best
    (lasts (suc depth) (subst (λ n. LabellerTree board n board.start) (omega arith) tree)))
lasts_on board (Going at requests) line said to (inl (pebble, inside, spelled, inr (none, text, over))) lasts =
    subst (Lasts board) (sym over) (λ tree. let answer = lasts 1 tree pebble inside in none answer.0 answer.1)
lasts_on board (Going at requests) line said to (inr (inl (spelled, text, over))) lasts =
    subst (Lasts board) (sym over) tt
lasts_on board (Going at requests) line said to (inr (inr (other, text, goes))) lasts =
    subst (Lasts board) (sym goes) lasts

last_in_turn : (board : PlainBoard) (from : Standing) (lines : List (List ℕ)) (text : List ℕ) (to : Standing)
    → AreResponses (PersonAsks board) from lines text to → Lasts board from → Lasts board to
last_in_turn board from [] text to brought lasts = subst (Lasts board) brought.1 lasts
last_in_turn board from (line ∷ lines) text to brought lasts =
    last_in_turn board brought.2 lines brought.1 to brought.4
    (lasts_on board from line brought.0 brought.2 brought.3 lasts)

last_from_start : (board : PlainBoard) (said : List ℕ) (first : Standing) → BeginsPlay (PersonAsks board) said first
    → Lasts board first
last_from_start board said first opens =
    subst (Lasts board) (sym opens.3) (λ depth tree. subst (λ n. LabellerTree board n board.start) (omega arith) tree)

reached : (board : PlainBoard) (value : Value) (requests : ℕ) → HasValue board board.start value
    → (LabellerTree board (requests + 1) board.start → ⊥) → HasReached board requests
reached board Forever requests has ends = absurd (ends (has (requests + 1)))
reached board (Finite number) requests has ends = (
  number,
  has,
  elim (cases_lt requests number) [
    | inl sooner ↦ absurd (ends (lasts_at_most board board.start (requests + 1) number (omega (arith, sooner)) has.0))
    | inr not ↦ not
  ],
)

pub no_sooner : (board : PlainBoard) (lines : List (List ℕ)) (text : List ℕ) (end : PlayEnd)
    → IsTranscript (PersonAsks board) lines text end → IsNoSooner board end
no_sooner board lines text end (inl played) =
    by end (last_in_turn board played.first lines played.more (Over end) played.brings
    (last_from_start board played.opening played.first played.opens))
  where
    by : (end : PlayEnd) → Lasts board (Over end) → IsNoSooner board end
    by (Stuck requests) lasts = reached board played.opens.0 requests played.opens.1 lasts
    by (Stopped requests) lasts = tt
    by NoStrategy lasts = lasts
no_sooner board lines text end (inr stops) = subst (IsNoSooner board) (sym stops.5) tt

-- ---- the person answers

-- the value that is left and the answered requests are together no more than the start's value
abbrev Leaves : PlainBoard → Standing → Type 0
Leaves board (Going at requests) =
    (number left : ℕ) × HasValue board board.start (Finite number) × HasValue board at (Finite left)
    × (requests + left ≤ number)
Leaves board (Over end) = IsNoLater board end

asked_leaves : (board : PlainBoard) (at : List ℕ) (requests : ℕ) (said : List ℕ) (to : Standing)
    → Asks board at requests said to → Leaves board (Going at requests) → Leaves board to
asked_leaves board at requests said to (pebble, best, inl (some, text, goes)) leaves =
    subst (Leaves board) (sym goes) leaves
asked_leaves board at requests said to (pebble, best, inr (none, text, over)) leaves =
    subst (Leaves board) (sym over) (leaves.0, leaves.2, omega (arith, leaves.4))

leaves_on : (board : PlainBoard) (from : Standing) (line said : List ℕ) (to : Standing)
    → IsResponse (PersonAnswers board) from line said to → Leaves board from → Leaves board to
leaves_on board (Over end) line said to brings leaves = subst (Leaves board) (sym brings.1) leaves
leaves_on board (Going at requests) line said to (inl (pebble, label, asked, legal, asks, text)) leaves =
    let less = less_than_finite board leaves.1 (moved at pebble label) at leaves.3 (legal.0.0.lowers label legal.1) in
    asked_leaves board (moved at pebble label) (suc requests) asked to asks
    (leaves.0, less.0, leaves.2, less.2, omega (arith, less.1, leaves.4))
leaves_on board (Going at requests) line said to (inr (inl (spelled, text, over))) leaves =
    subst (Leaves board) (sym over) (leaves.0, leaves.2, omega (arith, leaves.4))
leaves_on board (Going at requests) line said to (inr (inr (other, text, goes))) leaves =
    subst (Leaves board) (sym goes) leaves

leave_in_turn : (board : PlainBoard) (from : Standing) (lines : List (List ℕ)) (text : List ℕ) (to : Standing)
    → AreResponses (PersonAnswers board) from lines text to → Leaves board from → Leaves board to
leave_in_turn board from [] text to brought leaves = subst (Leaves board) brought.1 leaves
leave_in_turn board from (line ∷ lines) text to brought leaves =
    leave_in_turn board brought.2 lines brought.1 to brought.4
    (leaves_on board from line brought.0 brought.2 brought.3 leaves)

leaves_at_start : (board : PlainBoard) (said : List ℕ) (first : Standing) → BeginsPlay (PersonAnswers board) said first
    → Leaves board first
leaves_at_start board said first (inl (forever, text, over)) = subst (Leaves board) (sym over) forever
leaves_at_start board said first (inr (number, asked, has, text, asks)) =
    asked_leaves board board.start 0 asked first asks (number, number, has, has, omega arith)

left_by : (board : PlainBoard) (lines : List (List ℕ)) (text : List ℕ) (to : Standing)
    → IsPlayed (PersonAnswers board) lines text to → Leaves board to
left_by board lines text to played =
    leave_in_turn board played.first lines played.more to played.brings
    (leaves_at_start board played.opening played.first played.opens)

pub within : (board : PlainBoard) (lines : List (List ℕ)) (text at : List ℕ) (requests : ℕ)
    → IsPlayed (PersonAnswers board) lines text (Going at requests) → IsWithinValue board requests
within board lines text at requests played =
    let leaves = left_by board lines text (Going at requests) played in
    (leaves.0, leaves.2, omega (arith, leaves.4))

pub no_later : (board : PlainBoard) (lines : List (List ℕ)) (text : List ℕ) (end : PlayEnd)
    → IsTranscript (PersonAnswers board) lines text end → IsNoLater board end
no_later board lines text end (inl played) = left_by board lines text (Over end) played
no_later board lines text end (inr stops) =
    subst (IsNoLater board) (sym stops.5) (within board lines stops.1 stops.0 stops.2 stops.3)

-- ---- the person climbs

-- a play that is over was stopped
abbrev StopsOnly : Standing → Type 0
StopsOnly (Going at requests) = Unit {0}
StopsOnly (Over end) = IsStopped end

stop_on : (levels : ℕ) (from : Standing) (line said : List ℕ) (to : Standing)
    → IsResponse (PersonClimbs levels) from line said to → StopsOnly from → StopsOnly to
stop_on levels (Over end) line said to brings stops = subst StopsOnly (sym brings.1) stops
stop_on levels (Going at requests) line said to
    (inl (pebble, inside, spelled, (label, below, reply, text, goes))) stops = subst StopsOnly (sym goes) tt
stop_on levels (Going at requests) line said to (inr (inl (spelled, text, over))) stops =
    subst StopsOnly (sym over) (requests, refl)
stop_on levels (Going at requests) line said to (inr (inr (other, text, goes))) stops = subst StopsOnly (sym goes) tt

stop_in_turn : (levels : ℕ) (from : Standing) (lines : List (List ℕ)) (text : List ℕ) (to : Standing)
    → AreResponses (PersonClimbs levels) from lines text to → StopsOnly from → StopsOnly to
stop_in_turn levels from [] text to brought stops = subst StopsOnly brought.1 stops
stop_in_turn levels from (line ∷ lines) text to brought stops =
    stop_in_turn levels brought.2 lines brought.1 to brought.4
    (stop_on levels from line brought.0 brought.2 brought.3 stops)

pub only_stops : (levels : ℕ) (lines : List (List ℕ)) (text : List ℕ) (end : PlayEnd)
    → IsTranscript (PersonClimbs levels) lines text end → IsStopped end
only_stops levels lines text end (inl played) =
    stop_in_turn levels played.first lines played.more (Over end) played.brings
    (subst StopsOnly (sym played.opens.1) tt)
only_stops levels lines text end (inr stops) = (stops.2, stops.5)

-- ---- all of them

transcript : (game : Game) (left : Option (List ℕ)) (lines : List (List ℕ)) (rest text : List ℕ) (end : PlayEnd)
    → Ends (IsPlayed game) left lines rest text end → IsTranscript game lines text end
transcript game left lines rest text end (inl over) = inl over
transcript game left lines rest text end (inr stops) = inr stops.0

pub keeps_to_value : (game : Game) (left taken : Bytes) (end : PlayEnd) → HasEnded (IsPlayed game) left taken end
    → KeepsToValue game end
keeps_to_value game left taken end ended =
    by game ended.0 ended.2 (transcript game left.new ended.0 ended.1 ended.2 end ended.4)
  where
    by : (game : Game) (lines : List (List ℕ)) (text : List ℕ) → IsTranscript game lines text end
        → KeepsToValue game end
    by (PersonAsks board) lines text told = no_sooner board lines text end told
    by (PersonAnswers board) lines text told = no_later board lines text end told
    by (PersonClimbs levels) lines text told = only_stops levels lines text end told

-- ---- best play

-- after a best answer to a best request the value is one less
one_less : (board : PlainBoard) (configuration : List ℕ) (number pebble label : ℕ)
    → HasValue board configuration (Finite (suc number)) → IsBestRequest board configuration pebble
    → IsBestAnswer board configuration pebble label → HasValue board (moved configuration pebble label) (Finite number)
one_less board configuration number pebble label has request answer =
    let after = moved configuration pebble label in
    let less = less_than_finite board (suc number) after configuration has (request.0.lowers label answer.0.legal) in
    let tree = lasts_after board number configuration pebble label request.0.is_pebble answer has.0 in
    let same : less.0 ≡ number = elim (cases_lt less.0 number) [
      | inl sooner ↦ absurd (not_both_trees board (suc less.0) after
          (lasts_at_most board after (suc less.0) number (omega (arith, sooner)) tree) less.2.1)
      | inr not ↦ omega (arith, not, less.1)
    ] in
    subst (λ n. HasValue board after (Finite n)) same less.2

none_lower : (board : PlainBoard) (configuration : List ℕ) (pebble : ℕ) → HasValue board configuration (Finite 0)
    → IsBestRequest board configuration pebble
    → (label : ℕ) → Legal board configuration pebble label → ⊥
none_lower board configuration pebble has request label legal =
    let less = less_than_finite board 0 (moved configuration pebble label) configuration has
    (request.0.lowers label legal) in
    omega (arith, less.1)

pub ends_best_play : (board : PlainBoard) (configuration : List ℕ) (number : ℕ) → IsConfiguration board configuration
    → HasValue board configuration (Finite number)
    → EndsBestPlay board configuration number
ends_best_play board configuration zero is has =
    let request = best_request board zero configuration has in
    (request.0, request.1, none_lower board configuration request.0 has request.1)
ends_best_play board configuration (suc number) is has =
    let request = best_request board (suc number) configuration has in
    let some = has.0 request.0 request.1.0.is_pebble in
    let answer = best_answer board configuration request.0 is some.0 some.1 in (
      request.0,
      answer.0,
      request.1,
      answer.1,
      ends_best_play board (moved configuration request.0 answer.0) number
          (moved_is_configuration board configuration request.0 answer.0 answer.1.0.legal.is_label is)
          (one_less board configuration number request.0 answer.0 has request.1 answer.1),
    )

pub ends_exactly : (board : PlainBoard) (configuration : List ℕ) (number other : ℕ)
    → HasValue board configuration (Finite number) → EndsBestPlay board configuration other → other ≡ number
ends_exactly board configuration zero zero has ends = refl
ends_exactly board configuration zero (suc other) has ends =
    absurd (none_lower board configuration ends.0 has ends.2 ends.1 ends.3.0.legal)
ends_exactly board configuration (suc number) zero has ends =
    let some = has.0 ends.0 ends.1.0.is_pebble in absurd (ends.2 some.0 some.1)
ends_exactly board configuration (suc number) (suc other) has ends =
    ap suc (ends_exactly board (moved configuration ends.0 ends.1) number other
    (one_less board configuration number ends.0 ends.1 has ends.2 ends.3) ends.4)
