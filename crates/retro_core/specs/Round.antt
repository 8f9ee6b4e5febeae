-- A round at the value of a solver: its words and seats, when they are lawful, how it begins, and
-- the effects of its steps.
use Rattle.std.specs.Prelude.{◌≡◌, ℕ, suc, ◌+◌, ◌-◌, ◌/◌, ◌<◌, ◌≤◌, ◌↔◌, ◌⊎◌, ◌==◌, Bool, cond}
use Rattle.std.specs.Prelude.{List, [], ◌∷◌, ◌++◌, length, take}
use Rattle.std.specs.Prelude.{drop, slice_index, slice_index_or, slice_set, Option, Some, None}
use Rattle.std.specs.Option.{is_none}
use Rattle.std.specs.List.{flat_map, sum_by}
use Rattle.index_lists.specs.Lists.{times}
use Rattle.positions.specs.declared.value.Value.TheVariants.{Finite}
use Rattle.positions.specs.Game.{LabellerTree}
use Rattle.positions.specs.Value.{HasValue}
use Rattle.positions.specs.Counts.{HasSize}
use Rattle.graphs.specs.Answers.{IsAnswerIn}
use Rattle.graphs.specs.Graph.{PlainGraph}
use Rattle.graphs.specs.Numbered.{Numbered, graph_of, configuration_of}
use Rattle.solver.specs.Solving.{Solving, AnswerLasts, IsWorth, source, to_strike}

-- a seat's width, and the configurations that it has to strike, that it owes, and that it has won
pub record PlainSeat : Type 0 where
  pub width : ℕ
  pub todo : List ℕ
  pub owed : List ℕ
  pub won : List ℕ

-- a round of a solver, of a width: a count for each gap, a value for each configuration that has
-- one, and each seat that was ever made
pub record Round : Type 0 where
  pub solving : Solving
  pub width : ℕ
  pub counts : List ℕ
  pub values : List (Option ℕ)
  pub seats : List PlainSeat

-- the round of these parts
abbrev pub round_of : Solving → ℕ → List ℕ → List (Option ℕ) → List PlainSeat → Round
round_of s width counts values seats =
    record { solving = s; width = width; counts = counts; values = values; seats = seats }

-- the game of a round and its graph, the value that the round is at, and the value that it gives
abbrev pub game_of : Round → Numbered
game_of round = round.solving.game

abbrev pub round_graph : Round → PlainGraph
round_graph round = graph_of round.solving.game

abbrev pub value_of : Round → ℕ
value_of round = round.solving.rounds

abbrev pub next_value : Round → ℕ
next_value round = suc (value_of round)

-- a seat that was joined into another
abbrev pub spent_seat : PlainSeat
spent_seat = record { width = 0; todo = []; owed = []; won = [] }

-- the seat of a number; a number that no seat has yet is like a spent one
abbrev pub seat_at : Round → ℕ → PlainSeat
seat_at round seat = slice_index_or round.seats seat spent_seat

-- the configurations that all seats have to strike
abbrev pub all_todo : Round → List ℕ
all_todo round = flat_map (λ seat. seat.todo) round.seats

-- the configurations that all seats owe
abbrev pub all_owed : Round → List ℕ
all_owed round = flat_map (λ seat. seat.owed) round.seats

-- the configurations that all seats have won
abbrev pub all_won : Round → List ℕ
all_won round = flat_map (λ seat. seat.won) round.seats

-- the configurations of a value that are answers in some
-- gap must be struck in a round at that value
pub record IsDue (n : Numbered) (rank value : ℕ) : Type 0 where
  pub worth : IsWorth n rank value
  pub struck : (graph_of n).struck rank < (graph_of n).gaps

-- `count` is the number of a gap's answers that lead to a value above the round's or to a
-- configuration that a seat has to strike
pub record IsCount (round : Round) (gap count : ℕ) : Type 0 where
  pub above : ℕ
  pub waiting : ℕ
  pub are_above : HasSize (AnswerLasts (game_of round) gap (next_value round)) above
  pub are_waiting : HasSize (λ place. IsAnswerIn (round_graph round) gap place
      × (0 < times ((round_graph round).member gap place) (all_todo round))) waiting
  pub sum : count ≡ above + waiting

-- the words and the seats fit the values of the game
pub record IsLawful (round : Round) : Type 0 where
  pub counts_length : length round.counts ≡ (round_graph round).gaps
  pub values_length : length round.values ≡ (round_graph round).configurations
  -- a value is written if it is at most the round's,
  -- or if it is the next one and the rank is in a won list
  pub values : (rank value : ℕ) → rank < (round_graph round).configurations
      → (slice_index_or round.values rank None ≡ Some value)
      ↔ (((value ≤ value_of round)
      × HasValue (game_of round).board (configuration_of (game_of round) rank) (Finite value))
      ⊎ ((value ≡ next_value round) × (0 < times rank (all_won round))))
  pub due : (rank : ℕ)
      → 0 < times rank (all_todo round) → IsDue (game_of round) rank (value_of round)
  pub due_once : (rank : ℕ) → times rank (all_todo round) ≤ 1
  pub counts : (gap : ℕ) → gap < (round_graph round).gaps
      → IsCount round gap (slice_index round.counts gap)
  pub owed : (rank : ℕ)
      → 0 < times rank (all_owed round) → IsWorth (game_of round) rank (next_value round)
  pub won : (rank : ℕ)
      → 0 < times rank (all_won round) → IsWorth (game_of round) rank (next_value round)
  pub won_once : (rank : ℕ) → times rank (all_won round) ≤ 1
  -- the members of a closed gap that have no value of at most the round's are owed or won
  pub closed : (gap place : ℕ) → gap < (round_graph round).gaps → slice_index round.counts gap ≡ 0
      → place < (round_graph round).places
      → LabellerTree (game_of round).board (next_value round)
      (configuration_of (game_of round) ((round_graph round).member gap place))
      → (0 < times ((round_graph round).member gap place) (all_owed round))
      ⊎ (0 < times ((round_graph round).member gap place) (all_won round))
  pub widths : sum_by (λ seat. seat.width) round.seats ≡ round.width
  pub spent_seats : (seat : ℕ) → (seat_at round seat).width ≡ 0 → seat_at round seat ≡ spent_seat

-- the round with one seat, which has the whole width and all to strike
abbrev pub opening_round : Solving → ℕ → List ℕ → List (Option ℕ) → List ℕ → Round
opening_round s width counts values ranks =
    round_of s width counts values
    (record { width = width; todo = ranks; owed = []; won = [] } ∷ [])

-- one seat has the whole width and all to strike, and nothing is owed or won
pub record IsOpening (s : Solving) (width : ℕ) (round : Round) : Type 0 where
  pub ranks : List ℕ
  pub to_strike_is : ranks ≡ to_strike s
  pub is : round ≡ opening_round s width round.counts round.values ranks
  pub lawful : IsLawful round

-- no seat has anything to strike or owed
pub record IsWorkedOff (round : Round) : Type 0 where
  pub no_todo : (seat : ℕ) → (seat_at round seat).todo ≡ []
  pub no_owed : (seat : ℕ) → (seat_at round seat).owed ≡ []

-- the won configurations are exactly those of the value after the round's, each once
abbrev pub HasWonAll : Round → Type 0
HasWonAll round = (rank : ℕ) → (times rank (all_won round) ≤ 1)
    × ((0 < times rank (all_won round)) ↔ IsWorth (game_of round) rank (next_value round))

-- the first of a list
abbrev pub first_of : List ℕ → ℕ
first_of ranks = slice_index ranks 0

-- the seat after it struck in a gap of this count: with the last,
-- the open members of the gap are owed
abbrev pub seat_struck : Solving → ℕ → ℕ → PlainSeat → PlainSeat
seat_struck s gap count seat =
    record seat {
      todo = drop 1 seat.todo;
      owed = cond (count == 1) (seat.owed ++ source s gap) seat.owed;
    }

-- the seat after it claimed the first that it owes
abbrev pub seat_tried : Bool → PlainSeat → PlainSeat
seat_tried is_open seat =
    record seat {
      owed = drop 1 seat.owed;
      won = cond is_open (seat.won ++ first_of seat.owed ∷ []) seat.won;
    }

-- the half that a seat keeps when it is split
abbrev pub seat_kept : PlainSeat → PlainSeat
seat_kept seat =
    record seat {
      width = seat.width - seat.width / 2;
      todo = take (length seat.todo - length seat.todo / 2) seat.todo;
    }

-- the new seat of a split
abbrev pub seat_new : PlainSeat → PlainSeat
seat_new seat =
    record {
      width = seat.width / 2;
      todo = drop (length seat.todo - length seat.todo / 2) seat.todo;
      owed = [];
      won = [];
    }

-- two seats as one
abbrev pub seat_joined : PlainSeat → PlainSeat → PlainSeat
seat_joined into from = record {
  width = into.width + from.width;
  todo = into.todo ++ from.todo;
  owed = into.owed ++ from.owed;
  won = into.won ++ from.won;
}

-- the round after the seat struck in the gap
abbrev pub round_struck : Round → ℕ → ℕ → Round
round_struck round seat gap = record round {
  counts = slice_set round.counts gap (slice_index round.counts gap - 1);
  seats =
      slice_set round.seats seat
      (seat_struck round.solving gap (slice_index round.counts gap) (seat_at round seat));
}

-- whether the first that a seat owes has no value yet
abbrev pub first_is_open : Round → ℕ → Bool
first_is_open round seat =
    is_none (slice_index_or round.values (first_of (seat_at round seat).owed) None)

-- the round after the seat claimed the first that it owes
abbrev pub round_tried : Round → ℕ → Round
round_tried round seat = record round {
  values = cond (first_is_open round seat)
      (slice_set round.values (first_of (seat_at round seat).owed) (Some (next_value round)))
      round.values;
  seats = slice_set round.seats seat (seat_tried (first_is_open round seat) (seat_at round seat));
}

-- the round after the seat was split
abbrev pub round_split : Round → ℕ → Round
round_split round seat = record round {
  seats =
      slice_set round.seats seat (seat_kept (seat_at round seat))
      ++ seat_new (seat_at round seat) ∷ [];
}

-- the round after one seat was joined into another
abbrev pub round_joined : Round → ℕ → ℕ → Round
round_joined round into from = record round {
  seats =
      slice_set (slice_set round.seats into
      (seat_joined (seat_at round into) (seat_at round from))) from spent_seat;
}
