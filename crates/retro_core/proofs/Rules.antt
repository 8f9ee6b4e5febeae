-- The rules of a round, by numbers alone.
use Rattle.std.specs.Prelude.{◌≡◌, ℕ, zero, suc, ◌+◌, ◌<◌, ◌≤◌, cond, List, Option, Some, None}
use Rattle.std.specs.List.{All, sum_by}
use Rattle.index_lists.specs.Lists.{times}
use Rattle.graphs.specs.Graph.{PlainGraph, count_below, live_answers, lasts}
use Rattle.graphs.specs.Numbered.{graph_of}
use Rattle.solver.specs.Solving.{Solving, source}
use Rattle.solver.specs.Striking.{tally}
use Rattle.retro_core.specs.Round.{PlainSeat, spent_seat}

-- the value and the width of a round, the numbers of gaps and configurations; for each gap the number of its answers
-- above the value and its members above it; for each configuration the gap in which it is struck and its value before
pub record Rules : Type 0 where
  pub round : ℕ
  pub width : ℕ
  pub gaps : ℕ
  pub size : ℕ
  pub live : ℕ → ℕ
  pub opens : ℕ → List ℕ
  pub home : ℕ → ℕ
  pub base : ℕ → Option ℕ

-- the configuration has the round's value and a gap in which it is struck
pub record IsStruckIn (k : Rules) (rank : ℕ) : Type 0 where
  pub is_rank : rank < k.size
  pub has_gap : k.home rank < k.gaps
  pub has_value : k.base rank ≡ Some k.round

-- the configuration is an open member of a gap that has no answer above the round's value
pub record IsToWin (k : Rules) (rank : ℕ) : Type 0 where
  pub gap : ℕ
  pub is_gap : gap < k.gaps
  pub none_above : k.live gap ≡ 0
  pub is_open : 0 < times rank (k.opens gap)

-- the value word of a configuration that is in won lists this number of times
abbrev pub value_word : Rules → ℕ → ℕ → Option ℕ
value_word k rank zero = k.base rank
value_word k rank (suc more) = Some (suc k.round)

-- the number of times that a seat owes a configuration or has won it
abbrev pub held_in : ℕ → PlainSeat → ℕ
held_in rank seat = times rank seat.owed + times rank seat.won

-- open members are configurations without a value
pub record AreSound (k : Rules) : Type 0 where
  pub opened : (gap rank : ℕ) → gap < k.gaps → 0 < times rank (k.opens gap) → (rank < k.size) × (k.base rank ≡ None)

-- the words and the list to strike before the first step
pub record AreReadyLists (k : Rules) (count : ℕ → ℕ) (value : ℕ → Option ℕ) (todo : List ℕ) : Type 0 where
  pub counts : (gap : ℕ) → gap < k.gaps → count gap ≡ k.live gap + tally k.home gap todo
  pub values : (rank : ℕ) → rank < k.size → value rank ≡ k.base rank
  pub due : (rank : ℕ) → 0 < times rank todo → IsStruckIn k rank
  pub once : (rank : ℕ) → times rank todo ≤ 1
  pub settled : (gap rank : ℕ) → gap < k.gaps → count gap ≡ 0 → times rank (k.opens gap) ≡ 0
  pub some_width : 0 < k.width

-- a seat without a width is spent
abbrev pub Fits : PlainSeat → Type 0
Fits seat = seat.width ≡ 0 → seat ≡ spent_seat

-- the words and the seats keep the rules
pub record AreKept (k : Rules) (count : ℕ → ℕ) (value : ℕ → Option ℕ) (seats : List PlainSeat) : Type 0 where
  pub values : (rank : ℕ) → rank < k.size → value rank ≡ value_word k rank (sum_by (λ seat. times rank seat.won) seats)
  pub due : (rank : ℕ) → 0 < sum_by (λ seat. times rank seat.todo) seats → IsStruckIn k rank
  pub due_once : (rank : ℕ) → sum_by (λ seat. times rank seat.todo) seats ≤ 1
  pub counts : (gap : ℕ) → gap < k.gaps → count gap ≡ k.live gap + sum_by (λ seat. tally k.home gap seat.todo) seats
  pub next : (rank : ℕ) → 0 < sum_by (held_in rank) seats → IsToWin k rank
  pub won_once : (rank : ℕ) → sum_by (λ seat. times rank seat.won) seats ≤ 1
  pub closed : (gap rank : ℕ) → gap < k.gaps → count gap ≡ 0 → 0 < times rank (k.opens gap)
      → 0 < sum_by (held_in rank) seats
  pub widths : sum_by (λ seat. seat.width) seats ≡ k.width
  pub fits : All Fits seats

-- the value of a configuration if it is at most the round's: the number of requests that it lasts
abbrev pub value_before : PlainGraph → ℕ → ℕ → Option ℕ
value_before a round rank = cond (lasts a (suc round) rank) None (Some (count_below round (λ k. lasts a (suc k) rank)))

-- the rules of a round of a solver
abbrev pub rules_of : Solving → ℕ → Rules
rules_of s width = record {
  round = s.rounds;
  width = width;
  gaps = (graph_of s.game).gaps;
  size = (graph_of s.game).configurations;
  live = live_answers (graph_of s.game) (lasts (graph_of s.game) (suc s.rounds));
  opens = source s;
  home = (graph_of s.game).struck;
  base = value_before (graph_of s.game) s.rounds;
}
