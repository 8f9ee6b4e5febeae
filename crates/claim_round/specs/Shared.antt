-- A shared round as clauses see it: its key, its seats, how these split and join, and how it ends.
use Rattle.std.specs.Prelude.{◌≡◌, ℕ, suc, max, ◌<◌, ◌≤◌, ◌↔◌, List, [], ◌++◌, length}
use Rattle.std.specs.Prelude.{slice_index_or, Option, Some, None}
use Rattle.graphs.specs.Numbered.{graph_of, configuration_of}
use Rattle.atomic_table.specs.Seated.{TableId}
use Rattle.positions.specs.declared.value.Value.TheVariants.{Finite}
use Rattle.positions.specs.Value.{HasValue}
use Rattle.solver.specs.Solving.{Solving}
use Rattle.retro_core.specs.Round.{PlainSeat, seat_kept, seat_new, seat_joined}
use Rattle.retro_core.specs.declared.step.Seen.{Seen}
use Rattle.solver.specs.Ending.{IsRoundEnd}

-- the key of a table: the solver whose round it is, and the round's width
pub record Key : Type 0 where
  pub solving : Solving
  pub width : ℕ

-- the view of a seat: its round, its width and lists, the answers of its strikes and claims, each
-- with its index in the round's history, and the first index that its next one can have
pub record View : Type 0 where
  pub key : Key
  pub has : PlainSeat
  pub made : List (ℕ × Seen)
  pub since : ℕ

-- a shared round in clauses: its table and its key
pub record RoundId : Type 0 where
  pub table : TableId
  pub key : Key

-- a seat in clauses: its table and its view
pub record SeatId : Type 0 where
  pub table : TableId
  pub view : View

-- the two seats after a split: the answers told stay with the first, and both go on after them
abbrev pub kept_part : View → View
kept_part v = record { key = v.key; has = seat_kept v.has; made = v.made; since = v.since }

abbrev pub new_part : View → View
new_part v = record { key = v.key; has = seat_new v.has; made = []; since = v.since }

-- the seat after a join: it was told the answers of both, and goes on after both
abbrev pub view_joined : View → View → View
view_joined v u =
    record {
      key = v.key;
      has = seat_joined v.has u.has;
      made = v.made ++ u.made;
      since = max v.since u.since;
    }

-- ---- relations of clauses

-- the seat is one of the round's
abbrev pub IsOf : RoundId → SeatId → Type 0
IsOf r p = (p.table ≡ r.table) × (p.view.key ≡ r.key) × (0 < p.view.has.width)

-- it is a seat of the same round
abbrev pub IsOfSameRound : SeatId → SeatId → Type 0
IsOfSameRound p q = (q.table ≡ p.table) × (q.view.key ≡ p.view.key)

-- a seat was cut in two: the part that it keeps, and a new seat of the same table
abbrev pub IsSplit : SeatId → SeatId → SeatId → Type 0
IsSplit seat kept new = (kept.table ≡ seat.table) × (kept.view ≡ kept_part seat.view)
    × (new.table ≡ seat.table) × (new.view ≡ new_part seat.view)

-- a seat took over all that another one had
abbrev pub IsJoined : SeatId → SeatId → SeatId → Type 0
IsJoined into from both = (both.table ≡ into.table) × (both.view ≡ view_joined into.view from.view)

-- a closed round in clauses: the count of each gap, the value of each configuration that has one,
-- and the configurations won
pub record Ended : Type 0 where
  pub counts : List ℕ
  pub values : List (Option ℕ)
  pub won : List ℕ

-- the seat has the round's whole width and nothing left to do, and the round's won list is its own
abbrev pub IsClosedBy : RoundId → SeatId → Ended → Type 0
IsClosedBy r p e = (p.view.has.width ≡ r.key.width) × (p.view.has.todo ≡ [])
    × (p.view.has.owed ≡ []) × (e.won ≡ p.view.has.won)

-- the round of this solver is finished
pub record Finishes (s : Solving) (e : Ended) : Type 0 where
  pub end : IsRoundEnd s e.won e.counts
  pub wide : length e.values ≡ (graph_of s.game).configurations
  pub values : (rank value : ℕ) → rank < (graph_of s.game).configurations
      → (slice_index_or e.values rank None ≡ Some value)
      ↔ ((value ≤ suc s.rounds)
      × HasValue s.game.board (configuration_of s.game rank) (Finite value))
