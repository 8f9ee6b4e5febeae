-- The fields of a seat, beside its view.
use Rattle.std.specs.Prelude.{◌≡◌, ℕ, ◌+◌, ◌*◌, ◌^◌, ◌<◌, ◌≤◌, ◌⊎◌, [], length, vec_capacity}
use Rattle.std.specs.VecDeque.{deque_capacity}
use Rattle.index_lists.specs.Lists.{times}
use Rattle.claim_round.specs.Shared.{Key, SeatId}
use Rattle.retro_core.specs.Round.{IsDue}
use Rattle.claim_round.specs.Rule.{most_members, size}
use Rattle.claim_round.specs.declared.seat.RoundSeat.TheInside.{Inside}

-- it has the round's value and is an answer in some gap
abbrev pub IsDueIn : Key → ℕ → Type 0
IsDueIn k rank = IsDue k.solving.game rank k.solving.rounds

abbrev pub seat_id_of : Inside → SeatId
seat_id_of s = record { table = s.seat.table_id; view = s.seat.me.0 }

-- there is room for the entries that may be won: for all configurations,
-- or for all that may be owed, which are few
pub record SeatHasRoom (k : Key) (won owed todo room : ℕ) : Type 0 where
  pub places : (size k ≤ room) ⊎ (won + owed + most_members k * todo ≤ room)
  pub few : owed + most_members k * todo ≤ most_members k * size k
  pub narrow : most_members k * size k < 2 ^ 32
  pub some_most : 0 < most_members k

-- the real lists are those of the view, the entries to do and owed are of the game, and there is
-- room for those that may be owed and won
pub record IsSeated (s : Inside) : Type 0 where
  pub free : s.seat.me.1 ≡ []
  pub todo : s.todo.items ≡ s.seat.me.0.has.todo
  pub owed : s.owed.items ≡ s.seat.me.0.has.owed
  pub won : s.won.items ≡ s.seat.me.0.has.won
  pub width : s.width ≡ s.seat.me.0.has.width
  pub due : (c : ℕ) → 0 < times c s.seat.me.0.has.todo → IsDueIn s.seat.me.0.key c
  pub inside : (c : ℕ) → 0 < times c s.seat.me.0.has.owed → c < size s.seat.me.0.key
  pub room_owed : most_members s.seat.me.0.key ≤ deque_capacity s.owed
  pub room : SeatHasRoom s.seat.me.0.key (length s.won.items) (length s.owed.items)
      (length s.todo.items) (vec_capacity s.won)
