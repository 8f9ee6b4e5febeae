-- Numbers that were reached, as a list.
use Rattle.std.specs.Prelude.{◌≡◌, ℕ, ◌-◌, ◌^◌, ◌<◌, ◌≤◌, List, [], Contains, length, slice_index}
use Rattle.strategies.specs.Inside.Reached.{ReachedBy, Room}

-- the numbers in the order in which they were reached, how many of them were taken, and how many
-- there may be
pub record ReachedList : Type 0 where
  pub numbers : List ℕ
  pub taken : ℕ
  pub most : ℕ

-- none is reached
abbrev pub none_listed : ℕ → ReachedList
none_listed most = record { numbers = []; taken = 0; most = most }

-- so many of the numbers were taken
abbrev pub AreTakenOf : List ℕ → ℕ → Type 0
AreTakenOf numbers taken = taken ≤ length numbers

-- the number is in the list after those that were taken
abbrev pub IsYetToTake : ReachedList → ℕ → Type 0
IsYetToTake list number = (index : ℕ) × (list.taken ≤ index) × (index < length list.numbers)
    × (slice_index list.numbers index ≡ number)

-- the numbers of the list
abbrev pub reached_by_list : ReachedList → ReachedBy
reached_by_list list = record { Among = Contains list.numbers; IsLeft = IsYetToTake list }

-- there is room for all numbers that a machine has
abbrev pub room_of_list : ReachedList → Room
room_of_list list = record { bound = 2 ^ 64; most = list.most; steps = 2 ^ 64 - list.taken }
