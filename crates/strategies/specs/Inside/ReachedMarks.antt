-- Numbers that were reached, as marks.
use Rattle.std.specs.Prelude.{◌≡◌, ℕ, zero, suc, ◌+◌, ◌^◌, ◌<◌, if◌then◌else◌, Bool, false, List}
use Rattle.std.specs.Prelude.{length, replicate, slice_index_or}
use Rattle.strategies.specs.Inside.Marks.{IsMarked}
use Rattle.strategies.specs.Inside.Reached.{ReachedBy, Room}

-- marks of the numbers that were reached, and of those from which no step was taken yet
pub record ReachedMarks : Type 0 where
  pub reached : List Bool
  pub left : List Bool

-- none of the `size` numbers is reached
abbrev pub none_reached : ℕ → ReachedMarks
none_reached size = record { reached = replicate size false; left = replicate size false }

-- those that are left were reached
pub record AreLeftOfReached (reached left : List Bool) : Type 0 where
  pub size : length left ≡ length reached
  pub few : length reached < 2 ^ 32
  pub known : (number : ℕ) → IsMarked left number → IsMarked reached number

-- no number is left
abbrev pub NoMarkIsLeft : ReachedMarks → Type 0
NoMarkIsLeft marks = (number : ℕ) → IsMarked marks.left number → ⊥

-- the numbers that are marked
abbrev pub reached_by_marks : ReachedMarks → ReachedBy
reached_by_marks marks = record { Among = IsMarked marks.reached; IsLeft = IsMarked marks.left }

-- one for a number from which a step can still be taken: it is left, or wasn't reached
abbrev pub one_if_undone : Bool → Bool → ℕ
one_if_undone reached left = if left then 1 else (if reached then 0 else 1)

-- how many numbers below a bound there are of which that is so
abbrev pub undone : ReachedMarks → ℕ → ℕ
undone marks zero = 0
undone marks (suc bound) = undone marks bound
    + one_if_undone (slice_index_or marks.reached bound false)
    (slice_index_or marks.left bound false)

-- a mark for each number below the size; they are never too many
abbrev pub room_of_marks : ReachedMarks → Room
room_of_marks marks = record {
  bound = length marks.reached;
  most = length marks.reached;
  steps = undone marks (length marks.reached);
}
